-- The pages of several days, in one file.
-- Test: tests/cases/curator-pages.toml
use Rattle.std.specs.Prelude.{◌≡◌, ℕ, ◌≤◌, List, [], ◌∷◌, ◌++◌, length, map}
use Rattle.kd_page.specs.DayPage.{day_text}
use Rattle.kd_page.specs.Head.{file_text}
use Rattle.kd_page.specs.Page.{page_of}
use Rattle.kd_page.specs.declared.head.ListedDay.{ListedDay}
use Rattle.kd_language.specs.declared.language.Language.{Language}
use Rattle.kd_state.specs.declared.machine.parts.Parts.{Parts}
use Rattle.kd_state.specs.Machine.{model_of}
use Rattle.kd_state.specs.Setting.{Leads}
use Rattle.kd_state.specs.TwoCiphers.{IsReady}
use Rattle.kd_booklet.specs.declared.day_plan.DayPlan.{DayPlan}

-- The text has the pages of the planned days, and nothing else. `sheet` is the name of the key sheet's file. The first
-- page is for machine `m`. Each later page is for the machine to which the settings of the previous page lead.
abbrev pub ArePages : Language → List ℕ → Parts → List DayPlan → List ℕ → Type 0
ArePages l sheet m [] text = text ≡ []
ArePages l sheet m (plan ∷ plans) text = (n : Parts) × (more : List ℕ) × Leads m plan.settings.items n
    × (text ≡ day_text (page_of l sheet plan.day m n plan.settings.items) ++ more) × ArePages l sheet n plans more

-- the entry for a planned day in the list of days: the day's number, and how many settings the day has
abbrev pub listed_day : DayPlan → ListedDay
listed_day plan = record { day = plan.day; settings = length plan.settings.items }

-- The text is the file with the pages of the planned days `first` and `others`, in language `l`. The list of the days
-- comes first, then the pages. `sheet` is the name of the key sheet's file. The first page is for machine `m`.
pub record IsBooklet (l : Language) (sheet : List ℕ) (m : Parts) (first : DayPlan) (others : List DayPlan)
    (text : List ℕ) : Type 0 where
  pub pages : List ℕ
  pub are_pages : ArePages l sheet m (first ∷ others) pages
  pub whole : text ≡ file_text l (model_of m) sheet (listed_day first) (map listed_day others) pages

-- The plan's settings lead from machine `m` to machine `n`. Machine `n` is ready to encipher. The plan has at most 192
-- settings, few enough for a page.
pub record IsDrawable (m : Parts) (plan : DayPlan) (n : Parts) : Type 0 where
  pub leads : Leads m plan.settings.items n
  pub ready : IsReady n
  pub few : length plan.settings.items ≤ 192

-- Each day's page can be drawn. The first page starts from machine `m`. Each later page starts from the machine to
-- which the previous plan leads.
abbrev pub AreDrawable : Parts → List DayPlan → Type 0
AreDrawable m [] = Unit {0}
AreDrawable m (plan ∷ plans) = (n : Parts) × IsDrawable m plan n × AreDrawable n plans
