-- The pages of days that are planned.
use Rattle.std.proofs.Common.{◌≡◌, ℕ, List, [], ◌∷◌, ◌++◌, Option, Result, Ok, Err, IfErr, IsOk, refl, subst}
use Rattle.std.proofs.Common.{arith, length}
use Rattle.kd_page.specs.DayPage.{day_text}
use Rattle.kd_page.specs.Page.{page_of}
use Rattle.kd_language.specs.declared.language.Language.{Language}
use Rattle.kd_state.specs.declared.machine.parts.Parts.{Parts}
use Rattle.kd_state.specs.declared.setting.Setting.{Setting}
use Rattle.kd_state.specs.declared.setting.why.IllegalAt.{IllegalAt}
use Rattle.kd_state.specs.Setting.{IsFirstIllegal, Leads}
use Rattle.kd_state.specs.SheetDay.{Day}
use Rattle.kd_state.specs.TwoCiphers.{IsReady}
use Rattle.kd_state.proofs.Carrying.{lead_or_refuse, leads_unique}
use Rattle.kd_booklet.specs.Booklet.{ArePages, AreDrawable, IsDrawable}
use Rattle.kd_booklet.specs.Chain.{ArePlanned}
use Rattle.kd_booklet.specs.declared.day_plan.DayPlan.{DayPlan}

-- the machine that the settings lead to is ready
pub drawn_ready : (m n other : Parts) (plan : DayPlan) → IsDrawable m plan n → Leads m plan.settings.items other
    → IsReady other
drawn_ready m n other plan drawable leads =
    subst IsReady (leads_unique m n other plan.settings.items drawable.leads leads) drawable.ready

-- the days after the first can be drawn from the machine that the first day's settings lead to
pub drawn_on : (m other : Parts) (plan : DayPlan) (rest all : List DayPlan) → all ≡ plan ∷ rest → AreDrawable m all
    → Leads m plan.settings.items other → AreDrawable other rest
drawn_on m other plan rest all is drawable leads =
    let these = subst (AreDrawable m) is drawable in
    subst (λ k. AreDrawable k rest) (leads_unique m these.0 other plan.settings.items these.1.leads leads) these.2

pub drawn_first : (m : Parts) (plan : DayPlan) (rest all : List DayPlan) → all ≡ plan ∷ rest → AreDrawable m all
    → (n : Parts) × IsDrawable m plan n
drawn_first m plan rest all is drawable = let these = subst (AreDrawable m) is drawable in (these.0, these.1)

-- a day's page, and then the pages of the days after it, are the pages of all
pub pages_next : (l : Language) (sheet : List ℕ) (m n : Parts) (plan : DayPlan) (rest all : List DayPlan) (more : List ℕ)
    → all ≡ plan ∷ rest → Leads m plan.settings.items n → ArePages l sheet n rest more
    → ArePages l sheet m all (day_text (page_of l sheet plan.day m n plan.settings.items) ++ more)
pages_next l sheet m n plan rest all more is leads are = rw is (n, more, leads, refl, are)

-- settings that lead to a machine can be carried out
pub carries_all : (m n : Parts) (xs : List Setting) (answer : Result Parts IllegalAt) → Leads m xs n
    → IfErr answer (λ fault. IsFirstIllegal m xs fault.line fault.why) → IsOk answer
carries_all m n xs (Ok after) leads refused = refl
carries_all m n xs (Err fault) leads refused = absurd (lead_or_refuse m n xs fault.line fault.why leads refused)

-- days that are planned can be drawn
pub planned_drawable : (month : List (Option Day)) (m : Parts) (numbers : List ℕ) (plans : List DayPlan)
    → ArePlanned month m numbers plans → AreDrawable m plans
planned_drawable month m [] [] planned = tt
planned_drawable month m [] (plan ∷ plans) planned = absurd planned
planned_drawable month m (number ∷ numbers) [] planned = absurd planned
planned_drawable month m (number ∷ numbers) (plan ∷ plans) (n, one, rest) = (
  n,
  record { leads = one.plans.leads; ready = one.plans.sheets.ready; few = one.plans.few },
  planned_drawable month n numbers plans rest,
)

-- no plans are for no days
pub planned_none : (month : List (Option Day)) (m : Parts) (numbers : List ℕ) (plans : List DayPlan)
    → length plans ≡ 0 → ArePlanned month m numbers plans → numbers ≡ []
planned_none month m [] plans none planned = refl
planned_none month m (number ∷ numbers) [] none planned = absurd planned
planned_none month m (number ∷ numbers) (plan ∷ plans) none planned = absurd (omega arith)
