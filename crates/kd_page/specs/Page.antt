-- The values that the page of a day shows.
use Rattle.std.specs.Prelude.{ℕ, List}
use Rattle.kd_state.specs.declared.machine.parts.Parts.{Parts}
use Rattle.kd_state.specs.declared.setting.Setting.{Setting}
use Rattle.kd_language.specs.declared.language.Language.{Language}

-- A day's page in a language. The page shows the day, the machine before and after the settings, and the settings in
-- the order of the page. `sheet` is the name of the key sheet's file.
pub record Page : Type 0 where
  pub language : Language
  pub sheet : List ℕ
  pub day : ℕ
  pub before : Parts
  pub after : Parts
  pub settings : List Setting

abbrev pub page_of : Language → List ℕ → ℕ → Parts → Parts → List Setting → Page
page_of language sheet day before after settings = record {
  language = language;
  sheet = sheet;
  day = day;
  before = before;
  after = after;
  settings = settings;
}
