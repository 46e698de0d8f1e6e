-- A day's plan: a shortest list of settings to the day, in the order of the page's checkboxes.
-- Test: tests/cases/curator-pages.toml
use Rattle.std.specs.Prelude.{◌≡◌, ◌≤◌, List, length}
use Rattle.kd_state.specs.declared.machine.parts.Parts.{Parts}
use Rattle.kd_state.specs.declared.machine.parts.Parts.TheVariants.{Pin, Rotor}
use Rattle.kd_state.specs.declared.setting.Setting.{Setting}
use Rattle.kd_state.specs.Machine.{model_of}
use Rattle.kd_state.specs.Setting.{Leads}
use Rattle.kd_state.specs.SheetDay.{Day, day_number}
use Rattle.kd_state.specs.SheetsMachine.{IsSheetsMachine}
use Rattle.kd_page.specs.PageOrder.{IsPinOrder, IsRotorOrder, page_boxes}
use Rattle.kd_booklet.specs.HandList.{IsHandList}
use Rattle.kd_booklet.specs.declared.day_plan.DayPlan.{DayPlan}

-- The settings are in the order of their checkboxes on a page for the machine.
abbrev pub IsPageOrder : Parts → List Setting → Type 0
IsPageOrder (Rotor m) settings = IsRotorOrder settings
IsPageOrder (Pin m) settings = IsPinOrder settings

-- The settings are a shortest list from machine `m` to day `s`, in the order of their checkboxes on a page. They lead
-- from machine `m` to machine `n`. Machine `n` is set as the day says, shows the day's letters, and enciphers as the
-- day asks.
pub record IsDayPlan (m : Parts) (s : Day) (plan : DayPlan) (n : Parts) : Type 0 where
  pub number : plan.day ≡ day_number s
  pub by_hand : IsHandList m s plan.settings.items
  pub order : IsPageOrder m plan.settings.items
  pub boxes : page_boxes (model_of m) plan.settings.items ≡ plan.settings.items
  pub few : length plan.settings.items ≤ 192
  pub leads : Leads m plan.settings.items n
  pub sheets : IsSheetsMachine n s
