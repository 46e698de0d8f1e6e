-- The settings of a shortest card, in an order that suits an operator.
use Rattle.std.specs.Prelude.{◌≡◌, List, IsPermutation}
use Rattle.kd_state.specs.declared.machine.parts.Parts.{Parts}
use Rattle.kd_state.specs.declared.setting.Setting.{Setting}
use Rattle.kd_state.specs.SheetDay.{Day}
use Rattle.kd_card.specs.Shortest.{IsShortest, LeadsToTheDay}
use Rattle.kd_card.specs.declared.prices.PriceParts.{PriceParts}
use Rattle.kd_plan.specs.Planned.{IsProvedPlannedCard}
use Rattle.kd_booklet.specs.HandOrder.{in_hand_order}

-- `settings` are the settings of a planned card in the operator's order: rings come first, window letters last. They
-- lead to day `s`, and no shorter list does.
pub record IsHandList (m : Parts) (s : Day) (settings : List Setting) : Type 0 where
  pub planned : List Setting
  pub prices : PriceParts
  pub of_planner : IsProvedPlannedCard m s planned prices
  pub order : settings ≡ in_hand_order planned
  pub same : IsPermutation planned settings
  pub leads : LeadsToTheDay m s settings
  pub shortest : IsShortest m s settings
