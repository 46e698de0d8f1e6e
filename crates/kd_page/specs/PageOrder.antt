-- The settings that have a checkbox on a page, in the order of the checkboxes from the top. If settings are in a page's
-- order, each of them has a checkbox.
use Rattle.std.specs.Prelude.{ℕ, ◌<◌, ◌≤◌, List, [], ◌∷◌, ◌++◌, filter, flat_map, ◌≡◌, if◌then◌else◌}
use Rattle.kd_tables.specs.declared.model.Model.{Model}
use Rattle.kd_tables.specs.Permutation.{alphabet}
use Rattle.kd_state.specs.declared.setting.Setting.{Setting}
use Rattle.kd_pictures.specs.declared.numbers.TheConstants.{BARS, CABLES, PIN_WHEELS, SLOTS}
use Rattle.kd_pictures.specs.Words.{is_converter}
use Rattle.kd_page.specs.declared.spots.Spot.{Spot}
use Rattle.kd_page.specs.declared.spots.Step.{Step}
use Rattle.kd_page.specs.declared.spots.Step.TheVariants.{Rings, Seats, PlugsOut, PlugsIn, Pins, Lugs, Turns}
use Rattle.kd_page.specs.Pins.{pin_spot}
use Rattle.kd_page.specs.Spots.{cell_of, is_at, row_of, row_spot, step_of, step_rank, step_spot}

abbrev pub settings_at : Spot → List Setting → List Setting
settings_at spot settings = filter (is_at spot) settings

-- the settings whose checkboxes are in the rows `rows` of the table of `step`, row by row
abbrev pub row_by_row : Step → List ℕ → List Setting → List Setting
row_by_row step rows settings = flat_map (λ row. settings_at (row_spot step row) settings) rows

-- the settings of pins, ordered by wheel, and for each wheel by letter
abbrev pub pin_by_pin : List Setting → List Setting
pin_by_pin settings =
    flat_map (λ wheel. flat_map (λ letter. settings_at (pin_spot wheel letter) settings) alphabet) PIN_WHEELS

-- the settings that have a checkbox on a rotor machine's page, in the order of the checkboxes from the top
abbrev pub rotor_boxes : List Setting → List Setting
rotor_boxes settings =
    settings_at (step_spot Rings) settings ++ settings_at (step_spot Seats) settings
    ++ row_by_row PlugsOut CABLES settings ++ row_by_row PlugsIn CABLES settings ++ row_by_row Turns SLOTS settings

-- the settings that have a checkbox on a Converter's page, in the order of the checkboxes from the top
abbrev pub pin_boxes : List Setting → List Setting
pin_boxes settings = pin_by_pin settings ++ row_by_row Lugs BARS settings ++ row_by_row Turns PIN_WHEELS settings

-- the settings that have a checkbox on the page of any model, in the order of the checkboxes from the top
abbrev pub page_boxes : Model → List Setting → List Setting
page_boxes model settings = if is_converter model then pin_boxes settings else rotor_boxes settings

-- ---- The order of a page.

-- The function `key` gives each item of the list a number. From item to item, these numbers never fall. Each number is
-- at least `from` and less than `end`.
abbrev pub IsRanked : {X : Type 0} → (X → ℕ) → ℕ → ℕ → List X → Type 0
IsRanked key from end [] = Unit {0}
IsRanked key from end (x ∷ xs) = (from ≤ key x) × (key x < end) × IsRanked key (key x) end xs

abbrev pub step_number : Setting → ℕ
step_number x = step_rank (step_of x)

-- The settings of a rotor machine come step by step. In a step that has a table, the settings come row by row.
pub record IsRotorOrder (settings : List Setting) : Type 0 where
  pub steps : IsRanked step_number 0 7 settings
  pub no_pins : settings_at (step_spot Pins) settings ≡ []
  pub no_lugs : settings_at (step_spot Lugs) settings ≡ []
  pub out : IsRanked row_of 1 14 (settings_at (step_spot PlugsOut) settings)
  pub «in» : IsRanked row_of 1 14 (settings_at (step_spot PlugsIn) settings)
  pub turns : IsRanked row_of 1 5 (settings_at (step_spot Turns) settings)

-- The settings of a Converter come step by step. Settings of pins come wheel by wheel, and on each wheel letter by
-- letter. Settings of lugs come bar by bar.
pub record IsPinOrder (settings : List Setting) : Type 0 where
  pub steps : IsRanked step_number 4 7 settings
  pub pins : IsRanked row_of 1 7 (settings_at (step_spot Pins) settings)
  pub cells : (wheel : ℕ) → IsRanked cell_of 0 26 (settings_at (row_spot Pins wheel) settings)
  pub lugs : IsRanked row_of 1 28 (settings_at (step_spot Lugs) settings)
  pub turns : IsRanked row_of 1 7 (settings_at (step_spot Turns) settings)

-- Suppose that settings are in a page's order. Then the page has a checkbox for each of these settings, in this order
-- from the top. The page has no other checkbox.
abbrev pub RotorBoxesAreTheSettings : Type 0
RotorBoxesAreTheSettings = (settings : List Setting) → IsRotorOrder settings → rotor_boxes settings ≡ settings

abbrev pub PinBoxesAreTheSettings : Type 0
PinBoxesAreTheSettings = (settings : List Setting) → IsPinOrder settings → pin_boxes settings ≡ settings
