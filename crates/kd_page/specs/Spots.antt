-- The spots of a page's checkboxes. Each checkbox is in a step of the page. In a step with a table, the checkbox is in
-- a row of the table. In a row with cells, the checkbox is in a cell of the row.
use Rattle.std.specs.Prelude.{ℕ, nat_eq, Bool, true, ◌&&◌, List, filter, length, Some, None}
use Rattle.std.specs.Option.{option_map_or}
use Rattle.kd_state.specs.declared.setting.Setting.{Setting}
use Rattle.kd_state.specs.declared.setting.Setting.TheVariants as settings
use Rattle.kd_page.specs.declared.spots.Spot.{Spot}
use Rattle.kd_page.specs.declared.spots.Step.{Step}
use Rattle.kd_page.specs.declared.spots.Step.TheVariants.{Rings, Seats, PlugsOut, PlugsIn, Pins, Lugs, Turns}

-- the place of a step on the page, counted from the top; the first step is 0
abbrev pub step_rank : Step → ℕ
step_rank Rings = 0
step_rank Seats = 1
step_rank PlugsOut = 2
step_rank PlugsIn = 3
step_rank Pins = 4
step_rank Lugs = 5
step_rank Turns = 6

abbrev pub step_of : Setting → Step
step_of (settings.RingTo wheel letter) = Rings
step_of (settings.Seat slot wheel) = Seats
step_of (settings.SeatReflector reflector) = Seats
step_of (settings.Pull cable letter) = PlugsOut
step_of (settings.Put cable letter) = PlugsIn
step_of (settings.PinTo wheel letter effective) = Pins
step_of (settings.LugTo bar lug place) = Lugs
step_of (settings.Turn slot letter) = Turns

-- The row of a setting in the table of the setting's step: the number of the cable, pin wheel, bar or slot. The row is
-- 0 if the step has no table.
abbrev pub row_of : Setting → ℕ
row_of (settings.RingTo wheel letter) = 0
row_of (settings.Seat slot wheel) = 0
row_of (settings.SeatReflector reflector) = 0
row_of (settings.Pull cable letter) = cable
row_of (settings.Put cable letter) = cable
row_of (settings.PinTo wheel letter effective) = wheel
row_of (settings.LugTo bar lug place) = bar
row_of (settings.Turn slot letter) = slot

-- The cell of a setting in the setting's row. For a setting of a pin, this is the pin's letter. For other settings, the
-- row has no cells, and the result is 0.
abbrev pub cell_of : Setting → ℕ
cell_of (settings.RingTo wheel letter) = 0
cell_of (settings.Seat slot wheel) = 0
cell_of (settings.SeatReflector reflector) = 0
cell_of (settings.Pull cable letter) = 0
cell_of (settings.Put cable letter) = 0
cell_of (settings.PinTo wheel letter effective) = letter
cell_of (settings.LugTo bar lug place) = 0
cell_of (settings.Turn slot letter) = 0

-- the spot of a whole step
abbrev pub step_spot : Step → Spot
step_spot step = record { step = step; row = None; cell = None }

-- the spot of row `row` in the table of the step `step`
abbrev pub row_spot : Step → ℕ → Spot
row_spot step row = record { step = step; row = Some row; cell = None }

-- Whether the checkbox of the setting `x` is at `spot`. The checkbox has to be in the spot's step. If the spot has a
-- row or a cell, the checkbox has to be in this row or cell, too.
abbrev pub is_at : Spot → Setting → Bool
is_at spot x =
    nat_eq (step_rank (step_of x)) (step_rank spot.step)
    && (option_map_or (nat_eq (row_of x)) spot.row true && option_map_or (nat_eq (cell_of x)) spot.cell true)

-- how many of the settings have their checkboxes at the spot
abbrev pub count_at : Spot → List Setting → ℕ
count_at spot settings = length (filter (is_at spot) settings)
