-- The days of a sheet, model by model.
use Rattle.std.specs.Prelude.{ℕ, Bool, List, [], ◌∷◌, filter, is_some, Option}
use Rattle.std.specs.List.{list_any}
use Rattle.kd_tables.specs.declared.model.Model.{Model}
use Rattle.kd_state.specs.SheetDay.{Day}
use Rattle.kd_sheet.specs.Sheet.{day_of, has_day_of}
use Rattle.kd_printed_sheet.specs.declared.days.TheConstants.{DAYS, LAST_DAY_FIRST}

-- the numbers of the month's days for the model, in falling order
abbrev pub days_of : Model → List (Option Day) → List ℕ
days_of model month = filter (has_day_of model month) LAST_DAY_FIRST

-- the earliest day of a table; `last` is the table's latest day, and the list has the other days in falling order
abbrev pub first_of : ℕ → List ℕ → ℕ
first_of last [] = last
first_of last (day ∷ earlier) = first_of day earlier

-- whether the month has at least one day
abbrev pub has_days : List (Option Day) → Bool
has_days month = list_any (λ number. is_some (day_of month number)) DAYS
