-- A key sheet: a month in which some days have an entry.
-- Code: `Sheet` has an array of 31 places, and puts each day at the place of its number.
-- Test: tests/cases/desk-files.toml
use Rattle.std.specs.Prelude.{◌≡◌, ℕ, ◌==◌, Bool, false, List, length, map, find, Option, Some}
use Rattle.std.specs.List.{list_any, range_with_len}
use Rattle.std.specs.Option.{option_and_then, option_map_or}
use Rattle.kd_tables.specs.contracts.model.ModelPartialEq.TheImpl as model_eq
use Rattle.kd_tables.specs.declared.model.Model.{Model}
use Rattle.kd_state.specs.SameParts.{numbered_item}
use Rattle.kd_state.specs.SheetDay.{Day, day_model, day_number}

-- for each number from 1 to 31, the first of `days` with this number, if there is one
abbrev pub month_of : List Day → List (Option Day)
month_of days = map (λ number. find (λ day. day_number day == number) days) (range_with_len 1 31)

-- day `number` of the month, counted from 1, if it has an entry
abbrev pub day_of : List (Option Day) → ℕ → Option Day
day_of month number = option_and_then (λ day. day) (numbered_item month number)

-- `month` has 31 places, and each day in `month` is at the place with the day's number.
pub record IsMonth (month : List (Option Day)) : Type 0 where
  pub count : length month ≡ 31
  pub each : (number : ℕ) (day : Day) → day_of month number ≡ Some day → day_number day ≡ number

-- The month has day `number`, and this day is of `model`.
pub record HasDayOf (model : Model) (month : List (Option Day)) (number : ℕ) : Type 0 where
  pub s : Day
  pub of_month : day_of month number ≡ Some s
  pub of_model : day_model s ≡ model

-- whether two models are the same
abbrev pub same_model : Model → Model → Bool
same_model = (model_eq.ghosts).eq

-- whether the month has day `number`, and this day is of `model`
unfoldable pub has_day_of : Model → List (Option Day) → ℕ → Bool
has_day_of model month number = option_map_or (λ day. same_model (day_model day) model) (day_of month number) false

-- whether the month has a day of `model`
abbrev pub has_days_of : Model → List (Option Day) → Bool
has_days_of model month = list_any (has_day_of model month) (range_with_len 1 31)
