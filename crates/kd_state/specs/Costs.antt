-- Costs: the least number of settings that give a cable the letters of a day's pair, or give a bar a day's reading.
-- Code: `cable_cost` goes through the alphabet; `bar_cost` tries each standing with the reading.
-- Test: kd_trials/src/state.rt
use Rattle.std.specs.Prelude.{ℕ, ◌+◌, ◌-◌, nat_eq, nat_lt, min, Bool, false, not, ◌&&◌, List, [], ◌∷◌, ◌++◌, length}
use Rattle.std.specs.Prelude.{slice_index_or, map, filter, find, fold, zip, sum, count_by, replicate, Option, Some}
use Rattle.std.specs.Prelude.{None, if◌then◌else◌}
use Rattle.std.specs.Option.{option_map_or}
use Rattle.kd_tables.specs.declared.place.Place.{Place}
use Rattle.kd_tables.specs.declared.place.Place.TheVariants.{One, ZeroLeft, Two, Three, Four, Five, Six}
use Rattle.kd_tables.specs.Pairs.{has_letter}
use Rattle.kd_tables.specs.Permutation.{alphabet}
use Rattle.kd_tables.specs.Places.{standings, place_rank, reading_of}
use Rattle.kd_pins.specs.PinWheels.{pins_of}
use Rattle.kd_state.specs.declared.machine.parts.Parts.{Parts}
use Rattle.kd_state.specs.ByModel.{by_model}
use Rattle.kd_state.specs.SameParts.{same_wheel, same_reflector}
use Rattle.kd_state.specs.Machine.{cable_letters, ring_at, letter_at}
use Rattle.kd_state.specs.Setting.{is_same_place}
use Rattle.kd_state.specs.SheetDay.{Day}

-- whether exactly one of the two conditions is true
abbrev pub exactly_one : Bool → Bool → Bool
exactly_one a b = if a then not b else b

-- 0 if the test is true, else 1
abbrev pub one_unless : Bool → ℕ
one_unless same = if same then 0 else 1

-- the letters of a column's pair; no letters if the column has no pair
abbrev pub column_letters : Option (ℕ × ℕ) → List ℕ
column_letters column = option_map_or (λ pair. pair.0 ∷ pair.1 ∷ []) column []

-- the cost of giving a cable the letters of a column: how many letters are in the cable or in the column, but not in
-- both. For example, it is 2 for the cable AB and the column AC.
abbrev pub cable_cost : Option ℕ × Option ℕ → Option (ℕ × ℕ) → ℕ
cable_cost cable column =
    count_by (λ l. exactly_one (has_letter (cable_letters cable) l) (has_letter (column_letters column) l)) alphabet

-- how many of a bar's two lugs must be moved to change its standing from `bar` to `other`
abbrev pub lugs_moved : Place × Place → Place × Place → ℕ
lugs_moved bar other = one_unless (is_same_place bar.0 other.0) + one_unless (is_same_place bar.1 other.1)

-- the standings with the reading `row`, in the order of the list `standings`: for example, `1-0L` and `1-0R` for the
-- reading `0-1`
unfoldable pub standings_as : ℕ × ℕ → List (Place × Place)
standings_as row =
    filter (λ bar. let reading = reading_of bar in nat_eq reading.0 row.0 && nat_eq reading.1 row.1) standings

-- The cost of giving a bar at `standing` the reading `row`: the least number of lugs to move, at most 2.
abbrev pub bar_cost : Place × Place → ℕ × ℕ → ℕ
bar_cost standing row = fold min 2 (map (lugs_moved standing) (standings_as row))

-- of all standings with the reading `row`, the one nearest to the standing `bar`: the fewest lugs have to move. If two
-- are equally near, it is the first of them in the list `standings`.
abbrev pub nearest_standing : Place × Place → ℕ × ℕ → Option (Place × Place)
nearest_standing bar row = find (λ other. nat_eq (lugs_moved bar other) (bar_cost bar row)) (standings_as row)

-- ---- The cost tables: of cables and columns, and of bars and rows.
-- Test: tests/cases/desk-cards.toml

-- the 13 columns of a day in the cost table: its pairs, and then columns without a pair
abbrev pub columns_of : List (ℕ × ℕ) → List (Option (ℕ × ℕ))
columns_of pairs = map Some pairs ++ replicate (13 - length pairs) None

-- a cost table: for each item of `rows`, the list of its costs, one for each item of `columns`
abbrev pub costs_by : {X Y : Type 0} → (X → Y → ℕ) → List X → List Y → List (List ℕ)
costs_by cost rows columns = map (λ row. map (cost row) columns) rows

-- the cost table of a machine and a day. On a rotor machine, it has the cost of each cable for each column. On a
-- Converter, it has the cost of each bar for each row. It is empty if machine and day are of different sorts.
abbrev pub cost_table : Parts → Day → List (List ℕ)
cost_table = by_model [] (λ machine day. costs_by cable_cost machine.cables (columns_of day.pairs))
    (λ machine day. costs_by bar_cost machine.bars day.rows)

-- ---- Loose things: a slot, reflector, ring, letter or pin that isn't as the day says. Cables and bars are never
-- loose.

-- how many things on the machine aren't as the day says; cables and bars don't count. A rotor machine's things are its
-- slots, its reflector, and the rings and window letters of the day's wheels. A Converter's things are its pins, and
-- the letters that its wheels show.
abbrev pub loose_count : Parts → Day → ℕ
loose_count = by_model 0
    (λ machine day.
    count_by (λ both. not (option_map_or (same_wheel both.1.wheel) both.0 false)) (zip machine.slots day.wheels)
    + one_unless (same_reflector machine.reflector day.reflector)
    + count_by (λ w. not (option_map_or (nat_eq w.ring) (ring_at machine w.wheel) false)) day.wheels
    + count_by (λ w. not (option_map_or (nat_eq w.letter) (letter_at machine w.wheel) false)) day.wheels)
    (λ machine day. sum (map (λ both. count_by (λ pin. exactly_one pin.0 pin.1) (zip both.0 both.1))
    (zip (pins_of machine.pins) (pins_of day.pins)))
    + count_by (λ letter. not (nat_eq letter.0 letter.1)) (zip machine.letters day.window))

-- ---- How the standings for a row are found. No public contract cites these definitions.

-- the place on a bar where pin wheel `wheel` acts; if `wheel` is 0, the left one of the two places without a wheel
abbrev pub place_of_pin_wheel : ℕ → Place
place_of_pin_wheel wheel = slice_index_or (ZeroLeft ∷ One ∷ Two ∷ Three ∷ Four ∷ Five ∷ Six ∷ []) wheel Six

-- the standing with lugs at the places `one` and `other`, which may come in either order
abbrev pub standing_across : Place → Place → Place × Place
standing_across one other = if nat_lt (place_rank one) (place_rank other) then (one, other) else (other, one)
