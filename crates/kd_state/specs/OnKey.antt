-- Whether a machine is set as a day says (on the key), and whether it shows the day's letters.
-- Code: `on_key` compares sorted lists: the machine's cables with the day's, or the bars' readings
-- with the day's rows.
-- Test: tests/cases/desk-cards.toml
use Rattle.std.specs.Prelude.{◌≡◌, ℕ, ◌-◌, List, ◌++◌, length, map, replicate, All, IsPermutation, Option, Some, None}
use Rattle.std.specs.Option.{option_map, option_map_or}
use Rattle.kd_tables.specs.Places.{reading_of, smaller_first}
use Rattle.kd_state.specs.declared.machine.rotor_parts.RotorParts.{RotorParts}
use Rattle.kd_state.specs.declared.machine.parts.Parts.{Parts}
use Rattle.kd_state.specs.ByModel.{by_model}
use Rattle.kd_state.specs.Costs.{columns_of}
use Rattle.kd_state.specs.Machine.{cable_in_order, ring_at, letter_at}
use Rattle.kd_state.specs.SheetDay.{RotorDay, Day, seats_of_wheels}

-- a column with the letters of its pair in alphabetical order
abbrev pub pair_in_order : Option (ℕ × ℕ) → Option (ℕ × ℕ)
pair_in_order column = option_map (λ pair. smaller_first pair.0 pair.1) column

-- the 13 columns of a day, each with its letters in alphabetical order
abbrev pub columns_in_order : List (ℕ × ℕ) → List (Option (ℕ × ℕ))
columns_in_order pairs = map pair_in_order (columns_of pairs)

-- the 13 cables of a day: first a cable for each pair, with the pair's letters in alphabetical order; then empty cables
abbrev pub cables_of : List (ℕ × ℕ) → List (Option ℕ × Option ℕ)
cables_of pairs =
    map (λ pair. cable_in_order (Some pair.0) (Some pair.1)) pairs ++ replicate (13 - length pairs) (None, None)

-- The machine has the day's model and the day's reflector. It has the day's wheels with their rings in its slots, and
-- the day's cables in any order.
pub record IsRotorOnKey (machine : RotorParts) (day : RotorDay) : Type 0 where
  pub model : machine.model ≡ day.model
  pub slots : machine.slots ≡ seats_of_wheels day.wheels
  pub rings : All (λ w. ring_at machine w.wheel ≡ Some w.ring) day.wheels
  pub reflector : machine.reflector ≡ day.reflector
  pub cables : IsPermutation machine.cables (cables_of day.pairs)

-- The machine is set as the day says, whatever letters it shows. A Converter has the day's pins, and its bars have the
-- day's readings, in any order.
abbrev pub OnKey : Parts → Day → Type 0
OnKey = by_model ⊥ IsRotorOnKey
    (λ machine day. (machine.pins ≡ day.pins) × IsPermutation (map reading_of machine.bars) day.rows)

-- Each of the day's wheels has the day's window letter. On a Converter, the six pin wheels show the day's letters.
abbrev pub ShowsWindow : Parts → Day → Type 0
ShowsWindow = by_model ⊥ (λ machine day. All (λ w. letter_at machine w.wheel ≡ Some w.letter) day.wheels)
    (λ machine day. machine.letters ≡ day.window)

-- The machine is set as the day says, and shows the day's letters.
pub record ReadsAs (machine : Parts) (day : Day) : Type 0 where
  pub key : OnKey machine day
  pub window : ShowsWindow machine day

-- ---- The cable for each column. No public contract cites this definition.

-- the cable for a column, with the letters of the column's pair in alphabetical order; empty for a column without a
-- pair
abbrev pub cable_of_column : Option (ℕ × ℕ) → Option ℕ × Option ℕ
cable_of_column column = option_map_or (λ pair. (Some pair.0, Some pair.1)) (pair_in_order column) (None, None)
