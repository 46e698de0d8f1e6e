-- The letters of effective pins, pin by pin.
use Rattle.std.proofs.Common.{arith, ◌≡◌, ◌≤◌, ℕ, Bool, false, List, [], ◌∷◌, ◌++◌, length, drop, get_or, refl}
use Rattle.std.specs.Prelude.{flat_map, zip}
use Rattle.kd_printed_sheet.specs.CsvTable.{effective_letter}

-- the first pin, and then the others
pub first_pin : (letters : List ℕ) (pins : List Bool) → 1 ≤ length letters → 1 ≤ length pins
    → flat_map effective_letter (zip letters pins)
    ≡ effective_letter (get_or letters 0 0, get_or pins 0 false) ++ flat_map effective_letter (zip (drop 1
    letters) (drop 1 pins))
first_pin [] pins some more = absurd (omega (arith, some))
first_pin (letter ∷ letters) [] some more = absurd (omega (arith, more))
first_pin (letter ∷ letters) (pin ∷ pins) some more = refl
