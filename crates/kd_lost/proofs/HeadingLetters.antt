-- A letter stands inside its line.
use Rattle.std.proofs.Common.{◌≡◌, ℕ, ◌<◌, List, Option, Some, None, true, length, refl, slice_get}
use Rattle.std.proofs.lemmas.Bool.{false≢true}
use Rattle.std.proofs.lemmas.Option.{slice_get_within}
unfoldable use Rattle.kd_lost.specs.HeadingLine.{is_letter}

letter_from : (bytes : List ℕ) (n : ℕ) (got : Option ℕ) → slice_get bytes n ≡ got → is_letter got ≡ true
    → n < length bytes
unfolding is_letter
letter_from bytes n None is letter = absurd (false≢true letter)
letter_from bytes n (Some byte) is letter = slice_get_within bytes n byte is

pub letter_there : (bytes : List ℕ) (n : ℕ) → is_letter (slice_get bytes n) ≡ true → n < length bytes
letter_there bytes n letter = letter_from bytes n (slice_get bytes n) refl letter
