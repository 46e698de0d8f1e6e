-- What is left of a form that is tidied.
use Rattle.std.proofs.Common.{◌≡◌, ◌≢◌, ℕ, ◌≤◌, ◌==◌, ◌&&◌, List, [], ◌∷◌, length, take, drop, arith, length-drop}
use Rattle.std.proofs.Common.{Bool, true, false, if◌then◌else◌, Some, None, unwrap_or}
use Rattle.std.proofs.lemmas.Slice.Eq.{bytes_eq-Decides}
use Rattle.std.specs.Str.{bytes_eq}
use Rattle.kd_lost.specs.HeadingLine.{is_heading_line, may_be_part}
use Rattle.kd_lost.specs.Tidy.{later_heading, tidied, without_mark}

pub mark_stripped : (form : List ℕ) → take 3 form ≡ 239 ∷ 187 ∷ 191 ∷ [] → without_mark form ≡ drop 3 form
mark_stripped form is = grind (arith, bytes_eq-Decides (take 3 form) (239 ∷ 187 ∷ 191 ∷ []))

pub mark_absent : (form : List ℕ) → take 3 form ≢ 239 ∷ 187 ∷ 191 ∷ [] → without_mark form ≡ form
mark_absent form other = grind (arith, bytes_eq-Decides (take 3 form) (239 ∷ 187 ∷ 191 ∷ []))

-- -------- nothing is added to a form

without_length : (form : List ℕ) (has : Bool) → length (if has then drop 3 form else form) ≤ length form
without_length form true = omega (arith, length-drop {A = ℕ})
without_length form false = omega arith

later_from : (bytes other : List ℕ) (ends may_be : Bool) → length bytes ≤ length other
    → length (unwrap_or (later_heading bytes) other) ≤ length other
    → length (unwrap_or (if ends then Some bytes else if may_be then None else later_heading bytes) other)
    ≤ length other
later_from bytes other true may_be few rest = few
later_from bytes other false true few rest = omega arith
later_from bytes other false false few rest = rest

later_length : (bytes other : List ℕ) → length bytes ≤ length other
    → length (unwrap_or (later_heading bytes) other) ≤ length other
later_length [] other few = omega arith
later_length (byte ∷ bytes) other few =
    let short : length bytes ≤ length other = omega (arith, few) in
    later_from bytes other (byte == 10 && is_heading_line bytes) (byte == 10 && may_be_part bytes) short
    (later_length bytes other short)

from_length : (bytes : List ℕ) (begins : Bool)
    → length (if begins then bytes else unwrap_or (later_heading bytes) bytes) ≤ length bytes
from_length bytes true = omega arith
from_length bytes false = later_length bytes bytes (omega arith)

pub tidied_length : (form : List ℕ) → length (tidied form) ≤ length form
tidied_length form =
    omega (
      arith,
      from_length (without_mark form) (may_be_part (without_mark form)),
      without_length form (bytes_eq (take 3 form) (239 ∷ 187 ∷ 191 ∷ [])),
    )
