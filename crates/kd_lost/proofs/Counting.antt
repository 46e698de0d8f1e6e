-- What is read of a part by the letters that came.
use Rattle.std.proofs.Common.{◌≡◌, Bool, true, false, List, ℕ, Result, Ok, Err, MatchResult}
use Rattle.std.proofs.Common.{ap, arith, refl, subst, sym}
use Rattle.std.specs.Bool.{OnFalse, OnTrue}
use Rattle.kd_form.specs.declared.heading.Heading.{Heading}
use Rattle.kd_state.specs.SheetDay.{Day}
use Rattle.kd_lost.specs.declared.damaged_text.DamagedText.{DamagedText}
use Rattle.kd_lost.specs.declared.form.DamagedFormFault.{DamagedFormFault}
use Rattle.kd_lost.specs.declared.form.DamagedFormFault.TheVariants.{NoMemory}
use Rattle.kd_lost.specs.declared.part.{DamagedPart.{DamagedPart}}
use Rattle.kd_lost.specs.ByCount.{GivesByCount, heading_count, is_count_doubted, telling_line}
use Rattle.kd_lost.specs.DamagedForm.{AsItStands, IsReadAs, IsReadOf}
use Rattle.kd_lost.specs.DamagedPart.{AreNumbersRead, IsDamagedHeading, first_line}

-- the numbers of a part that is read as it is counted are those of its heading
pub numbers_given : (s : Day) (part : List ℕ) (read : DamagedPart) (shown : DamagedText) → read.text ≡ Ok shown
    → IsReadAs s part read → AreNumbersRead s (first_line part) read.numbers
numbers_given s part read shown is of =
    let line = telling_line (heading_count of.given) read.came read.short_line in
    let sure : is_count_doubted read.text line ≡ false = ap (λ t. is_count_doubted t line) is in
    let gives = subst (λ b. GivesByCount b s part read.came of.given read.numbers read.by_count) sure of.by_count in
    subst (AreNumbersRead s (first_line part)) (sym gives.1) of.given_there

-- a part whose first line is a heading is read as it stands
pub stands_read : (s : Day) (part : List ℕ) (h : Heading) → IsDamagedHeading s (first_line part) h
    → (answer : Result DamagedPart DamagedFormFault)
    → MatchResult answer (λ read. IsReadAs s part read × (read.respaced ≡ false)) (λ fault. fault ≡ NoMemory)
    → MatchResult answer (IsReadOf s part) (λ fault. fault ≡ NoMemory)
stands_read s part h headed (Ok read) (as_meant, stands) = record {
  meant = part;
  is_meant = AsItStands h headed refl;
  as_meant = as_meant;
  respaced = grind (arith, stands);
}
stands_read s part h headed (Err fault) is = is

-- what holds of a Bool
pub on_true : {P : Type 0} (is_it : Bool) → (is_it ≡ true → P) → OnTrue is_it P
on_true true holds = holds refl
on_true false holds = tt

pub on_false : {P : Type 0} (is_it : Bool) → (is_it ≡ false → P) → OnFalse is_it P
on_false true holds = tt
on_false false holds = holds refl
