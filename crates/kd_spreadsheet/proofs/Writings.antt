-- Texts that are written one after another.
use Rattle.std.proofs.Common.{ℕ, ◌+◌, List, ◌++◌, length, take, Option, Result, Ok, Err, sym, subst, arith, length-append}
use Rattle.std.proofs.{KnownBytes.Appends-trans, Math.Seq.take-append-add, lemmas.List.take-append-le}
use Rattle.std.specs.Io.KnownBytes.{Appends}
use Rattle.kd_tables.specs.Writing.{TakesPrefix, Writes}

-- a prefix of the first text is a prefix of both
takes_first : (a b : Option (List ℕ)) (one two : List ℕ) → TakesPrefix a b one → TakesPrefix a b (one ++ two)
takes_first a b one two (count, less, takes) = (
  count,
  omega (arith, length-append one two),
  subst (Appends a b) (sym (take-append-le count one two (omega arith))) takes,
)

-- the first text, and a prefix of the second, are a prefix of both
pub takes_second : (a b c : Option (List ℕ)) (one two : List ℕ) → Appends a b one → TakesPrefix b c two
    → TakesPrefix a c (one ++ two)
takes_second a b c one two first (count, less, takes) = (
  length one + count,
  omega (arith, length-append one two),
  subst (Appends a c) (sym (take-append-add one two count)) (Appends-trans a b c one (take count two) first takes),
)

-- the first text, and what is written of the second
pub writes_then : {T E : Type 0} (a b c : Option (List ℕ)) (one two : List ℕ) (answer : Result T E) → Appends a b one
    → Writes b c two answer → Writes a c (one ++ two) answer
writes_then a b c one two (Ok done) first second =
    record { whole = Appends-trans a b c one two first second.whole; front = tt }
writes_then a b c one two (Err fault) first second =
    record { whole = tt; front = takes_second a b c one two first second.front }

-- a prefix of the first text
pub writes_front : {T E : Type 0} (a b : Option (List ℕ)) (one two : List ℕ) (fault : E) → TakesPrefix a b one
    → Writes {T = T} a b (one ++ two) (Err fault)
writes_front a b one two fault takes = record { whole = tt; front = takes_first a b one two takes }
