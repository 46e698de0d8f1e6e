use Rattle.std.proofs.lemmas.Grind.{common_steps}
use Rattle.std.proofs.Common.{List, [], arith, ℕ, ◌∷◌}
use Rattle.kd_tables.proofs.DistinctLetters.{IsDistinct-first_and_rest, IsDistinct-none}
use Rattle.kd_tables.proofs.pairs.+have_no_letter_twice.Goals as goal

abbrev letters : ℕ × ℕ → List ℕ
letters pair = pair.0 ∷ pair.1 ∷ []

pub returns-in-empty-clause-once : goal.returns-in-empty-clause-once
returns-in-empty-clause-once t c = grind (arith, IsDistinct-none letters)

pub returns-then-is_apart-clause-once : goal.returns-then-is_apart-clause-once
returns-then-is_apart-clause-once t c = grind (arith, IsDistinct-first_and_rest letters)

pub returns-else-is_apart-clause-once : goal.returns-else-is_apart-clause-once
returns-else-is_apart-clause-once t c = grind (arith, IsDistinct-first_and_rest letters)

pub returns-then-is_apart-clause-letters : goal.returns-then-is_apart-clause-letters
returns-then-is_apart-clause-letters t c = grind (arith, common_steps)

pub returns-in-empty-clause-letters : goal.returns-in-empty-clause-letters
returns-in-empty-clause-letters t c = grind (arith, common_steps)
