use Rattle.std.proofs.Common.{arith, ap, ◌∙◌, ◌+◌, ◌%◌, ◌<◌, ◌≡◌, ℕ, get_or, map}
use Rattle.std.proofs.lemmas.List.FromFn.{get_or-map-range_with_len}
use Rattle.kd_tables.specs.Permutation.{alphabet}
use Rattle.kd_tables.proofs.letter.Letter.next.Goals as goal

-- the table `NEXT` has, for each letter, the letter after it, with A after Z
next_at : (letter : ℕ) → letter < 26 → get_or (map (λ x. (x + 1) % 26) alphabet) letter 0 ≡ (letter + 1) % 26
next_at letter lt = get_or-map-range_with_len (λ x. (x + 1) % 26) 0 26 letter letter 0 lt (omega arith)

pub invariant_of-result : goal.invariant_of-result
invariant_of-result c = rw (next_at c.self.inside.index c.self.invariant) (omega arith)

pub returns-clause-value : goal.returns-clause-value
returns-clause-value c = next_at c.self.inside.index c.self.invariant ∙ ap (λ x. (x + 1) % 26) c.self.view_is

pub returns-clause-within : goal.returns-clause-within
returns-clause-within c = rw (next_at c.self.inside.index c.self.invariant) (omega arith)
