-- The alphabet, as a loop makes it.
use Rattle.std.proofs.Common.{◌≡◌, ℕ, ◌<◌, List, length, get_or}
use Rattle.std.proofs.lemmas.List.FromFn.{fill_by_all}
use Rattle.kd_tables.specs.Permutation.{alphabet}

pub is_alphabet : (letters : List ℕ) → length letters ≡ 26 → ((k : ℕ) → k < 26 → get_or letters k 0 ≡ k)
    → letters ≡ alphabet
is_alphabet letters size each = fill_by_all (λ k. k) letters 26 0 size each
