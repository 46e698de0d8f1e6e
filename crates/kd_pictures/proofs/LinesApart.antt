-- The lines from two sockets are apart: a test of all pairs of letters.
use Rattle.std.proofs.Common.{◌≡◌, ℕ, ◌<◌, Bool, true, ◌||◌, nat_eq, arith, refl, subst, zero-add, ◌∙◌}
use Rattle.std.specs.List.{list_all}
use Rattle.std.proofs.lemmas.List.FromFn.{get_or-range_with_len}
use Rattle.std.proofs.lemmas.List.Sums.{AllPass-from_list_all}
use Rattle.kd_tables.specs.Permutation.{alphabet}
use Rattle.kd_pictures.specs.Sockets.{LinesAreApart, are_apart}
unfoldable use Rattle.kd_pictures.specs.Sockets.{socket_place, socket_row}

abbrev is_clear : ℕ → ℕ → Bool
is_clear one other = nat_eq one other || are_apart one other

all_clear : list_all (λ one. list_all (is_clear one) alphabet) alphabet ≡ true
unfolding socket_row socket_place
all_clear = refl

-- What all letters of the alphabet pass, each letter passes.
each : (p : ℕ → Bool) → list_all p alphabet ≡ true → (letter : ℕ) → letter < 26 → p letter ≡ true
each p all letter within =
    subst (λ number. p number ≡ true) (get_or-range_with_len 0 26 letter 0 within ∙ zero-add letter)
    (AllPass-from_list_all p alphabet all letter 0 within)

pub lines_are_apart : LinesAreApart
lines_are_apart one other small below differ =
    let clear =
    each (is_clear one) (each (λ letter. list_all (is_clear letter) alphabet) all_clear one small) other below in
    grind (arith, clear, differ)
