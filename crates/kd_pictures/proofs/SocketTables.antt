-- The tables of the sockets have the rows and places of all letters.
use Rattle.std.proofs.Common.{◌≡◌, ℕ, ◌<◌, List, map, get_or, arith, refl, subst}
use Rattle.std.proofs.lemmas.List.FromFn.{get_or-map-range_with_len}
use Rattle.kd_tables.specs.Permutation.{alphabet}
unfoldable use Rattle.kd_pictures.specs.Sockets.{socket_place, socket_row}
use Rattle.kd_pictures.specs.declared.sockets.TheConstants.{PLACES, ROWS}

at_letter : (f : ℕ → ℕ) (table : List ℕ) → map f alphabet ≡ table → (letter : ℕ) → letter < 26
    → get_or table letter 0 ≡ f letter
at_letter f table made letter within =
    subst (λ made. get_or made letter 0 ≡ f letter) made
    (get_or-map-range_with_len f 0 26 letter letter 0 within (omega arith))

rows : map socket_row alphabet ≡ ROWS
unfolding socket_row
rows = refl

places : map socket_place alphabet ≡ PLACES
unfolding socket_place
places = refl

pub row_is : (letter : ℕ) → letter < 26 → get_or ROWS letter 0 ≡ socket_row letter
row_is = at_letter socket_row ROWS rows

pub place_is : (letter : ℕ) → letter < 26 → get_or PLACES letter 0 ≡ socket_place letter
place_is = at_letter socket_place PLACES places
