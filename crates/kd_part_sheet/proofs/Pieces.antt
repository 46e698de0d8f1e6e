-- Lists cut into pieces.
use Rattle.std.proofs.Common.{◌≡◌, ℕ, ◌<◌, List, [], ◌∷◌, length, take, drop, min, arith, refl, add-one, length-drop}
use Rattle.std.proofs.Math.Nat.{div-eq_of_lt, mod-eq_of_lt}
use Rattle.std.proofs.lemmas.List.{drop_min, take_min}
use Rattle.kd_form.proofs.MadeParts.{more_pieces}
use Rattle.kd_part_sheet.specs.Rows.{pieces}

pub pieces-next : {X : Type 0} (size : ℕ) (items : List X) → 0 < size → 0 < length items
    → pieces size items ≡ take size items ∷ pieces size (drop size items)
pieces-next {X} size items large some = grind (arith, more_pieces, length-drop {A = X}, add-one)

pub pieces-none : {X : Type 0} (size : ℕ) → 0 < size → pieces {X = X} size [] ≡ []
pieces-none size large = rw (div-eq_of_lt large, mod-eq_of_lt large) refl

-- A list that is split after its first `size` items, or after its last item if there are fewer.
pub first_pieces : {X : Type 0} (size n : ℕ) (items front rest : List X) → 0 < size → 0 < length items
    → n ≡ min (length items) size → front ≡ take n items → rest ≡ drop n items
    → pieces size items ≡ front ∷ pieces size rest
first_pieces size n items front rest large some is one other =
    grind (arith, pieces-next size items, take_min size items, drop_min size items)
