-- Permutations on the way of the current: in through wheels, through a core, and back.
use Rattle.std.proofs.Common.{◌≡◌, ◌≢◌, ℕ, ◌<◌, List, [], ◌∷◌, ◌++◌, map, reverse, slice_index, All, length, refl, sym}
use Rattle.std.proofs.Common.{ap, ◌∙◌, subst, arith, rules, append_assoc}
use Rattle.kd_enigma.specs.{Laws.PathsAreOwnInverses, Laws.PathsMoveEachLetter, Rotor.rotor, Rotor.wiring_turned_by}
use Rattle.kd_tables.proofs.Products.{inverse_by_letter, inverse_permutes, inverse_of_product, product_permutes}
use Rattle.kd_tables.proofs.Products.{inverse_of_shift, shift_permutes}
use Rattle.kd_tables.proofs.Wirings.{reflector_moves, reflector_permutes, reflector_returns, wiring_permutes}
use Rattle.kd_tables.specs.{Tables.reflector_of, declared.reflector.Reflector.Reflector, declared.wheel.Wheel.Wheel}
use Rattle.std.{proofs.lemmas.List.FromFn.get_or-range_with_len, specs.List.AllByRecursion}
use Rattle.std.proofs.lemmas.List.{ext_get_or, get_or-map, length-map, reverse-append}
use Rattle.kd_tables.specs.Permutation.{alphabet, followed_by, inverse, shift, IsPermutation26}
use Rattle.kd_enigma.specs.Cipher.{RotorKey, IsPlugboard, rotors, product, path}

-- ---- letters

alphabet-at : (x : ℕ) → x < 26 → slice_index alphabet x ≡ x
alphabet-at x lt = get_or-range_with_len 0 26 x 0 lt ∙ omega arith

-- if `P` holds of each letter, it holds of all items of `alphabet`
pub each_letter : (P : ℕ → Type 0) → ((x : ℕ) → x < 26 → P x) → All P alphabet
each_letter P h k d lt = subst P (sym (get_or-range_with_len 0 26 k d lt ∙ omega arith)) (h k lt)

at_letter : (P : ℕ → Type 0) → All P alphabet → (x : ℕ) → x < 26 → P x
at_letter P h x lt = subst P (alphabet-at x lt) (h x 0 lt)

-- ---- products

pub product-size : (p q : List ℕ) → length (followed_by p q) ≡ length p
unfolding followed_by
product-size p q = length-map p (slice_index q)

pub product-at : (p q : List ℕ) (x : ℕ) → length p ≡ 26 → x < 26
    → slice_index (followed_by p q) x ≡ slice_index q (slice_index p x)
unfolding followed_by
product-at p q x size lt = get_or-map (slice_index q) p x 0 0 (omega arith)

-- Two permutations are equal if they take each letter to the same letter.
same_maps : (p q : List ℕ) → length p ≡ 26 → length q ≡ 26 → ((x : ℕ) → x < 26 → slice_index p x ≡ slice_index q x)
    → p ≡ q
same_maps p q long also each = ext_get_or 0 p q (omega arith) (λ x lt. each x (omega arith))

-- A product of three permutations doesn't depend on how they are grouped.
pub followed_by-assoc : (p q r : List ℕ) → IsPermutation26 p → length q ≡ 26
    → followed_by (followed_by p q) r ≡ followed_by p (followed_by q r)
followed_by-assoc p q r h size = grind (arith, same_maps, product-size, product-at)

-- `alphabet`, which leaves each letter as it is, changes nothing as the first factor of a product.
pub nothing_before : (p : List ℕ) → length p ≡ 26 → followed_by alphabet p ≡ p
nothing_before p size =
    same_maps _ _ (product-size alphabet p) size
    (λ x lt. product-at alphabet p x refl lt ∙ ap (slice_index p) (alphabet-at x lt))

pub nothing_after : (p : List ℕ) → IsPermutation26 p → followed_by p alphabet ≡ p
nothing_after p h =
    same_maps _ _ (grind (arith, product-size, h.size)) h.size
    (λ x lt. product-at p alphabet x h.size lt ∙ alphabet-at (slice_index p x) (h.each_once.within x lt))

pub no_shift : shift 0 ≡ alphabet
unfolding shift
no_shift = refl

-- The inverse of a wiring turned by `by` places is the inverse wiring, turned by `by` places.
pub turned_undone : (by : ℕ) (p : List ℕ) → by < 26 → IsPermutation26 p
    → inverse (wiring_turned_by by p) ≡ wiring_turned_by by (inverse p)
unfolding wiring_turned_by
turned_undone by p lt h =
    search (
      rules,
      followed_by-assoc,
      inverse_of_product,
      product_permutes,
      inverse_of_shift,
      shift_permutes,
      inverse_permutes,
    )

-- ---- permutations that take each letter to another letter, and the other letter back

pub record Exchanges (p : List ℕ) : Type 0 where
  pub permutes : IsPermutation26 p
  pub back : (x : ℕ) → x < 26 → slice_index p (slice_index p x) ≡ x
  pub moves : (x : ℕ) → x < 26 → slice_index p x ≢ x

pub reflectors_exchange : (reflector : Reflector) → Exchanges (reflector_of reflector)
reflectors_exchange reflector = record {
  permutes = reflector_permutes reflector;
  back =
      at_letter (λ x. slice_index (reflector_of reflector) (slice_index (reflector_of reflector) x) ≡ x)
      (reflector_returns reflector);
  moves = at_letter (λ x. slice_index (reflector_of reflector) x ≢ x) (reflector_moves reflector);
}

-- Two permutations undo each other.
record UndoEachOther (there back : List ℕ) : Type 0 where
  in_permutes : IsPermutation26 there
  out_permutes : IsPermutation26 back
  out : (x : ℕ) → x < 26 → slice_index back (slice_index there x) ≡ x
  into : (x : ℕ) → x < 26 → slice_index there (slice_index back x) ≡ x

wheels_undo : (w : List ℕ) → IsPermutation26 w → UndoEachOther w (inverse w)
wheels_undo w h =
    let back = inverse_permutes w h in grind (arith, inverse_by_letter, h.each_once.within, back.each_once.within)

boards_undo : (plugs : List ℕ) → IsPlugboard plugs → UndoEachOther plugs plugs
boards_undo plugs board =
    let back = at_letter (λ x. slice_index plugs (slice_index plugs x) ≡ x) board.own_inverse in
    record { in_permutes = board.permutation; out_permutes = board.permutation; out = back; into = back }

-- If a core exchanges letters, so does the path in through a permutation, through the core, and back through the
-- inverse.
Exchanges-conjugate : (there core back : List ℕ) → UndoEachOther there back → Exchanges core
    → Exchanges (followed_by there (followed_by core back))
Exchanges-conjugate there core back undo h =
    let in_lt = undo.in_permutes.each_once.within in
    let at : (x : ℕ) → x < 26
    → slice_index (followed_by there (followed_by core back)) x
    ≡ slice_index back (slice_index core (slice_index there x)) =
    λ x lt. grind (arith, product-at, undo.in_permutes.size, h.permutes.size, in_lt) in
    let again : (x : ℕ) → x < 26
    → slice_index there (slice_index (followed_by there (followed_by core back)) x)
    ≡ slice_index core (slice_index there x) =
    λ x lt. grind (arith, at x lt, undo.into, h.permutes.each_once.within, in_lt) in
    record {
      permutes =
          product_permutes there (followed_by core back) undo.in_permutes
          (product_permutes core back h.permutes undo.out_permutes);
      back = λ x lt. grind (
        arith,
        at,
        again x lt,
        h.back,
        undo.out,
        in_lt,
        h.permutes.each_once.within,
        undo.out_permutes.each_once.within,
      );
      moves = λ x lt same. h.moves (slice_index there x) (in_lt x lt) (sym (again x lt) ∙ ap (slice_index there) same);
    }

-- ---- the path around a core

-- the path in through a wheel, through `core`, and back; and next, the path through several wheels, from left to
-- right, of which the first is next to `core`
abbrev pub core_in_wheel : List ℕ → List ℕ → List ℕ
core_in_wheel core w = followed_by w (followed_by core (inverse w))

abbrev pub core_in_wheels : List ℕ → List (List ℕ) → List ℕ
core_in_wheels core [] = core
core_in_wheels core (w ∷ ws) = core_in_wheels (core_in_wheel core w) ws

pub rotor_permutes : (wheel : Wheel) (ring letter : ℕ) → IsPermutation26 (rotor wheel ring letter)
unfolding wiring_turned_by
rotor_permutes wheel ring letter =
    product_permutes _ _ (product_permutes _ _ (shift_permutes _) (wiring_permutes wheel)) (shift_permutes _)

rotors_permute : (wheels : List Wheel) (rings window : List ℕ)
    → AllByRecursion IsPermutation26 (rotors wheels rings window)
unfolding rotors
rotors_permute (wheel ∷ wheels) (ring ∷ rings) (letter ∷ window) =
    (rotor_permutes wheel ring letter, rotors_permute wheels rings window)
rotors_permute [] rings window = tt
rotors_permute wheels [] window = tt
rotors_permute wheels rings [] = tt

Exchanges-core_in_wheel : (core w : List ℕ) → IsPermutation26 w → Exchanges core → Exchanges (core_in_wheel core w)
Exchanges-core_in_wheel core w h k = Exchanges-conjugate w core (inverse w) (wheels_undo w h) k

pub wheel_exchanges : (core : List ℕ) (wheel : Wheel) (ring letter : ℕ) → Exchanges core
    → Exchanges (core_in_wheel core (rotor wheel ring letter))
wheel_exchanges core wheel ring letter k = Exchanges-core_in_wheel core (rotor wheel ring letter)
    (rotor_permutes wheel ring letter) k

nested_exchanges : (core : List ℕ) (ws : List (List ℕ)) → AllByRecursion IsPermutation26 ws
    → Exchanges core → Exchanges (core_in_wheels core ws)
nested_exchanges core [] h k = k
nested_exchanges core (w ∷ ws) h k = nested_exchanges (core_in_wheel core w) ws h.1
    (Exchanges-core_in_wheel core w h.0 k)

-- Equal products stay equal if the same permutations come before them.
product-append : (xs ps qs : List (List ℕ)) → product ps ≡ product qs → product (xs ++ ps) ≡ product (xs ++ qs)
unfolding product
product-append [] ps qs e = e
product-append (x ∷ xs) ps qs e = ap (followed_by x) (product-append xs ps qs e)

product_around : (core : List ℕ) (ws : List (List ℕ)) (rest : List (List ℕ))
    → AllByRecursion IsPermutation26 ws → Exchanges core
    → product (reverse ws ++ (core ∷ map inverse ws ++ rest)) ≡ followed_by (core_in_wheels core ws) (product rest)
unfolding product
product_around core [] rest h k = refl
product_around core (w ∷ ws) rest h k =
    let outward = map inverse ws ++ rest in
    let back = (inverse_permutes w h.0).size in
    let one : product (w ∷ core ∷ inverse w ∷ outward) ≡ product (core_in_wheel core w ∷ outward) =
    grind (
      arith,
      followed_by-assoc w (followed_by core (inverse w)) (product outward) h.0,
      followed_by-assoc core (inverse w) (product outward) k.permutes,
      product-size,
      back,
      k.permutes.size,
    ) in
    ap product (ap (λ ps. ps ++ (core ∷ inverse w ∷ outward)) (reverse-append (w ∷ []) ws)
    ∙ append_assoc (reverse ws) (w ∷ []) (core ∷ inverse w ∷ outward))
    ∙ product-append (reverse ws) _ _ one
    ∙ product_around (core_in_wheel core w) ws rest h.1 (Exchanges-core_in_wheel core w h.0 k)

-- The path leads through the plugboard, in through the wheels to the reflector, back, and through the plugboard.
pub path_is : (key : RotorKey) (window : List ℕ) → IsPlugboard key.plugs
    → path key window ≡ followed_by key.plugs
    (followed_by (core_in_wheels (reflector_of key.reflector) (rotors key.wheels key.rings window)) key.plugs)
unfolding path product
path_is key window board =
    grind (arith, append_assoc, product_around, rotors_permute, reflectors_exchange, nothing_after)

pub path_exchanges : (key : RotorKey) (window : List ℕ) → IsPlugboard key.plugs
    → Exchanges (path key window)
path_exchanges key window board =
    search (
      rules,
      nested_exchanges,
      rotors_permute,
      reflectors_exchange,
      path_is,
      key,
      board,
      Exchanges-conjugate,
      boards_undo,
    )

pub paths_lead_back : PathsAreOwnInverses
paths_lead_back key window board =
    each_letter (λ x. slice_index (path key window) (slice_index (path key window) x)
    ≡ x) (path_exchanges key window board).back

pub paths_move_each_letter : PathsMoveEachLetter
paths_move_each_letter key window board =
    each_letter (λ x. slice_index (path key window) x ≢ x) (path_exchanges key window board).moves
