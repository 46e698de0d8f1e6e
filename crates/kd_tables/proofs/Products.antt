-- Products, inverses and shifts of permutations, letter by letter.
use Rattle.std.proofs.Common.{◌≡◌, ◌↔◌, ℕ, ◌+◌, ◌-◌, ◌<◌, ◌≤◌, ◌%◌, ◌==◌, List, length, slice_index, refl, sym, ap, ◌∙◌}
use Rattle.std.proofs.Common.{arith}
use Rattle.{kd_tables.proofs.Wirings.slice_index-position_or_len, kd_tables.proofs.Wirings.place_within}
use Rattle.{std.proofs.lemmas.Bool.eq-eqb}
use Rattle.std.proofs.lemmas.{Bool.ne_eqb, List.Sums.position_or_len_is, List.get_or-map, List.length-map}
use Rattle.std.specs.List.{position_or_len}
use Rattle.std.proofs.lemmas.List.FromFn.{fill_by_all, get_or-map-range_with_len, length-map-range_with_len}
use Rattle.kd_tables.specs.Permutation.{alphabet, followed_by, inverse, shift, IsPermutation26}

-- the letter that a product gives for a letter
pub followed_by-at : (p q : List ℕ) (x : ℕ) → x < length p
    → slice_index (followed_by p q) x ≡ slice_index q (slice_index p x)
unfolding followed_by
followed_by-at p q x lt = get_or-map (λ y. slice_index q y) p x 0 0 lt

-- the letter that an inverse gives for a letter
pub inverse-at : (p : List ℕ) (y : ℕ) → y < 26 → slice_index (inverse p) y ≡ position_or_len (λ x. x == y) p
unfolding inverse
inverse-at p y lt = get_or-map-range_with_len (λ y'. position_or_len (λ x. x == y') p) 0 26 y y 0 lt (omega arith)

-- the letter that a shift gives for a letter
pub shift-at : (k x : ℕ) → x < 26 → slice_index (shift k) x ≡ (x + k) % 26
unfolding shift
shift-at k x lt = get_or-map-range_with_len (λ x'. (x' + k) % 26) 0 26 x x 0 lt (omega arith)

-- In a permutation, a search for the letter at place `x` finds place `x`.
pub place_of_at : (p : List ℕ) (x : ℕ) → IsPermutation26 p → x < 26 → position_or_len (λ z. z == slice_index p x) p ≡ x
place_of_at p x h lt = grind (arith, position_or_len_is, ne_eqb, h.each_once.apart, eq-eqb)

pub product_permutes : (p q : List ℕ) → IsPermutation26 p → IsPermutation26 q → IsPermutation26 (followed_by p q)
unfolding followed_by
product_permutes p q hp hq = record {
  size = length-map p (λ y. slice_index q y) ∙ hp.size;
  each_once = record {
    within = λ k lt. rw (followed_by-at p q k (omega (arith, hp.size)))
        (hq.each_once.within (slice_index p k) (hp.each_once.within k lt));
    apart = λ j k a b e. hp.each_once.apart j k a b
        (hq.each_once.apart (slice_index p j) (slice_index p k) (hp.each_once.within j a) (hp.each_once.within k b)
        (sym (followed_by-at p q j (omega (arith, hp.size))) ∙ e ∙ followed_by-at p q k (omega (arith, hp.size))));
  };
}

pub inverse_permutes : (p : List ℕ) → IsPermutation26 p → IsPermutation26 (inverse p)
unfolding inverse
inverse_permutes p h = record {
  size = length-map-range_with_len (λ y. position_or_len (λ x. x == y) p) 0 26;
  each_once = record {
    within = λ k lt. rw (inverse-at p k lt) (place_within p k h lt);
    apart = λ j k a b e. sym (slice_index-position_or_len p j h a)
        ∙ ap (slice_index p) (sym (inverse-at p j a) ∙ e ∙ inverse-at p k b)
        ∙ slice_index-position_or_len p k h b;
  };
}

same_shift : (k x y : ℕ) → x < 26 → y < 26 → (x + k) % 26 ≡ (y + k) % 26 → x ≡ y
same_shift k x y a b e = omega arith

pub shift_permutes : (k : ℕ) → IsPermutation26 (shift k)
unfolding shift
shift_permutes k = record {
  size = length-map-range_with_len (λ x. (x + k) % 26) 0 26;
  each_once = record {
    within = λ x lt. rw (shift-at k x lt) (omega arith);
    apart = λ x y a b e. same_shift k x y a b (sym (shift-at k x a) ∙ e ∙ shift-at k y b);
  };
}

same_as_alphabet : (p : List ℕ) → length p ≡ 26 → ((x : ℕ) → x < 26 → slice_index p x ≡ x) → p ≡ alphabet
same_as_alphabet p size each = fill_by_all (λ x. x) p 26 0 size each

pub product_inverse : (p : List ℕ) → IsPermutation26 p → followed_by p (inverse p) ≡ alphabet
product_inverse p h =
    same_as_alphabet (followed_by p (inverse p)) (product_permutes p (inverse p) h (inverse_permutes p h)).size
    (λ x lt. followed_by-at p (inverse p) x (omega (arith, h.size))
    ∙ inverse-at p (slice_index p x) (h.each_once.within x lt) ∙ place_of_at p x h lt)

pub inverse_product : (p : List ℕ) → IsPermutation26 p → followed_by (inverse p) p ≡ alphabet
inverse_product p h =
    same_as_alphabet (followed_by (inverse p) p) (product_permutes (inverse p) p (inverse_permutes p h) h).size
    (λ x lt. followed_by-at (inverse p) p x (omega (arith, (inverse_permutes p h).size))
    ∙ ap (slice_index p) (inverse-at p x lt) ∙ slice_index-position_or_len p x h lt)

-- A table that maps the letter at each place of `p` back to this place is the inverse of `p`.
pub filled_is_inverse : (p filled : List ℕ) → IsPermutation26 p → length filled ≡ 26
    → ((k : ℕ) → k < 26 → slice_index filled (slice_index p k) ≡ k) → filled ≡ inverse p
unfolding inverse
filled_is_inverse p filled h size leads =
    fill_by_all (λ y. position_or_len (λ x. x == y) p) filled 26 0 size
    (λ y lt. ap (slice_index filled) (sym (slice_index-position_or_len p y h lt))
    ∙ leads (position_or_len (λ x. x == y) p) (place_within p y h lt))

-- A permutation maps `x` to `y` exactly if its inverse maps `y` to `x`.
pub inverse_by_letter : (p : List ℕ) (x y : ℕ) → IsPermutation26 p → x < 26 → y < 26
    → (slice_index p x ≡ y) ↔ (slice_index (inverse p) y ≡ x)
inverse_by_letter p x y h x_lt y_lt = (
  λ e. inverse-at p y y_lt ∙ ap (λ z. position_or_len (λ w. w == z) p) (sym e) ∙ place_of_at p x h x_lt,
  λ e. ap (slice_index p) (sym e ∙ inverse-at p y y_lt) ∙ slice_index-position_or_len p y h y_lt,
)

-- If `p` undoes `back` on each letter, `back` is the inverse of `p`.
is_inverse : (p back : List ℕ) → IsPermutation26 p → IsPermutation26 back
    → ((y : ℕ) → y < 26 → slice_index p (slice_index back y) ≡ y) → inverse p ≡ back
is_inverse p back h hb leads = fill_by_all (slice_index back) (inverse p) 26 0 (inverse_permutes p h).size
    (λ y lt. (inverse_by_letter p (slice_index back y) y h (hb.each_once.within y lt) lt).0 (leads y lt))
    ∙ sym (fill_by_all (slice_index back) back 26 0 hb.size (λ y lt. refl))

pub inverse_of_product : (p q : List ℕ) → IsPermutation26 p → IsPermutation26 q
    → inverse (followed_by p q) ≡ followed_by (inverse q) (inverse p)
inverse_of_product p q hp hq =
    let ip = inverse_permutes p hp in
    let iq = inverse_permutes q hq in
    is_inverse (followed_by p q) (followed_by (inverse q) (inverse p)) (product_permutes p q hp hq)
    (product_permutes (inverse q) (inverse p) iq ip)
    (λ y lt.
    let z = slice_index (inverse q) y in
    let z_lt : z < 26 = iq.each_once.within y lt in
    let x = slice_index (inverse p) z in
    let x_lt : x < 26 = ip.each_once.within z z_lt in
    ap (slice_index (followed_by p q)) (followed_by-at (inverse q) (inverse p) y (omega (arith, iq.size)))
    ∙ followed_by-at p q x (omega (arith, hp.size))
    ∙ ap (slice_index q) ((inverse_by_letter p x z hp x_lt z_lt).1 refl)
    ∙ (inverse_by_letter q z y hq z_lt lt).1 refl)

shifted_back : (k y : ℕ) → k ≤ 26 → y < 26 → ((y + (26 - k)) % 26 + k) % 26 ≡ y
shifted_back k y k_le lt = omega arith

pub inverse_of_shift : (k : ℕ) → k ≤ 26 → inverse (shift k) ≡ shift (26 - k)
inverse_of_shift k k_le =
    is_inverse (shift k) (shift (26 - k)) (shift_permutes k) (shift_permutes (26 - k))
    (λ y lt. ap (slice_index (shift k)) (shift-at (26 - k) y lt) ∙ shift-at k ((y + (26 - k)) % 26) (omega arith)
    ∙ shifted_back k y k_le lt)
