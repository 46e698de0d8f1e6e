-- What the wheels show, and which pins act, after a number of letters.
use Rattle.std.proofs.Common.{◌≡◌, ℕ, ◌+◌, ◌-◌, ◌%◌, ◌<◌, ◌≤◌, Bool, ◌&&◌, ◌||◌, Option, unwrap_or, List, [], ◌∷◌}
use Rattle.std.proofs.Common.{length, map, slice_index, slice_index_or, true, count_by, refl, sym, ap, ◌∙◌, arith, leb}
use Rattle.kd_drum.specs.{Laws.ConverterKeyAfterChunks, SixWheels.AreSixWheels, SixWheels.IsPinWheel}
use Rattle.kd_drum.specs.{SixWheels.converter_key}
use Rattle.{kd_tables.specs.Rings.{IsRing, place_on, ring_of, ring_texts}, std.proofs.Math.Nat.mod-add-mod}
use Rattle.kd_tables.{proofs.Rings.letter_leads_to_place, proofs.Wirings.text_makes_ring, specs.WiringText.is_ring_text}
use Rattle.std.proofs.{Math.Nat.mod-lt, lemmas.Bool.Decides.nat_tests, lemmas.List.FromFn.get_or-map-range_with_len}
use Rattle.std.proofs.lemmas.List.{Sums.sum_by-le-sum_by, ext_get_or}
use Rattle.kd_pins.specs.PinWheel.{TurnedWheel, is_effective, letter_shown, is_acting_pin_effective, wheel_at_place}
use Rattle.kd_pins.specs.PinWheels.{pin_wheels, pins_on, acting_offset}
use Rattle.kd_drum.specs.Converter.{PinKey, pin_key_turned, shown_place, is_acting_after, bars_met, letter_after}
use Rattle.kd_drum.specs.Converter.{pin_key_after}

-- If `P` holds of 1, 2, 3, 4, 5 and 6, it holds of any wheel from 1 to 6.
pub each_wheel : (P : ℕ → Type 0) → P 1 → P 2 → P 3 → P 4 → P 5 → P 6 → (wheel : ℕ) → 1 ≤ wheel → wheel ≤ 6 → P wheel
each_wheel P e d g h o q wheel w y = grind arith

abbrev ring_size : ℕ → ℕ
ring_size wheel = length (ring_of wheel)

-- A wheel has at least one place.
pub has_places : (wheel : ℕ) → 1 ≤ wheel → wheel ≤ 6 → 0 < length (ring_of wheel)
unfolding ring_of
has_places =
    each_wheel (λ wheel. 0 < ring_size wheel) (omega arith) (omega arith) (omega arith) (omega arith) (omega arith)
    (omega arith)

-- A wheel has a different letter at each place.
is_ring : (wheel : ℕ) → 1 ≤ wheel → wheel ≤ 6 → IsRing (ring_size wheel) (ring_of wheel)
unfolding ring_of
is_ring =
    let text = λ (wheel : ℕ). slice_index_or ring_texts wheel [] in
    let is =
    λ (wheel : ℕ) (h : is_ring_text (text wheel) ≡ true). text_makes_ring (ring_size wheel) (text wheel) refl h in
    each_wheel (λ wheel. IsRing (ring_size wheel) (ring_of wheel)) (is 1 refl) (is 2 refl) (is 3 refl) (is 4 refl)
    (is 5 refl) (is 6 refl)

start_after : (key : PinKey) (count wheel : ℕ) → 1 ≤ wheel → wheel ≤ 6
    → shown_place (pin_key_after key count).letters wheel ≡ (shown_place key.letters wheel + count) % ring_size wheel
start_after key count wheel low high =
    let place = (shown_place key.letters wheel + count) % ring_size wheel in
    let within : place < ring_size wheel = mod-lt (shown_place key.letters wheel + count)
    (has_places wheel low high) in
    ap (λ letter. unwrap_or (place_on (ring_of wheel) letter) 0)
    (get_or-map-range_with_len (letter_after key count) 1 6 (wheel - 1) wheel 0 (omega arith) (omega arith))
    ∙ ap (λ (found : Option ℕ). unwrap_or found 0)
    (letter_leads_to_place (ring_size wheel) (ring_of wheel) (is_ring wheel low high) place within)

-- Moving on by `m`, `i` and `o` places, one after the other, is moving on by their sum, around `n` places.
three_on : (s m i o n : ℕ) → ((s + m) % n + i + o) % n ≡ (s + (m + i) + o) % n
three_on s m i o n = grind (arith, mod-add-mod (s + m) n (i + o))

letter_after_sum : (key : PinKey) (m n wheel : ℕ) → 1 ≤ wheel → wheel ≤ 6
    → letter_after (pin_key_after key m) n wheel ≡ letter_after key (m + n) wheel
letter_after_sum key m n wheel low high =
    grind (arith, start_after, mod-add-mod (shown_place key.letters wheel + m) (ring_size wheel) n)

pub key_in_turn : ConverterKeyAfterChunks
key_in_turn key m n =
    let once = letter_after (pin_key_after key m) n in
    let whole = letter_after key (m + n) in
    ap (pin_key_turned key) (ext_get_or 0 (map once pin_wheels) (map whole pin_wheels) refl
    (λ i lt. get_or-map-range_with_len once 1 6 i (1 + i) 0 lt refl
    ∙ letter_after_sum key m n (1 + i) (omega arith) (omega arith)
    ∙ sym (get_or-map-range_with_len whole 1 6 i (1 + i) 0 lt refl)))

-- Two tests of a number, each joined with the test that the number is from 1 to 6, agree if they agree for the
-- numbers from 1 to 6.
alike_on_wheels : (wheel : ℕ) (x y : Bool) → (1 ≤ wheel → wheel ≤ 6 → x ≡ y)
    → ((leb 1 wheel && leb wheel 6) && x) ≡ ((leb 1 wheel && leb wheel 6) && y)
alike_on_wheels wheel x y same = grind (arith, nat_tests, same)

acts_after_sum : (key : PinKey) (m i wheel : ℕ)
    → is_acting_after key.pins (pin_key_after key m).letters i wheel
    ≡ is_acting_after key.pins key.letters (m + i) wheel
acts_after_sum key m i wheel = alike_on_wheels wheel _ _ (λ low high.
    ap (λ start. is_effective (pins_on key.pins wheel) ((start + i + acting_offset wheel) % ring_size wheel))
    (start_after key m wheel low high)
    ∙ ap (is_effective (pins_on key.pins wheel))
    (three_on (shown_place key.letters wheel) m i (acting_offset wheel) (ring_size wheel)))

-- Tests that agree give equal counts.
pub count_alike : {X : Type 0} (p q : X → Bool) (xs : List X) → ((x : X) → p x ≡ q x) → count_by p xs ≡ count_by q xs
count_alike p q xs same = grind (arith, sum_by-le-sum_by, p, q, same)

pub bars_met_sum : (key : PinKey) (m n : ℕ) → bars_met (pin_key_after key m) n ≡ bars_met key (m + n)
bars_met_sum key m n = λ i. count_by (λ bar. acts_after_sum key m n bar.0 i || acts_after_sum key m n bar.1 i) key.bars

-- ---- the wheels in the Converter

-- Looking up the place of the letter that a wheel shows gives the wheel's `place`.
start_place : (number size : ℕ) (wheel : TurnedWheel) → IsPinWheel number size wheel
    → unwrap_or (place_on (ring_of number) (letter_shown wheel)) 0 ≡ wheel.place
start_place number size wheel h =
    grind (arith, letter_leads_to_place size wheel.ring h.turned.ring wheel.place h.turned.place)

size_is : (number size : ℕ) (wheel : TurnedWheel) → IsPinWheel number size wheel → ring_size number ≡ size
size_is number size wheel h = sym (ap length h.ring) ∙ h.turned.ring.full

-- A wheel of the key shows `letter_after`, for `count` letters, once it is moved on by `count` places.
shows_after : (key : PinKey) (number size count place : ℕ) (wheel : TurnedWheel) → IsPinWheel number size wheel
    → slice_index key.letters (number - 1) ≡ letter_shown wheel
    → (wheel.place + count) % size ≡ place → slice_index wheel.ring place ≡ letter_after key count number
shows_after key number size count place wheel h shown e = grind (arith, size, size_is, start_place)

-- Whether the acting pin of a wheel is effective agrees with `is_acting_after` for 0 letters.
pub acts_now : (key : PinKey) (number size : ℕ) (wheel : TurnedWheel) → IsPinWheel number size wheel
    → slice_index key.letters (number - 1) ≡ letter_shown wheel → pins_on key.pins number ≡ wheel.pins
    → is_acting_pin_effective size wheel
    ≡ is_effective (pins_on key.pins number)
    ((shown_place key.letters number + 0 + acting_offset number) % ring_size number)
acts_now key number size wheel h shown pins = grind (arith, key, start_place, size, size_is)

-- Moving each wheel on by `count` places gives the key after `count` letters.
pub key_moved : (w1 w2 w3 w4 w5 w6 : TurnedWheel) (bars : List (ℕ × ℕ)) → AreSixWheels w1 w2 w3 w4 w5 w6
    → (count p1 p2 p3 p4 p5 p6 : ℕ)
    → (w1.place + count) % 26 ≡ p1 → (w2.place + count) % 25 ≡ p2 → (w3.place + count) % 23 ≡ p3
    → (w4.place + count) % 21 ≡ p4 → (w5.place + count) % 19 ≡ p5 → (w6.place + count) % 17 ≡ p6
    → converter_key (wheel_at_place w1 p1) (wheel_at_place w2 p2) (wheel_at_place w3 p3)
    (wheel_at_place w4 p4) (wheel_at_place w5 p5) (wheel_at_place w6 p6) bars
    ≡ pin_key_after (converter_key w1 w2 w3 w4 w5 w6 bars) count
key_moved w1 w2 w3 w4 w5 w6 bars all count p1 p2 p3 p4 p5 p6 e1 e2 e3 e4 e5 e6 =
    let key = converter_key w1 w2 w3 w4 w5 w6 bars in
    let first = shows_after key 1 26 count p1 w1 all.first refl e1 in
    let second = shows_after key 2 25 count p2 w2 all.second refl e2 in
    let third = shows_after key 3 23 count p3 w3 all.third refl e3 in
    let fourth = shows_after key 4 21 count p4 w4 all.fourth refl e4 in
    let fifth = shows_after key 5 19 count p5 w5 all.fifth refl e5 in
    let sixth = shows_after key 6 17 count p6 w6 all.sixth refl e6 in
    λ i. pin_key_turned key (first i ∷ second i ∷ third i ∷ fourth i ∷ fifth i ∷ sixth i ∷ [])

-- The key after 0 letters is the key itself.
pub key_stands : (w1 w2 w3 w4 w5 w6 : TurnedWheel) (bars : List (ℕ × ℕ)) → AreSixWheels w1 w2 w3 w4 w5 w6
    → converter_key w1 w2 w3 w4 w5 w6 bars ≡ pin_key_after (converter_key w1 w2 w3 w4 w5 w6 bars) 0
key_stands w1 w2 w3 w4 w5 w6 bars all =
    key_moved w1 w2 w3 w4 w5 w6 bars all 0 w1.place w2.place w3.place w4.place w5.place w6.place
    (omega (arith, all.first.turned.place)) (omega (arith, all.second.turned.place))
    (omega (arith, all.third.turned.place))
    (omega (arith, all.fourth.turned.place)) (omega (arith, all.fifth.turned.place))
    (omega (arith, all.sixth.turned.place))
