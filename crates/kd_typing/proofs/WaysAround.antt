-- The way of the current through wheels, letter by letter.
use Rattle.std.proofs.Common.{◌≡◌, ◌∙◌, ℕ, ◌+◌, ◌-◌, ◌<◌, ◌%◌, List, [], ◌∷◌, ap, arith, get_or, length, map, refl}
use Rattle.std.proofs.Common.{slice_index, sym, take}
use Rattle.std.proofs.Common.{drop}
use Rattle.std.proofs.lemmas.List.{drop-map, drop_all, drop_more, ext_get_or, get_or_default, length-map, take-map}
use Rattle.kd_tables.proofs.Products.{shift-at, shift_permutes}
use Rattle.kd_tables.proofs.Wirings.{wiring_permutes}
use Rattle.kd_tables.specs.{Permutation.{followed_by, inverse, shift}, Tables.{reflector_of, wiring_of}}
use Rattle.kd_enigma.specs.Rotor.{offset, rotor, wiring_turned_by}
use Rattle.kd_enigma.specs.Cipher.{product, rotors}
use Rattle.kd_enigma.proofs.Ways.{core_in_wheels, product-at, product-size, rotor_permutes, turned_undone}
use Rattle.kd_state.specs.declared.sheet_day.rotor_entry.SheetWheel.{SheetWheel}
use Rattle.kd_state.specs.SeatedWheels.{key_of_wheels}
use Rattle.kd_tables.specs.declared.reflector.Reflector.{Reflector}
use Rattle.kd_typing.proofs.RotorTyping.{core_is, into_is}
use Rattle.kd_typing.specs.Around.{around_all, around_one}
use Rattle.kd_typing.specs.RotorTable.{core_row, core_slots, into_row, right_slot}

pub turned_at : (by : ℕ) (p : List ℕ) (x there item : ℕ) → length p ≡ 26 → x < 26 → there ≡ (x + by) % 26
    → item ≡ get_or p there item → item < 26
    → slice_index (wiring_turned_by by p) x ≡ (item + (26 - by)) % 26
unfolding wiring_turned_by
turned_at by p x there item size lt is_there is_item item_lt =
    product-at (followed_by (shift by) p) (shift (26 - by)) x (product-size (shift by) p ∙ (shift_permutes by).size) lt
    ∙ ap (slice_index (shift (26 - by))) (product-at (shift by) p x (shift_permutes by).size lt
    ∙ ap (slice_index p) (shift-at by x lt ∙ sym is_there) ∙ get_or_default p there 0 item (omega arith) ∙ sym is_item)
    ∙ shift-at (26 - by) item item_lt

around_one_at : (core : List ℕ) (w : SheetWheel) (letter x : ℕ) → length core ≡ 26 → x < 26
    → slice_index (around_one core w letter) x
    ≡ slice_index (wiring_turned_by (offset w.ring letter) (inverse (wiring_of w.wheel)))
    (slice_index core (slice_index (wiring_turned_by (offset w.ring letter) (wiring_of w.wheel)) x))
unfolding around_one
around_one_at core w letter x size lt =
    let turns = rotor_permutes w.wheel w.ring letter in
    product-at (rotor w.wheel w.ring letter) (followed_by core (inverse (rotor w.wheel w.ring letter))) x turns.size lt
    ∙ product-at core (inverse (rotor w.wheel w.ring letter)) (slice_index (rotor w.wheel w.ring letter) x) size
    (turns.each_once.within x lt)
    ∙ ap (λ back. slice_index back (slice_index core (slice_index (rotor w.wheel w.ring letter) x)))
    (turned_undone (offset w.ring letter) (wiring_of w.wheel) (omega arith) (wiring_permutes w.wheel))

-- The same, if the current enters the core at `place`, and leaves it at `inside`.
pub around_one_by : (core : List ℕ) (w : SheetWheel) (letter x place inside : ℕ) → length core ≡ 26 → x < 26
    → place ≡ slice_index (wiring_turned_by (offset w.ring letter) (wiring_of w.wheel)) x → place < 26
    → inside ≡ get_or core place inside
    → slice_index (around_one core w letter) x
    ≡ slice_index (wiring_turned_by (offset w.ring letter) (inverse (wiring_of w.wheel))) inside
around_one_by core w letter x place inside size lt is_place place_lt is_inside =
    around_one_at core w letter x size lt
    ∙ ap (slice_index (wiring_turned_by (offset w.ring letter) (inverse (wiring_of w.wheel))))
    (ap (slice_index core) (sym is_place) ∙ get_or_default core place 0 inside (omega arith) ∙ sym is_inside)

around_one-size : (core : List ℕ) (w : SheetWheel) (letter : ℕ) → length (around_one core w letter) ≡ 26
unfolding around_one
around_one-size core w letter = product-size _ _ ∙ (rotor_permutes w.wheel w.ring letter).size

pub around_one_filled : (row core : List ℕ) (w : SheetWheel) (letter : ℕ) → length row ≡ 26
    → ((k : ℕ) → k < 26 → slice_index row k ≡ slice_index (around_one core w letter) k) → row ≡ around_one core w letter
around_one_filled row core w letter size each =
    ext_get_or 0 row (around_one core w letter) (size ∙ sym (around_one-size core w letter)) (λ k lt. each k (omega arith))

pub inward_filled : (row plugs turns : List ℕ) → length row ≡ 26 → length plugs ≡ 26
    → ((k : ℕ) → k < 26 → slice_index row k ≡ slice_index turns (slice_index plugs k)) → row ≡ followed_by plugs turns
inward_filled row plugs turns size also each =
    ext_get_or 0 row (followed_by plugs turns) (size ∙ sym (product-size plugs turns ∙ also))
    (λ k lt. each k (omega arith) ∙ sym (product-at plugs turns k also (omega arith)))

-- ---- the rows of a machine with these wheels

around_all_is : (core : List ℕ) (wheels : List SheetWheel) (window : List ℕ)
    → around_all core wheels window
    ≡ core_in_wheels core (rotors (map (λ w. w.wheel) wheels) (map (λ w. w.ring) wheels) window)
unfolding around_one rotors
around_all_is core (w ∷ wheels) (letter ∷ window) = around_all_is (around_one core w letter) wheels window
around_all_is core [] window = refl
around_all_is core (w ∷ wheels) [] = refl

core_slots_of : {X Y : Type 0} (f : X → Y) (xs : List X) → core_slots (map f xs) ≡ map f (take (length xs - 1) xs)
core_slots_of f xs = ap (λ n. take (n - 1) (map f xs)) (length-map xs f) ∙ take-map f (length xs - 1) xs

pub core_of_wheels : (wheels : List SheetWheel) (reflector : Reflector) (plugs window : List ℕ)
    → core_row (key_of_wheels wheels reflector plugs) window
    ≡ around_all (reflector_of reflector) (take (length wheels - 1) wheels) window
core_of_wheels wheels reflector plugs window =
    core_is (key_of_wheels wheels reflector plugs) window
    ∙ (λ i. core_in_wheels (reflector_of reflector)
    (rotors (core_slots_of (λ w. w.wheel) wheels i) (core_slots_of (λ w. w.ring) wheels i) window))
    ∙ sym (around_all_is (reflector_of reflector) (take (length wheels - 1) wheels) window)

right_slot_of : {Y : Type 0} (f : SheetWheel → Y) (wheels : List SheetWheel) (w : SheetWheel) → 0 < length wheels
    → w ≡ get_or wheels (length wheels - 1) w → right_slot (map f wheels) ≡ f w ∷ []
right_slot_of f wheels w some is =
    let n = length wheels - 1 in
    ap (λ k. drop (k - 1) (map f wheels)) (length-map wheels f) ∙ drop-map f n wheels
    ∙ ap (map f) (drop_more wheels n w (omega arith)
    ∙ (λ i. sym is i ∷ drop_all (n + 1) wheels (omega arith) i))

pub into_of_wheels : (wheels : List SheetWheel) (reflector : Reflector) (plugs : List ℕ) (w : SheetWheel) (letter : ℕ)
    → 0 < length wheels → w ≡ get_or wheels (length wheels - 1) w
    → into_row (key_of_wheels wheels reflector plugs) letter ≡ followed_by plugs (rotor w.wheel w.ring letter)
unfolding into_row rotors
into_of_wheels wheels reflector plugs w letter some is =
    (λ i. product (plugs ∷ rotors (right_slot_of (λ w. w.wheel) wheels w some is i)
    (right_slot_of (λ w. w.ring) wheels w some is i) (letter ∷ [])))
    ∙ into_is plugs (rotor w.wheel w.ring letter) (rotor_permutes w.wheel w.ring letter)
