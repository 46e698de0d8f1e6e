-- Lemmas on which wheels and reflectors are the same, and on the slots and places that wheels have.
use Rattle.kd_state.proofs.Prelude.{place_in_box, same_reflector, same_wheel, AreLegalSeats, IsSeatedAt, ShowsWindow}
use Rattle.kd_state.proofs.Prelude.{Day, Pin, PinDay, AllByRecursion, All-from_recursion, recursion_from_All}
use Rattle.kd_state.proofs.Prelude.{seats_of_wheels, Parts, Pin, PinParts, SheetWheel, box_of, reflector_text, slots_of}
use Rattle.kd_state.proofs.Prelude.{wheel_text, wheels_for, Model, Reflector, Wheel, I, cases_Bool, eqb-true}
use Rattle.kd_state.proofs.Prelude.{false_from_ne_true, leb-true, Contains-append_left, Contains-append_right}
use Rattle.kd_state.proofs.Prelude.{Contains-get_or, passes_at_first, position_or_len_is, is_member-Decides, same_Some}
use Rattle.kd_state.proofs.Prelude.{slice_get-get_or, slice_get-map, Decides, pointwise_decides, All, list_any}
use Rattle.kd_state.proofs.Prelude.{position_or_len, option_eq, unwrap_or, Bool, Contains, List, Option, [], ap, arith}
use Rattle.kd_state.proofs.Prelude.{false, find, get_or, length, refl, rules, sym, true, ℕ, ◌<◌, ◌↔◌, ◌∙◌, ◌∷◌, ◌≡◌}
use Rattle.kd_state.proofs.Prelude.{◌≢◌, ◌≤◌, pointwise, ◌&&◌}
use Rattle.std.specs.Prelude.{AllPairs, nat_le}
use Rattle.{kd_tables.specs.contracts.wheel.Wheel.the_type, kd_tables.specs.declared.model.Model.TheVariants.M4}
use Rattle.{std.proofs.Common.{cond, ◌==◌}, std.specs.Str.bytes_eq}
use Rattle.kd_tables.specs.contracts.reflector.Reflector as reflector_type
use denote.Enum.Bare.{sameb, same_true, same_false, true_same}

-- the first element of `all` whose name is `text`, or `d` if there is none
abbrev pub named_or : {T : Type 0} → (T → List ℕ) → List T → T → List ℕ → T
named_or name all d text = unwrap_or (find (λ x. bytes_eq (name x) text) all) d

pub name-injective : {T : Type 0} (name : T → List ℕ) (back : List ℕ → T) → ((x : T) → back (name x) ≡ x) → (x y : T)
    → name x ≡ name y → x ≡ y
name-injective name back undone x y e = grind (arith, undone)

pub one_wheel : (x y : Wheel) → wheel_text x ≡ wheel_text y → x ≡ y
one_wheel x y e = grind arith

pub one_reflector : (x y : Reflector) → reflector_text x ≡ reflector_text y → x ≡ y
one_reflector x y e = grind arith

-- `same_wheel` is true exactly if the two wheels are equal
pub same_wheel-Decides : (wheel other : Wheel) → Decides (same_wheel wheel other) (wheel ≡ other)
same_wheel-Decides wheel other = (same_true the_type tt wheel other, true_same the_type wheel other)

-- `same_reflector` is true exactly if the two reflectors are equal
pub same_reflector-Decides : (reflector other : Reflector)
    → Decides (same_reflector reflector other) (reflector ≡ other)
same_reflector-Decides reflector other =
    (same_true reflector_type.the_type tt reflector other, true_same reflector_type.the_type reflector other)

pub same_wheel_self : (wheel : Wheel) → same_wheel wheel wheel ≡ true
same_wheel_self wheel = grind (arith, same_wheel-Decides)

pub same_wheel_differs : (wheel other : Wheel) → wheel ≢ other → same_wheel wheel other ≡ false
same_wheel_differs wheel other h = grind (arith, false_from_ne_true, same_wheel-Decides)

-- the test for a wheel is true exactly if the list contains the wheel
pub has_wheel-Decides : (wheels : List Wheel) (wheel : Wheel)
    → Decides (list_any (same_wheel wheel) wheels) (Contains wheels wheel)
has_wheel-Decides wheels wheel = is_member-Decides same_wheel-Decides wheels wheel

-- the test for a reflector is true exactly if the list contains the reflector
pub has_reflector-Decides : (reflectors : List Reflector) (reflector : Reflector)
    → Decides (list_any (same_reflector reflector) reflectors) (Contains reflectors reflector)
has_reflector-Decides reflectors reflector = is_member-Decides same_reflector-Decides reflectors reflector

-- if an element passes the test, the place of the first that passes is below the length
pub first_within : {X : Type 0} (p : X → Bool) (xs : List X) → list_any p xs ≡ true → position_or_len p xs < length xs
first_within p [] h = cc
first_within p (x ∷ xs) h = grind (arith, cases_Bool, first_within p xs)

pub first_nowhere : {X : Type 0} (p : X → Bool) (xs : List X) → list_any p xs ≡ false → position_or_len p xs ≡ length xs
first_nowhere p [] h = refl
first_nowhere p (x ∷ xs) h = grind (arith, cases_Bool, first_nowhere p xs)

pub place_within : (model : Model) (wheel : Wheel) → Contains (box_of model) wheel
    → place_in_box model wheel < length (box_of model)
place_within model wheel h = grind (arith, first_within, has_wheel-Decides)

pub place_nowhere : (model : Model) (wheel : Wheel) → ¬ (Contains (box_of model) wheel)
    → place_in_box model wheel ≡ length (box_of model)
place_nowhere model wheel h = grind (arith, first_nowhere, false_from_ne_true, has_wheel-Decides)

-- let a list be `wheels` if `b` is true, and empty otherwise; if it contains a wheel, then `b` is true, and `wheels`
-- contains the wheel
in_some : (b : Bool) (wheels : List Wheel) (wheel : Wheel) → Contains (cond b wheels []) wheel
    → (b ≡ true) × Contains wheels wheel
in_some b wheels wheel e = grind arith

lies_in_both : (first last number : ℕ) → (nat_le first number && nat_le number last) ≡ true
    → (first ≤ number) × (number ≤ last)
lies_in_both first last number e = grind (arith, leb-true)

-- the slot is one of the model's, and the wheel is in the model's box
pub record IsPlaced (model : Model) (slot : ℕ) (wheel : Wheel) : Type 0 where
  pub first : 1 ≤ slot
  pub last : slot ≤ slots_of model
  pub in_box : Contains (box_of model) wheel

placed_in_m4 : (first : Bool) (slot : ℕ) (wheel : Wheel) → (slot == 1) ≡ first
    → Contains (cond first (wheels_for M4 1) (cond (nat_le 2 slot && nat_le slot 4) (wheels_for M4 2) [])) wheel
    → IsPlaced M4 slot wheel
placed_in_m4 true slot wheel e h = search (rules, eqb-true, Contains-append_right)
placed_in_m4 false slot wheel e h = grind (arith, in_some, lies_in_both, Contains-append_left)

-- if a wheel is allowed in a slot, the slot is one of the model's, and the wheel is in the model's box
pub IsPlaced-from_wheels_for : (model : Model) (slot : ℕ) (wheel : Wheel) → Contains (wheels_for model slot) wheel
    → IsPlaced model slot wheel
IsPlaced-from_wheels_for M4 slot wheel h = placed_in_m4 (slot == 1) slot wheel refl h
IsPlaced-from_wheels_for model slot wheel h = grind (arith, in_some, lies_in_both)

pub lacks_wheel : (wheels : List Wheel) (wheel : Wheel) → ¬ (Contains wheels wheel)
    → list_any (same_wheel wheel) wheels ≡ false
lacks_wheel wheels wheel h = grind (arith, false_from_ne_true, has_wheel-Decides)

-- `==` in the program agrees with `same_wheel`
pub same_tested : (wheel other : Wheel) (b : Bool) → sameb the_type other wheel ≡ b → same_wheel wheel other ≡ b
same_tested wheel other b e = grind (arith, same_wheel-Decides, same_true, same_wheel_differs, same_false)

-- the place at which a search finds a wheel in the box is `place_in_box`
pub found_in_box : (model : Model) (wheel : Wheel) (place : ℕ) → place < length (box_of model)
    → ((k : ℕ) → k < place → same_wheel wheel (get_or (box_of model) k I) ≡ false)
    → same_wheel wheel (get_or (box_of model) place I) ≡ true
    → Contains (box_of model) wheel × (place ≡ place_in_box model wheel)
found_in_box model wheel place within before here =
    search (rules, same_wheel-Decides, Contains-get_or, position_or_len_is)

-- ---- each wheel of the box, and so of a day, has its own place

pub allowed_in_box : (model : Model) (slot : ℕ) (wheel : Wheel) → Contains (wheels_for model slot) wheel
    → Contains (box_of model) wheel
allowed_in_box model slot wheel h = (IsPlaced-from_wheels_for model slot wheel h).in_box

-- at the place that `place_in_box` gives for a wheel of the box, the box has this wheel
at_its_place : (model : Model) (wheel : Wheel) → Contains (box_of model) wheel
    → wheel ≡ get_or (box_of model) (place_in_box model wheel) I
at_its_place model wheel h = grind (arith, same_wheel-Decides, passes_at_first, place_within)

pub places_determine_wheels : (model : Model) (wheel other : Wheel) → Contains (box_of model) wheel
    → Contains (box_of model) other → place_in_box model wheel ≡ place_in_box model other → wheel ≡ other
places_determine_wheels model wheel other h k e =
    at_its_place model wheel h ∙ ap (λ place. get_or (box_of model) place I) e ∙ sym (at_its_place model other k)

IsSeatedAt-seats : (wheels : List SheetWheel) (i : ℕ) (d : SheetWheel) → i < length wheels
    → IsSeatedAt (seats_of_wheels wheels) i (get_or wheels i d).wheel
IsSeatedAt-seats wheels i d lt = grind (arith, slice_get-map, slice_get-get_or)

pub days_wheels_have_their_places : (model : Model) (wheels : List SheetWheel)
    → AreLegalSeats model (seats_of_wheels wheels)
    → AllPairs (λ (w other : SheetWheel). place_in_box model w.wheel ≢ place_in_box model other.wheel) wheels
days_wheels_have_their_places model wheels h i j d before within same =
    grind (arith, IsSeatedAt-seats, places_determine_wheels, allowed_in_box, h.allowed, h.apart)

seat_Decides : (one other : Option Wheel) → Decides (option_eq (sameb the_type) one other) (one ≡ other)
seat_Decides one other = grind (arith, same_true, same_false, same_Some)

pub seats_Decides : (slots others : List (Option Wheel))
    → Decides (pointwise (option_eq (sameb the_type)) slots others) (slots ≡ others)
seats_Decides = grind (arith, pointwise_decides, seat_Decides)

-- if `b` decides whether all elements of `xs` satisfy `P`, it also decides this for an equal list `ys`
pub all_tested : {X : Type 0} (P : X → Type 0) (xs ys : List X) (b : Bool) → Decides b (AllByRecursion P xs) → xs ≡ ys
    → Decides b (All P ys)
all_tested P xs ys b d e = grind (arith, All-from_recursion, recursion_from_All)

-- a Converter shows the day's letters exactly if its letters are the day's window
pub pin_letters_show : (p : Parts) (m : PinParts) (s : Day) (r : PinDay) → p ≡ Pin m → s ≡ Pin r
    → (m.letters ≡ r.window) ↔ ShowsWindow p s
pin_letters_show p m s r is day = grind arith
