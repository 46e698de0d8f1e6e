-- Lemmas on the values of keys: names, numbers and letters, wheels in slots, cables and pairs, and pins.
pub mod Steps
unfoldable pub use Steps.*
pub use Rattle.kd_tables.specs.declared.model.Model.TheVariants.{EnigmaI, M3, M4}
use Rattle.std.proofs.lemmas.{List.{take_more}, List.Quantifiers.{position-Some}}
use Rattle.std.{proofs.lemmas.List.Folds.{find_at, list_any-append}, specs.List.{position, position_or_len}}
use Rattle.std.specs.Prelude.{decimal}

-- ---- names

-- a search by text finds nothing if no value has this text
find_unnamed : {A : Type 0} (text_of : A → List ℕ) (text : List ℕ) → ((x : A) → text_of x ≢ text) → (xs : List A)
    → find_by_text text_of xs text ≡ None
unfolding find_by_text
find_unnamed text_of text none [] = refl
find_unnamed text_of text none (x ∷ xs) =
    grind (arith, cases_Bool, none, bytes_eq-Decides, find_unnamed text_of text none xs)

-- if a search finds each thing by the thing's own text, a search for any text finds the thing with this text, or
-- nothing if there is none
pub find_named : {A : Type 0} (text_of : A → List ℕ) (xs : List A)
    → ((x : A) → find_by_text text_of xs (text_of x) ≡ Some x) → (text : List ℕ) (found : Option A)
    → MatchOption found ((x : A) → text_of x ≢ text) (λ x. text_of x ≡ text)
    → found ≡ find_by_text text_of xs text
find_named text_of xs own text None none = sym (find_unnamed text_of text none xs)
find_named text_of xs own text (Some x) named = sym (own x) ∙ ap (find_by_text text_of xs) named

-- each model, and each wheel, is found by its name
pub model_found : (model : Model)
    → find_by_text model_text all_models (model_text model) ≡ Some model
unfolding find_by_text
model_found model = grind arith

-- the version of a model's files has one digit
pub version_has_one_digit : (model : Model) → decimal (file_version model) ≡ digit_text (file_version model)
unfolding digits
version_has_one_digit EnigmaI = refl
version_has_one_digit M3 = refl
version_has_one_digit M4 = refl
version_has_one_digit M209 = refl

pub wheel_found : (wheel : Wheel) → find_by_text wheel_text (box_of M4) (wheel_text wheel) ≡ Some wheel
unfolding find_by_text
wheel_found wheel = grind arith

-- an element that `find` finds is in the list
pub find-contains : {X : Type 0} (p : X → Bool) (xs : List X) (x : X) → find p xs ≡ Some x → Contains xs x
find-contains p xs x e =
    let at = sym (find_at p xs) ∙ e in
    (position_or_len p xs, slice_get_within xs _ x at, get_or_from_slice_get xs _ x x at)

pub find-passes : {X : Type 0} (p : X → Bool) (xs : List X) (x : X) → find p xs ≡ Some x → p x ≡ true
find-passes p [] x e = absurd (none-some x e)
find-passes p (y ∷ xs) x e = grind (arith, cases_Bool, same_Some, find-passes p xs x)

-- each standing is found by its text
pub standing_again : (bar : Place × Place) → IsBefore bar.0 bar.1
    → find_by_text standing_text standings (standing_text bar) ≡ Some bar
unfolding find_by_text
standing_again bar before = grind arith

pub standing_read : (text : List ℕ) (bar : Place × Place) → find_by_text standing_text standings text ≡ Some bar
    → IsBefore bar.0 bar.1
unfolding find_by_text
standing_read text bar e =
    ltb-true _ _ (All-contains (λ bar. nat_lt (place_rank bar.0) (place_rank bar.1) ≡ true) standings bar
    (AllPass-from_list_all (λ bar. nat_lt (place_rank bar.0) (place_rank bar.1)) standings refl)
    (find-contains (λ standing. bytes_eq (standing_text standing) text) standings bar e))

no_standing : (text : List ℕ) → ((bar : Place × Place) → IsBefore bar.0 bar.1 → standing_text bar ≢ text)
    → (found : Option (Place × Place)) → find_by_text standing_text standings text ≡ found → None ≡ found
unfolding find_by_text
no_standing text none None e = refl
no_standing text none (Some bar) e =
    absurd (none bar (standing_read text bar e)
    (grind (arith, bytes_eq-Decides, find-passes (λ s. bytes_eq (standing_text s) text) standings bar e)))

pub standing_found : (text : List ℕ) (found : Option (Place × Place))
    → MatchOption found ((bar : Place × Place) → IsBefore bar.0 bar.1 → standing_text bar ≢ text)
    (λ bar. standing_text bar ≡ text)
    → IfSome found (λ bar. IsBefore bar.0 bar.1) → found ≡ find_by_text standing_text standings text
standing_found text None none before = no_standing text none (find_by_text standing_text standings text) refl
standing_found text (Some bar) named before =
    sym (standing_again bar before) ∙ ap (find_by_text standing_text standings) named

-- ---- numbers and letters

number_within : (last : ℕ) (value : Data) (number : ℕ) → number_up_to last value ≡ Some number
    → (1 ≤ number) × (number ≤ last)
number_within last value number e = grind (arith, cond-Some, leb-true, none-some)

pub day_number_within : (table : Members) → SucceedsWith (read_at keys.Day (number_up_to 31) table) IsDayNumber
day_number_within table number e = grind (arith, bind-Ok, value_at, number_within, ok_or-Ok)

capitals_within : (text : List ℕ) → list_all is_capital text ≡ true
    → AllByRecursion (λ letter. letter < 26) (letters_of text)
capitals_within [] e = tt
capitals_within (byte ∷ text) e = grind (arith, nat_tests, leb-true, capitals_within text)

pub letters_read : (text : List ℕ) → list_all is_capital text ≡ true → AreLetters (length text) (letters_of text)
letters_read text e =
    record { count = length-map text _; within = All-from_recursion (λ letter. letter < 26) _ (capitals_within text e) }

pub capitals_are_letters : (count : ℕ) (text letters : List ℕ) → capital_letters (nat_eq count) text ≡ Some letters
    → AreLetters count letters
capitals_are_letters count text letters e = grind (arith, cond-Some, eqb-true, letters_read)

numbered_letters_within : (items : List Data) → list_all (λ item. is_some (number_up_to 26 item)) items ≡ true
    → AllByRecursion (λ letter. letter < 26) (map (λ number. number - 1) (filter_map (number_up_to 26) items))
    × (length (map (λ number. number - 1) (filter_map (number_up_to 26) items)) ≡ length items)
numbered_letters_within [] e = (tt, refl)
numbered_letters_within (item ∷ items) e = grind (arith, nat_tests, number_within, numbered_letters_within items)

pub rings_in_letters : (model : Model) (table : Members)
    → SucceedsWith (read_at keys.Rings (rings_of (slots_of model)) table) (AreLetters (slots_of model))
rings_in_letters model table rings e =
    grind (arith, bind-Ok, ok_or-Ok, cond-Some, capitals_are_letters, numbered_letters_within, All-from_recursion)

pub letters_at_are : (key : Key) (count : ℕ) (table : Members)
    → SucceedsWith (letters_at key count table) (AreLetters count)
unfolding letters_at
letters_at_are key count table letters e = grind (arith, bind-Ok, ok_or-Ok, capitals_are_letters)

-- ---- one slot

-- whether one of the slots holds the wheel
abbrev pub is_seated : List (Option Wheel) → Wheel → Bool
is_seated slots wheel = list_any (λ slot. option_map_or (same_wheel wheel) slot false) slots

pub is_seated-Decides : (slots : List (Option Wheel)) (wheel : Wheel)
    → Decides (is_seated slots wheel) (Contains slots (Some wheel))
is_seated-Decides slots wheel =
    let holds : Option Wheel → Bool = λ slot. option_map_or (same_wheel wheel) slot false in
    Decides-contains slots (Some wheel) _ (Decides-by_or holds (λ slot. slot ≡ Some wheel) (list_any holds)
    (λ s. grind (arith, Decides-like, same_Some, same_wheel-Decides)) refl (λ _ _. refl) slots)

pub not_seated : (slots : List (Option Wheel)) (wheel : Wheel) → ¬ Contains slots (Some wheel)
    → is_seated slots wheel ≡ false
not_seated slots wheel free = grind (arith, is_seated-Decides slots wheel)

pub ruleset seating = (not_seated, has_wheel-Decides)

record CanBeSeated (model : Model) (slots : List (Option Wheel)) (wheel : Wheel) : Type 0 where
  allowed : Contains (wheels_for model (length slots + 1)) wheel
  free : ¬ Contains slots (Some wheel)

wheel_read : (key : Key) (model : Model) (slots : List (Option Wheel)) (item : Data)
    → SucceedsWith (wheel_for key model slots item) (CanBeSeated model slots)
unfolding wheel_for
wheel_read key model slots item wheel e = grind
    (arith, bind-Ok, demand-Ok, has_wheel-Decides, is_seated-Decides, not-true)

-- a slot as it is read: its wheel may be right of `slots`, and it is empty only in a machine file
record IsSlotRead (key : Key) (model : Model) (slots : List (Option Wheel)) (slot : Option Wheel) : Type 0 where
  free : IfSome slot (CanBeSeated model slots)
  filled : key ≡ keys.Wheels → IsSome slot

slot_read : (key : Key) (model : Model) (slots : List (Option Wheel)) (item : Data) (slot : Option Wheel)
    → slot_for key model slots item ≡ Ok slot → IsSlotRead key model slots slot
unfolding slot_for
slot_read key model slots item slot e = record { free = grind (arith, wheel_read); filled = grind (arith, none-some) }

-- ---- the slots that an array fills

-- each wheel that is read from an array is allowed in its slot, and is in no slot before it
wheel_free_at : (key : Key) (model : Model) (items : List Data) (slots : List (Option Wheel))
    → read_items (slot_for key model) items ≡ Ok slots → (place : ℕ) (wheel : Wheel) → IsSeatedAt slots place wheel
    → (place < length slots) × CanBeSeated model (take place slots) wheel
wheel_free_at key model items slots e place wheel stands =
    let within = slice_get_within slots place (Some wheel) stands in
    let here = get_or_from_slice_get slots place (Some wheel) (Some wheel) stands in (
      within,
      (slot_read key model (take place slots) (get_or items place no_item) (Some wheel) (
          rw here at (read_items-get_or _ items slots e place no_item (Some wheel)
          (omega (arith, length-read_items _ items slots e))))).free,
    )

-- a wheel that can be seated in a slot is in no slot further left
not_free : (model : Model) (slots : List (Option Wheel)) (place other : ℕ) (wheel : Wheel)
    → IsSeatedAt slots place wheel
    → CanBeSeated model (take other slots) wheel → other ≤ length slots → other ≤ place
not_free model slots place other wheel stands free within = grind (arith, common_steps, gets, cases_lt place other)

-- each wheel is allowed in its slot, none is in two slots, and slots are empty only in a machine file
pub record FillsSlots (key : Key) (model : Model) (slots : List (Option Wheel)) : Type 0 where
  pub allowed : (place : ℕ) (w : Wheel) → IsSeatedAt slots place w → Contains (wheels_for model (place + 1)) w
  pub apart : (p q : ℕ) (wheel : Wheel) → IsSeatedAt slots p wheel → IsSeatedAt slots q wheel → p ≡ q
  pub filled : key ≡ keys.Wheels → All IsSome slots

fill_slots : (key : Key) (model : Model) (items : List Data)
    → SucceedsWith (read_items (slot_for key model) items) (FillsSlots key model)
fill_slots key model items slots e =
    let free = wheel_free_at key model items slots e in
    record {
      allowed = λ place wheel stands. grind (arith, free place wheel stands, length-take-le);
      apart = λ place other wheel stands again.
          let one = free place wheel stands in
          let two = free other wheel again in
          let first = not_free model slots place other wheel stands two.1 (omega (arith, two.0)) in
          omega (arith, first, not_free model slots other place wheel again one.1 (omega (arith, one.0)));
      filled = λ full. All-read_items (slot_for key model) IsSome
          (λ before item slot is. (slot_read key model before item slot is).filled full) items slots e;
    }

pub slots_in_fill : (key : Key) (model : Model) (table : Members)
    → SucceedsWith (slots_in key model table) (λ slots. (length slots ≡ slots_of model) × FillsSlots key model slots)
unfolding slots_in
slots_in_fill key model table =
    read_array-exactly _ (FillsSlots key model) (fill_slots key model) key (slots_of model) table

-- ---- the wheels of a day

-- the wheels of a day that is read from `slots`, `rings` and `letters` are those of `slots`
pub seats_of_wheels-sheet_wheels : (slots : List (Option Wheel)) (rings letters : List ℕ) → AllByRecursion IsSome slots
    → length rings ≡ length slots → length letters ≡ length slots
    → seats_of_wheels (sheet_wheels slots rings letters) ≡ slots
seats_of_wheels-sheet_wheels [] rings letters filled same equal = refl
seats_of_wheels-sheet_wheels (Some w ∷ slots) (r ∷ rings) (l ∷ letters) filled same equal =
    ap (λ rest. Some w ∷ rest) (seats_of_wheels-sheet_wheels slots rings letters filled.1 (omega arith) (omega arith))
seats_of_wheels-sheet_wheels (slot ∷ slots) rings letters filled same equal = grind (arith, false≢true)

pub wheels_have_letters : (slots : List (Option Wheel)) (rings letters : List ℕ)
    → AllByRecursion (λ letter. letter < 26) rings → AllByRecursion (λ letter. letter < 26) letters
    → AllByRecursion HasWheelLetters (sheet_wheels slots rings letters)
wheels_have_letters (Some wheel ∷ slots) (ring ∷ rings) (letter ∷ letters) within also =
    (record { ring = within.0; letter = also.0 }, wheels_have_letters slots rings letters within.1 also.1)
wheels_have_letters slots rings letters within also = tt

-- ---- cables or pairs that share no letter

pub IsDistinct-append : (plugged letters : List ℕ) → IsDistinct nat_eq (plugged ++ letters)
    ↔ ((are_new_and_distinct letters plugged ≡ true) × IsDistinct nat_eq plugged)
IsDistinct-append plugged letters = (
  λ apart. (new_tells letters plugged).0
      (IsDistinct-IsPermutation nat_eq eqb_flips _ _ (IsPermutation-append_comm plugged letters) apart),
  λ new. IsDistinct-IsPermutation nat_eq eqb_flips _ _ (IsPermutation-append_comm letters plugged)
      ((new_tells letters plugged).1 new),
)

pub AllByRecursion-parts : {X : Type 0} (P : X → Type 0) (xs ys : List X) → AllByRecursion P (xs ++ ys)
    → AllByRecursion P xs × AllByRecursion P ys
AllByRecursion-parts P [] ys all = (tt, all)
AllByRecursion-parts P (x ∷ xs) ys all = let rest = AllByRecursion-parts P xs ys all.1 in ((all.0, rest.0), rest.1)

-- the letters of `x` are letters of the alphabet, all different, and nothing in `before` has one of them
pub record IsFree {X : Type 0} (letters_in : X → List ℕ) (before : List X) (x : X) : Type 0 where
  pub within : All (λ letter. letter < 26) (letters_in x)
  pub new : are_new_and_distinct (letters_in x) (flat_map letters_in before) ≡ true

pub record AreFree {X : Type 0} (letters_in : X → List ℕ) (plugged : List X) : Type 0 where
  pub within : All (λ letter. letter < 26) (flat_map letters_in plugged)
  pub apart : IsDistinct nat_eq (flat_map letters_in plugged)

module _ {X : Type 0} (letters_in : X → List ℕ) where
  one_more : (plugged : List X) (x : X) → AreFree letters_in plugged → IsFree letters_in plugged x
      → AreFree letters_in (plugged ++ x ∷ [])
  one_more plugged x so_far free =
      let now : flat_map letters_in (plugged ++ x ∷ []) ≡ flat_map letters_in plugged ++ letters_in x =
      rw (flat_map-append, append-nil) refl in
      record {
        within = rw now (All-append (λ letter. letter < 26) _ _ so_far.within free.within);
        apart = rw now ((IsDistinct-append _ _).1 (free.new, so_far.apart));
      }

  -- an array that is read has at most `count` items, and none of them shares a letter with another
  pub read_array-free : (parse : List X → Data → Result X SheetFault)
      → ((before : List X) (item : Data) (x : X) → parse before item ≡ Ok x → IsFree letters_in before x)
      → (key : Key) (count : ℕ) (value : Data)
      → SucceedsWith (read_array key (λ n. nat_le n count) parse value)
      (λ plugged. (length plugged ≤ count) × AreFree letters_in plugged)
  read_array-free parse free =
      read_array-up_to parse (AreFree letters_in) (read_items-keeps parse (AreFree letters_in)
      (record { within = All-nil (λ letter. letter < 26); apart = IsDistinct-nil })
      (λ plugged item x so_far is. one_more plugged x so_far (free plugged item x is)))

  -- of things that share no letters, each shares none with the things before it
  pub IsFree-at : (plugged : List X) (k : ℕ) (x : X) → AreFree letters_in plugged → slice_get plugged k ≡ Some x
      → IsFree letters_in (take k plugged) x
  IsFree-at plugged k x free at =
      let within = slice_get_within plugged k x at in
      let front = flat_map letters_in (take k plugged) in
      let rest = flat_map letters_in (drop (k + 1) plugged) in
      let here : plugged ≡ take k plugged ++ x ∷ drop (k + 1) plugged =
      sym (take-append-drop k plugged) ∙ ap (λ more. take k plugged ++ more) (drop_more plugged k x within
      ∙ ap (λ y. y ∷ drop (k + 1) plugged) (get_or_from_slice_get plugged k x x at)) in
      let letters : flat_map letters_in plugged ≡ front ++ (letters_in x ++ rest) =
      ap (flat_map letters_in) here ∙ flat_map-append letters_in (take k plugged) (x ∷ drop (k + 1) plugged) in
      let low = recursion_from_All (λ letter. letter < 26) (front ++ (letters_in x ++ rest)) (rw
      (← letters) free.within) in
      let lie = AllByRecursion-parts (λ letter. letter < 26) front (letters_in x ++ rest) low in
      let apart : IsDistinct nat_eq ((front ++ letters_in x) ++ rest) = rw (append_assoc, ← letters) free.apart in
      let alone = ((IsDistinct-append (front ++ letters_in x) rest).0 apart).1 in
      record {
        within = All-from_recursion (λ letter. letter < 26) (letters_in x)
            (AllByRecursion-parts (λ letter. letter < 26) (letters_in x) rest lie.1).0;
        new = ((IsDistinct-append front (letters_in x)).0 alone).0;
      }

-- ---- cables

pub two_letters : (letters : List ℕ) → length letters ≤ 2
    → cable_letters (slice_get letters 0, slice_get letters 1) ≡ letters
two_letters (one ∷ other ∷ third ∷ letters) few = absurd (omega arith)
two_letters letters few = refl

letters_in_cables-replicate : (n : ℕ) → letters_in_cables (replicate n (None, None)) ≡ []
letters_in_cables-replicate zero = refl
letters_in_cables-replicate (suc n) = letters_in_cables-replicate n

-- cables that share no letter are the cables of a machine, once empty ones fill them up to 13
filled_up : (cables : List (Option ℕ × Option ℕ)) → length cables ≤ 13 → AreFree cable_letters cables
    → AreCables (cables ++ replicate (13 - length cables) (None, None))
filled_up cables few free =
    let letters : letters_in_cables (cables ++ replicate (13 - length cables) (None, None)) ≡ letters_in_cables cables =
    rw (flat_map-append, letters_in_cables-replicate _, append-nil) refl in
    record { count = grind (arith, common_steps); within = rw letters free.within; apart = rw letters free.apart }

pub are_cables : (table : Members) → SucceedsWith (cables_in table) AreCables
unfolding cables_in cable_for
are_cables table =
    SucceedsWith-bind _ _ _ _ (if_present (get_member (key_name keys.Cables) table) _ _ _
    (read_array-free cable_letters cable_for
    (λ cables item cable e. grind (arith, cond-Some, letters_read, two_letters, leb-true, none-some)) keys.Cables 13)
    (omega arith, record { within = All-nil (λ letter. letter < 26); apart = IsDistinct-nil }))
    (λ cables free. SucceedsWith-Ok AreCables _ (filled_up cables free.0 free.1))

-- ---- pairs

-- the two letters of a pair
abbrev pub pair_letters : ℕ × ℕ → List ℕ
pair_letters pair = pair.0 ∷ pair.1 ∷ []

two_of : (letters : List ℕ) → AreLetters 2 letters
    → pair_letters (slice_index letters 0, slice_index letters 1) ≡ letters
two_of (one ∷ other ∷ []) are = refl
two_of letters are = absurd (omega (arith, are.count))

pub are_pairs : (table : Members) → SucceedsWith (pairs_in table) ArePairs
unfolding pairs_in pair_for
are_pairs table =
    after_any (value_at keys.Plugs table) (read_array keys.Plugs (λ n. nat_le n 13) pair_for) ArePairs (λ value pairs e.
    let free = read_array-free pair_letters pair_for (λ pairs item pair e.
    grind (arith, ok_or-Ok, capitals_are_letters, two_of, none-some)) keys.Plugs 13 value pairs e in
    record { few = free.0; within = free.1.within; apart = free.1.apart })

-- ---- the letters of the pin wheels, and of their effective pins

-- whether wheel 1 has the first of `letters`, wheel 2 the second, and so on
abbrev is_on_its_wheel : ℕ × ℕ → Bool
is_on_its_wheel numbered = has_letter (ring_of numbered.0) numbered.1

abbrev pub are_on_wheels : List ℕ → Bool
are_on_wheels letters = list_all is_on_its_wheel (enumerate_from 1 letters)

-- if the test passes, the letters are on their wheels
pub AreOnWheels-by_test : (letters : List ℕ) → length letters ≡ 6 → are_on_wheels letters ≡ true → AreOnWheels letters
AreOnWheels-by_test letters long all =
    on_all_wheels letters long (λ wheel low high.
    let within : wheel - 1 < length letters = omega arith in
    let here = AllPass-from_list_all is_on_its_wheel (enumerate_from 1 letters) all (wheel - 1) (0, 0)
    (omega (arith, length-enumerate_from 1 letters)) in
    let same : 1 + (wheel - 1) ≡ wheel = omega arith in
    (has_letter-Decides _ _).0 (subst (λ ring. has_letter (ring_of ring) (get_or letters (wheel - 1) 0) ≡ true) same
    (rw (get_or-enumerate_from 1 letters (wheel - 1) (0, 0) within) at here)))

-- if the letters are on their wheels, the test passes
pub are_on_wheels-true : (letters : List ℕ) → AreOnWheels letters → are_on_wheels letters ≡ true
are_on_wheels-true letters are =
    list_all-from_AllPass is_on_its_wheel (enumerate_from 1 letters) (λ place d within.
    let inside : place < length letters = omega (arith, length-enumerate_from 1 letters) in
    let wheel : 1 + place ≡ suc place = omega arith in
    rw (get_or-enumerate_from 1 letters place d inside, wheel)
    ((has_letter-Decides (ring_of (suc place)) (get_or letters place d.1)).1 (are.each (suc place) _
    (slice_get-get_or letters place d.1 inside))))

ring_below : (wheel : ℕ) → list_all (λ letter. nat_lt letter 26) (ring_of wheel) ≡ true
unfolding ring_of
ring_below wheel = grind arith

pub ring_letters : (wheel : ℕ) → All (λ letter. letter < 26) (ring_of wheel)
ring_letters wheel place d within =
    ltb-true _ _ (AllPass-from_list_all (λ letter. nat_lt letter 26) (ring_of wheel) (ring_below wheel) place d within)

pub letters_below : (letters : List ℕ) → AreOnWheels letters → All (λ letter. letter < 26) letters
letters_below letters are place d within =
    All-contains (λ letter. letter < 26) _ _ (ring_letters (suc place))
    (are.each (suc place) _ (slice_get-get_or letters place d within))

-- ---- texts of effective pins

-- no letter of the wheel occurs twice
letters_apart : (wheel : ℕ) → are_new_and_distinct (ring_of wheel) [] ≡ true
unfolding ring_of
letters_apart wheel = grind arith

own_letters : (wheel : ℕ) → list_all (has_letter (letters_text (ring_of wheel))) (letters_text (ring_of wheel)) ≡ true
unfolding ring_of
own_letters wheel = grind arith

letter_there : (ring : List ℕ) (k d : ℕ) → k < length ring → has_letter ring (get_or ring k d) ≡ true
letter_there ring k d within = (has_letter-Decides ring (get_or ring k d)).1 (Contains-get_or ring k d within)

-- two texts give the same pins if they have the same letters of the wheel
same_pins : (ring text other : List ℕ)
    → ((letter : ℕ) → has_letter ring letter ≡ true → has_letter text (letter + 65) ≡ has_letter other (letter + 65))
    → map (has_letter text) (letters_text ring) ≡ map (has_letter other) (letters_text ring)
same_pins [] text other same = refl
same_pins (x ∷ ring) text other same =
    grind (arith, nat_tests, same x, same_pins ring text other (λ letter has. same letter (rw (has, or-true) refl)))

-- the text of a wheel's pins has no letter that the wheel lacks
pins_text-lacks : (ring : List ℕ) (pins : List Bool) (letter : ℕ) → has_letter ring letter ≡ false
    → has_letter (pins_text ring pins) (letter + 65) ≡ false
pins_text-lacks [] pins letter absent = refl
pins_text-lacks (x ∷ ring) [] letter absent = refl
pins_text-lacks (x ∷ ring) (pin ∷ pins) letter absent = grind (arith, nat_tests, pins_text-lacks ring pins letter)

list_all-pins_text : (test : ℕ → Bool) (ring : List ℕ) (pins : List Bool) → list_all test (letters_text ring) ≡ true
    → list_all test (pins_text ring pins) ≡ true
list_all-pins_text test [] pins all = refl
list_all-pins_text test (x ∷ ring) [] all = refl
list_all-pins_text test (x ∷ ring) (pin ∷ pins) all = grind (arith, nat_tests, list_all-pins_text test ring pins)

pins_text-apart : (ring : List ℕ) (pins : List Bool) → are_new_and_distinct ring [] ≡ true
    → are_new_and_distinct (pins_text ring pins) [] ≡ true
pins_text-apart [] pins apart = refl
pins_text-apart (x ∷ ring) [] apart = refl
pins_text-apart (x ∷ ring) (pin ∷ pins) apart =
    grind (arith, nat_tests, append-nil, pins_text-lacks, pins_text-apart ring pins)

-- the text of a wheel's pins has the letters of the effective pins
pins_again : (ring : List ℕ) (pins : List Bool) → are_new_and_distinct ring [] ≡ true → length pins ≡ length ring
    → map (has_letter (pins_text ring pins)) (letters_text ring) ≡ pins
pins_again [] [] apart same = refl
pins_again (x ∷ ring) (pin ∷ pins) apart same =
    let rest = same_pins ring (pins_text (x ∷ ring) (pin ∷ pins)) (pins_text ring pins)
    (λ letter has. grind (arith, nat_tests, append-nil)) in
    grind (arith, nat_tests, append-nil, pins_text-lacks, rest, pins_again ring pins)
pins_again ring pins apart same = absurd (omega arith)

pub pins_of_text-pins_text : (wheel : ℕ) (pins : List Bool) → length pins ≡ length (ring_of wheel)
    → pins_of_text (ring_of wheel) (pins_text (ring_of wheel) pins) ≡ Some pins
unfolding pins_of_text
pins_of_text-pins_text wheel pins same =
    let ring = ring_of wheel in
    let apart = letters_apart wheel in
    rw (
      list_all-pins_text (has_letter (letters_text ring)) ring pins (own_letters wheel),
      pins_text-apart ring pins apart,
      pins_again ring pins apart same,
    ) refl

-- ---- the pins of a text, byte by byte

new_letters-push : (front : List ℕ) (byte : ℕ)
    → are_new_and_distinct (front ++ byte ∷ []) [] ≡ (are_new_and_distinct front [] && not (has_letter front byte))
new_letters-push [] byte = refl
new_letters-push (x ∷ front) byte = grind (arith, nat_tests, list_any-append, append-nil, new_letters-push front byte)

new_letters-twice : (front : List ℕ) (byte : ℕ) (rest : List ℕ) → has_letter front byte ≡ true
    → are_new_and_distinct (front ++ byte ∷ rest) [] ≡ false
new_letters-twice [] byte rest has = absurd (false≢true has)
new_letters-twice (x ∷ front) byte rest has =
    grind (arith, nat_tests, list_any-append, append-nil, new_letters-twice front byte rest)

-- setting the pin of one letter gives the pins of the text with this letter added
set_pin : (ring front : List ℕ) (byte place : ℕ) → are_new_and_distinct ring [] ≡ true → place < length ring
    → get_or ring place 0 + 65 ≡ byte
    → set (map (has_letter front) (letters_text ring)) place true
    ≡ map (has_letter (front ++ byte ∷ [])) (letters_text ring)
set_pin [] front byte place apart within at = absurd (omega arith)
set_pin (x ∷ ring) front byte zero apart within at =
    let rest = same_pins ring (front ++ byte ∷ []) front
    (λ other has. grind (arith, nat_tests, list_any-append, append-nil)) in
    grind (arith, nat_tests, list_any-append, rest)
set_pin (x ∷ ring) front byte (suc place) apart within at =
    grind (arith, nat_tests, list_any-append, append-nil, letter_there ring place 0, set_pin ring front byte place)

pin_at : (ring text : List ℕ) (place : ℕ) → place < length ring
    → get_or (map (has_letter text) (letters_text ring)) place false ≡ has_letter text (get_or ring place 0 + 65)
pin_at [] text place within = absurd (omega arith)
pin_at (x ∷ ring) text zero within = refl
pin_at (x ∷ ring) text (suc place) within = pin_at ring text place (omega arith)

-- the place of a byte's letter on the wheel
abbrev pub byte_at : List ℕ → ℕ → Option ℕ
byte_at ring byte = position (λ letter. letter + 65 == byte) ring

has_byte : (ring : List ℕ) (byte : ℕ) → has_letter (letters_text ring) byte
    ≡ nat_lt (position_or_len (λ letter. letter + 65 == byte) ring) (length ring)
has_byte [] byte = refl
has_byte (x ∷ ring) byte = grind (arith, nat_tests, has_byte ring byte)

-- byte `byte` of `text`, at place `k`, and the pins of the bytes before it
module _ (ring text : List ℕ) (k byte : ℕ) (left : k < length text) (here : get_or text k 0 ≡ byte) where
  -- no pins are read from a text with a byte that isn't on the wheel
  pub pins_of_text-absent : byte_at ring byte ≡ None → None ≡ pins_of_text ring text
  unfolding pins_of_text
  pins_of_text-absent none =
      let all : list_all (has_letter (letters_text ring)) text ≡ true → has_letter (letters_text ring) byte ≡ true =
      λ all. rw here at (AllPass-from_list_all (has_letter (letters_text ring)) text all k 0 left) in
      grind (arith, cases_Bool, all, has_byte ring byte)

  module _ (pins : List Bool) (place : ℕ) (so_far : pins_of_text ring (take k text) ≡ Some pins)
      (at : byte_at ring byte ≡ Some place) where
    prefix : (list_all (has_letter (letters_text ring)) (take k text) ≡ true)
        × (are_new_and_distinct (take k text) [] ≡ true) × (map (has_letter (take k text)) (letters_text ring) ≡ pins)
    unfolding pins_of_text
    prefix = grind (arith, cond-Some, nat_tests)

    place_found : (place < length ring) × (get_or ring place 0 + 65 ≡ byte)
    place_found = grind (arith, eqb-true, position-Some (λ letter. letter + 65 == byte) ring place 0 at)

    pin_is : get_or pins place false ≡ has_letter (take k text) byte
    pin_is = rw (← prefix.2, pin_at ring (take k text) place place_found.0, place_found.1) refl

    pub pins_of_text-twice : get_or pins place false ≡ true → None ≡ pins_of_text ring text
    unfolding pins_of_text
    pins_of_text-twice effective =
        let again = new_letters-twice (take k text) byte (drop (k + 1) text) (sym pin_is ∙ effective) in
        rw (rw (← here, ← drop_more text k 0 left, take-append-drop) at again, and-false) refl

    pub pins_of_text-push : IsDistinct nat_eq ring → get_or pins place false ≡ false
        → pins_of_text ring (take (k + 1) text) ≡ Some (set pins place true)
    unfolding pins_of_text
    pins_of_text-push distinct free =
        let apart = ((new_tells ring []).0 (rw append-nil distinct)).0 in
        let own : has_letter (letters_text ring) byte ≡ true = grind (arith, has_byte ring byte) in
        rw (take_more text k 0 left, here, list_all-append, prefix.0, own, new_letters-push, prefix.1, ← pin_is, free)
        (ap Some (sym (set_pin ring (take k text) byte place apart place_found.0 place_found.1)
        ∙ ap (λ ps. set ps place true) prefix.2))
