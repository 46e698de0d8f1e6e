-- The machine and the day that a table describes are legal; and the days that the entries of a sheet describe make
-- a month, each at its number.
pub mod KeyValues
unfoldable pub use KeyValues.*
use Rattle.kd_sheet.specs.{Document.document_of, MachineFile.machine_of, SheetFile.{sheet_in, sheet_of}}
use Rattle.kd_state.{proofs.Carrying.ordered_parts, specs.Machine.IsMachine}

-- ---- reflectors

reflector_there : (model : Model) (table : Members)
    → SucceedsWith (reflector_in model table) (Contains (reflectors_of model))
unfolding reflector_in find_by_text
reflector_there model table reflector e = grind (arith, bind-Ok, ok_or-Ok, find-contains)

-- ---- groups, rows and bars

-- there are `count` elements, and each satisfies `P`
abbrev HasEach : {A : Type 0} → (A → Type 0) → ℕ → List A → Type 0
HasEach P count xs = (length xs ≡ count) × All P xs

groups_in_groups : (table : Members)
    → SucceedsWith (groups_in table) (λ groups. (length groups ≤ 4) × All (AreLetters 3) groups)
unfolding groups_in group_for
groups_in_groups table groups e =
    let read = read_array-up_to group_for (All (AreLetters 3))
    (All-read_items group_for (AreLetters 3) (λ earlier item group e.
    grind (arith, ok_or-Ok, capitals_are_letters, none-some))) keys.Groups 4 in
    grind (arith, read, All-nil (AreLetters 3))

rows_in_rows : (table : Members) → SucceedsWith (rows_in table) (HasEach IsReading 27)
unfolding rows_in reading_of_text
rows_in_rows table = read_array-exactly _ (All IsReading)
    (All-read_items (or_bad_row reading_of_text) IsReading (λ earlier item row e.
    grind (arith, ok_or-Ok, cond-Some, nat_tests, leb-true, none-some))) keys.Rows 27 table

abbrev IsLegalStanding : Place × Place → Type 0
IsLegalStanding bar = IsBefore bar.0 bar.1

bars_in_bars : (table : Members) → SucceedsWith (bars_in table) (HasEach IsLegalStanding 27)
unfolding bars_in
bars_in_bars table = read_array-exactly _ (All IsLegalStanding)
    (All-read_items (or_bad_row (find_by_text standing_text standings)) IsLegalStanding (λ earlier item bar e.
    grind (arith, ok_or-Ok, standing_read, none-some))) keys.Bars 27 table

-- ---- pins, and the letters that pin wheels show

text_pins : (ring : List ℕ) (item : Data) (pins : List Bool)
    → ok_or (from_text (pins_of_text ring) item) (BadValue keys.Pins) ≡ Ok pins → length pins ≡ length ring
unfolding pins_of_text
text_pins ring item pins e = grind (arith, common_steps, ok_or-Ok, cond-Some, none-some)

-- each wheel's list has a pin for each letter of the wheel
abbrev FitWheels : List (List Bool) → Type 0
FitWheels lists = (place : ℕ) (d : List Bool) → place < length lists
    → length (get_or lists place d) ≡ length (ring_of (place + 1))

all_fit : (items : List Data) → SucceedsWith (read_items pins_for items) FitWheels
all_fit items lists e k d within =
    grind (arith, length-read_items, read_items-get_or pins_for items lists e k no_item d, length-take-le, text_pins)

pins_in_fit : (table : Members) → SucceedsWith (pins_in table) HasAllPins
unfolding pins_in ring_of
pins_in_fit table =
    SucceedsWith-bind _ _ _ _ (read_array-exactly pins_for FitWheels all_fit keys.Pins 6 table)
    (λ lists all. SucceedsWith-Ok HasAllPins _ (grind (arith, all.1)))

letters_shown : (key : Key) (table : Members) → SucceedsWith (shown_letters_in key table) AreOnWheels
unfolding shown_letters_in
letters_shown key table = SucceedsWith-bind _ _ _ _ (letters_at_are key 6 table) (λ letters are shown e.
    let tested = demand-Ok _ _ _ e in
    subst AreOnWheels (Ok-injective _ _ tested.1) (AreOnWheels-by_test letters are.count tested.0))

-- ---- machines

pub rotor_parts_legal : (model : Model) (table : Members) → SucceedsWith (rotor_parts_in model table) AreLegalRotorParts
unfolding rotor_parts_in
rotor_parts_legal model table =
    SucceedsWith-bind _ _ _ _ (reflector_there model table) (λ reflector there.
    SucceedsWith-bind _ _ _ _ (slots_in_fill keys.Slots model table) (λ slots fill.
    SucceedsWith-bind _ _ _ _ (letters_at_are keys.Rings (length (box_of model)) table) (λ rings are_rings.
    SucceedsWith-bind _ _ _ _ (letters_at_are keys.Letters (length (box_of model)) table) (λ letters are_letters.
    SucceedsWith-bind _ _ _ _ (are_cables table) (λ cables are. SucceedsWith-Ok AreLegalRotorParts _ (record {
      seats = record { count = fill.0; allowed = fill.1.allowed; apart = fill.1.apart };
      reflector = there;
      rings = are_rings;
      letters = are_letters;
      cables = are;
    }))))))

pub pin_parts_legal : (table : Members) → SucceedsWith (pin_parts_in table) AreLegalPinParts
unfolding pin_parts_in
pin_parts_legal table =
    SucceedsWith-bind _ _ _ _ (letters_shown keys.Letters table) (λ letters shown.
    SucceedsWith-bind _ _ _ _ (pins_in_fit table) (λ pins fit.
    SucceedsWith-bind _ _ _ _ (bars_in_bars table) (λ bars are.
    SucceedsWith-Ok AreLegalPinParts _ (record { pins = fit; letters = shown; bars = are.0; apart = are.1 }))))

-- ---- days

-- the day is legal and has this number
abbrev pub IsLegalDayNumbered : ℕ → Day → Type 0
IsLegalDayNumbered number day = IsLegalDay day × (day_number day ≡ number)

pub rotor_day : (number : ℕ) (model : Model) (table : Members) → IsDayNumber number
    → SucceedsWith (rotor_day_in number model table) (IsLegalDayNumbered number)
unfolding rotor_day_in
rotor_day number model table is =
    SucceedsWith-bind _ _ _ _ (reflector_there model table) (λ reflector there.
    SucceedsWith-bind _ _ _ _ (slots_in_fill keys.Wheels model table) (λ slots fill.
    SucceedsWith-bind _ _ _ _ (rings_in_letters model table) (λ rings are_rings.
    SucceedsWith-bind _ _ _ _ (letters_at_are keys.Window (slots_of model) table) (λ window are_letters.
    SucceedsWith-bind _ _ _ _ (are_pairs table) (λ pairs are_pairs.
    SucceedsWith-bind _ _ _ _ (groups_in_groups table) (λ groups are_groups.
    let seated = seats_of_wheels-sheet_wheels slots rings window (recursion_from_All IsSome _ (fill.1.filled refl))
    (are_rings.count ∙ sym fill.0) (are_letters.count ∙ sym fill.0) in SucceedsWith-Ok (IsLegalDayNumbered number) _ (
      record {
        day = is;
        reflector = there;
        wheels = rw seated (record { count = fill.0; allowed = fill.1.allowed; apart = fill.1.apart });
        letters = grind (arith, All-from_recursion, wheels_have_letters, recursion_from_All);
        pairs = are_pairs;
        few_groups = are_groups.0;
        groups = are_groups.1;
      },
      refl,
    )))))))

pub pin_day : (number : ℕ) (table : Members) → IsDayNumber number
    → SucceedsWith (pin_day_in number table) (IsLegalDayNumbered number)
unfolding pin_day_in
pin_day number table is day e = grind (arith, bind-Ok, rows_in_rows, pins_in_fit, letters_shown, letters_at_are)

model_day : (number : ℕ) (model : Model) (table : Members) → IsDayNumber number
    → SucceedsWith (day_in number model table) (IsLegalDayNumbered number)
unfolding day_in
model_day number M209 table is = pin_day number table is
model_day number model table is = rotor_day number model table is

pub day_again : (number : ℕ) (model : Model) (table : Members) (item : Data) (day : Day)
    → ok_or (as_table item) (BadValue keys.Day) ≡ Ok table
    → read_at keys.Day (number_up_to 31) table ≡ Ok number → model_in table ≡ Ok model
    → day_in number model table ≡ Ok day → day_for [] item ≡ Ok day
unfolding day_for
day_again number model table item day of_item is of_model rest = grind (arith, bind-step)

-- what holds of the day that `item` describes after `days`: it is legal, none of `days` has its number, and the
-- item alone describes it too
pub record IsDayFor (days : List Day) (item : Data) (day : Day) : Type 0 where
  pub legal : IsLegalDay day
  pub number : IsDayNumber (day_number day)
  pub free : list_any (λ other. day_number other == day_number day) days ≡ false
  pub alone : day_for [] item ≡ Ok day

pub IsDayFor-day_for : (days : List Day) (item : Data) (day : Day) → day_for days item ≡ Ok day → IsDayFor days item day
unfolding day_for
IsDayFor-day_for days item day e =
    let table = bind-Ok (ok_or (as_table item) (BadValue keys.Day)) _ day e in
    let number = bind-Ok (read_at keys.Day (number_up_to 31) table.0) _ day table.2 in
    let new = demand-Ok _ _ _ number.2 in
    let model = bind-Ok (model_in table.0) _ day new.1 in
    let within = day_number_within table.0 number.0 number.1 in
    let is = model_day number.0 model.0 table.0 within day model.2 in
    let alone = day_again number.0 model.0 table.0 item day table.1 number.1 model.1 model.2 in
    record { legal = is.0; number = rw is.1 within; free = rw is.1 (not-true _ new.0); alone = alone }

-- the day has this number
abbrev has_number : ℕ → Day → Bool
has_number number day = day_number day == number

-- ---- the days of a month, by their numbers

month_size : (days : List Day) → length (month_of days) ≡ 31
month_size days = length-map-range_with_len (λ n. find (has_number n) days) 1 31

month_at : (days : List Day) (place : ℕ) (d : Option Day) → place < 31
    → get_or (month_of days) place d ≡ find (has_number (suc place)) days
month_at days place d within = get_or-map-range_with_len (λ n. find (has_number n) days) 1 31 place (suc place) d within
    (omega arith)

-- day `number` of the month is the first of `days` with this number
pub day_of_month : (days : List Day) (number : ℕ) → IsDayNumber number
    → day_of (month_of days) number ≡ find (has_number number) days
day_of_month days zero is = let first = is.first in absurd (omega arith)
day_of_month days (suc place) is =
    let last = is.last in
    ap (option_and_then (λ d. d)) (slice_get-get_or (month_of days) place None (omega (arith, month_size days)))
    ∙ month_at days place None (omega arith)

-- a search for a number finds a day exactly if a day has this number
find-any : (days : List Day) (number : ℕ) → is_some (find (has_number number) days) ≡ list_any (has_number number) days
find-any [] number = refl
find-any (day ∷ days) number = grind (arith, cases_Bool, has_number, find-any days number)

pub day_of_is_some : (days : List Day) (number : ℕ) → IsDayNumber number
    → is_some (day_of (month_of days) number) ≡ list_any (has_number number) days
day_of_is_some days number is = rw (day_of_month days number is) (find-any days number)

-- a month has days at the numbers from 1 to 31 only
within_month : (days : List Day) (number : ℕ) (day : Day) → day_of (month_of days) number ≡ Some day
    → IsDayNumber number
within_month days zero day e = absurd (none-some day e)
within_month days (suc place) day e = grind (arith, slice_get_cases (month_of days) place)

-- a month without days satisfies `IsMonth`
pub empty_month : IsMonth (month_of [])
empty_month = record { count = refl; each = λ number day e. grind (arith, within_month [] number day, day_of_month []) }

-- a list of 31 empty places is the month without days
pub blank_month : (month : List (Option Day)) → AllOfLen (λ day. day ≡ None) month 31 → month ≡ month_of []
blank_month month blank = grind (arith, same_lists, blank.at, get_or-map-range_with_len)

-- a month in which a day is inserted at its own number is still a month
pub insert_day : (month : List (Option Day)) (place : ℕ) (new : Day) → IsMonth month → place + 1 ≡ day_number new
    → place < 31
    → IsMonth (set month place (Some new))
insert_day month place new before here left =
    let at : day_number new - 1 ≡ place = omega arith in
    rw (← at) (record {
      count = length-set month (day_number new - 1) (Some new) ∙ before.count;
      each = λ number day e.
          grind (arith, cases_eq number (day_number new), numbered_here, numbered_other, same_Some, before.each);
    })

-- the day at a place of the month has the place's number
pub day_number_at : (month : List (Option Day)) (number place : ℕ) (found : Option Day) → IsMonth month
    → place < length month → number ≡ suc place → found ≡ get_or month place found
    → IfSome found (λ day. day_number day ≡ number)
day_number_at month number place None is within same here = tt
day_number_at month number place (Some day) is within same here = is.each number day (grind (arith, slice_get-get_or))

-- after one more day with a new number, a search for this number finds the day; a search for another number
-- finds what it found before
find-has_number : (days : List Day) (new : Day) (number : ℕ) → list_any (has_number (day_number new)) days ≡ false
    → find (has_number number) (days ++ new ∷ [])
    ≡ cond (nat_eq (day_number new) number) (Some new) (find (has_number number) days)
find-has_number days new number free = grind (arith, nat_tests, find-append, find-any days number)

set-month_of : (days : List Day) (new : Day) → IsDayNumber (day_number new)
    → list_any (has_number (day_number new)) days ≡ false
    → set (month_of days) (day_number new - 1) (Some new) ≡ month_of (days ++ new ∷ [])
set-month_of days new is free =
    let at = day_number new - 1 in
    let first = is.first in
    let last = is.last in
    let size = length-set (month_of days) at (Some new) ∙ month_size days in
    same_lists _ _ (size ∙ sym (month_size (days ++ new ∷ []))) (λ k d within.
    let inside : k < 31 = omega (arith, size) in
    rw (month_at (days ++ new ∷ []) k d inside, find-has_number days new (suc k) free) (elim (cases_eq (day_number new)
    (suc k)) [
      | inl same ↦ rw (eq-eqb _ _ same) (get_or-set_at (month_of days) at k (Some new) d (omega arith) (omega
          (arith, month_size days)))
      | inr differs ↦ rw (ne_eqb _ _ differs)
          (get_or-set_other (month_of days) at k (Some new) d (λ e. differs (omega arith)) ∙ month_at days k d inside)
    ]))

-- ---- the days of entries

-- one of the items describes the day, and the day has this number
abbrev IsDayOfEntry : List Data → ℕ → Day → Type 0
IsDayOfEntry items number day = (entry : Data) × Contains items entry × (day_for [] entry ≡ Ok day)
    × (day_number day ≡ number)

-- `find` finds the element at `k` if this element passes and no element before it does
first_found : {X : Type 0} (p : X → Bool) (xs : List X) (k : ℕ) (d : X) → k < length xs → p (get_or xs k d) ≡ true
    → list_any p (take k xs) ≡ false → find p xs ≡ Some (get_or xs k d)
first_found p [] k d within here none = absurd (omega arith)
first_found p (x ∷ xs) zero d within here none = rw here refl
first_found p (x ∷ xs) (suc k) d within here none = grind (arith, nat_tests, first_found p xs k d)

-- searching `days` for a number finds the day that an entry of `items` describes
module _ (items : List Data) (days : List Day) (read : read_items day_for items ≡ Ok days) where
  day_at : (k : ℕ) (e : Data) (d : Day) → k < length days
      → (k < length items) × IsDayFor (take k days) (get_or items k e) (get_or days k d)
  day_at k e d within =
      let left : k < length items = omega (arith, length-read_items day_for items days read) in
      (left, IsDayFor-day_for _ _ _ (read_items-get_or day_for items days read k e d left))

  entry_of_day : (number : ℕ) (day : Day) → find (has_number number) days ≡ Some day → IsDayOfEntry items number day
  entry_of_day number day e =
      let there = find-contains (has_number number) days day e in
      let here = day_at there.0 no_item day there.1 in (
        get_or items there.0 no_item,
        Contains-get_or items there.0 no_item here.0,
        rw there.2 at here.1.alone,
        eqb-true (day_number day) number (find-passes (has_number number) days day e),
      )

  day_of_entry : (number : ℕ) (day : Day) → IsDayOfEntry items number day → find (has_number number) days ≡ Some day
  day_of_entry number day told =
      let place = told.1.0 in
      let within : place < length days = omega (arith, length-read_items day_for items days read, told.1.1) in
      let here = (day_at place told.0 day within).1 in
      let same : day ≡ get_or days place day =
      Ok-injective _ _ (sym told.2 ∙ ap (day_for []) (sym told.1.2) ∙ here.alone) in
      first_found (has_number number) days place day within (eq-eqb _ _ (ap day_number (sym same) ∙ told.3))
      (rw (ap day_number (sym same) ∙ told.3) at here.free) ∙ ap Some (sym same)

pub days_are_the_entries : DaysAreTheEntries
days_are_the_entries items days number day read = (
  λ found. entry_of_day items days read number day
      (sym (day_of_month days number (within_month days number day found)) ∙ found),
  λ told. day_of_month days number (subst IsDayNumber told.3 (IsDayFor-day_for [] told.0 day told.2).number)
      ∙ day_of_entry items days read number day told,
)

-- ---- a sheet that is read

-- the sheet has the days read so far; reading all items gives the same as reading the rest after these days
pub record IsMonthOf (items : List Data) (sheet : List (Option Day)) (rest : List Data) : Type 0 where
  pub days : List Day
  pub read : read_items day_for items ≡ read_after day_for days rest
  pub month : sheet ≡ month_of days

pub first_month : (sheet : List (Option Day)) (items : List Data) → sheet ≡ month_of [] → IsMonthOf items sheet items
first_month sheet items e = record { days = []; read = read_after_none day_for items; month = e }

pub next_month : (sheet after : List (Option Day)) (items : List Value) (place : ℕ) (item : Value) (new : Day)
    → place < length items → item ≡ get_or items place item
    → (so_far : IsMonthOf (map view items) sheet (drop place (map view items)))
    → Ok new ≡ day_for so_far.days (view item) → after ≡ set sheet (day_number new - 1) (Some new)
    → IsMonthOf (map view items) after (drop (place + 1) (map view items))
next_month sheet after items place item new left here so_far found put =
    let tells = IsDayFor-day_for so_far.days (view item) new (sym found) in
    record {
      days = so_far.days ++ new ∷ [];
      read = so_far.read ∙ read_after_more day_for items place item left here so_far.days new found;
      month = put ∙ ap (λ month. set month (day_number new - 1) (Some new)) so_far.month
          ∙ set-month_of so_far.days new tells.number tells.free;
    }

-- ---- a machine file describes a machine, and a sheet describes legal days

parts_are_machine : (model : Model) (table : Members) → SucceedsWith (parts_in model table) IsMachine
unfolding parts_in
parts_are_machine M209 table =
    SucceedsWith-bind _ _ _ _ (pin_parts_legal table)
    (λ parts legal. SucceedsWith-Ok IsMachine _ (record { legal = legal; cables = refl }))
parts_are_machine model table =
    SucceedsWith-bind _ _ _ _ (rotor_parts_legal model table)
    (λ parts legal. SucceedsWith-Ok IsMachine _ (ordered_parts parts legal))

pub machine_of-IsMachine : (bytes : List ℕ) → SucceedsWith (machine_of bytes) IsMachine
machine_of-IsMachine bytes =
    after_any (document_of bytes) _ IsMachine (λ table.
    after_any (read_at keys.Version (number_up_to 2) table) _ IsMachine (λ version.
    after_any (model_in table) _ IsMachine (λ model. after_any (demand _ _) _ IsMachine (λ _.
    parts_are_machine model table))))

pub sheet_of-legal : (bytes : List ℕ) (month : List (Option Day)) (number : ℕ) (day : Day) → sheet_of bytes ≡ Ok month
    → day_of month number ≡ Some day → IsLegalDay day
sheet_of-legal bytes month number day e found =
    let table = bind-Ok (document_of bytes) sheet_in month e in
    let days = bind-Ok (read_at keys.Day as_items table.0 >>= read_items day_for) _ month table.2 in
    let items = bind-Ok (read_at keys.Day as_items table.0) (read_items day_for) days.0 days.1 in
    let same : month_of days.0 ≡ month = Ok-injective _ _ days.2 in
    let entry = (days_are_the_entries items.0 days.0 number day items.2).0 (rw same found) in
    (IsDayFor-day_for [] entry.0 day entry.2).legal
