-- Lemmas on reading a document, and on reading items one after another: which tests a step that succeeds has passed,
-- and what holds of the step's value.
pub use Rattle.kd_sheet.specs.Document.{demand, as_items, from_text, items_list, read_array, read_at, read_items}
pub use Rattle.kd_sheet.specs.Document.{result_map}
pub use Rattle.kd_sheet.specs.MachineText.{cable_text, key_line, array_text, pin_texts, pins_text, quoted_text}
pub use Rattle.kd_sheet.specs.MachineText.{slot_text}
pub use Rattle.kd_state.proofs.Slots.{all_pins, are_on_wheels as on_all_wheels, has_letter-Decides, numbered_here}
pub use Rattle.kd_state.specs.Machine.{AreLegalSeats, AreCables, AreLetters, AreOnWheels, HasAllPins}
pub use Rattle.kd_state.specs.Machine.{AreLegalPinParts}
pub use Rattle.kd_state.specs.SheetDay.{ArePairs, Day, HasWheelLetters, IsDayNumber, IsLegalDay}
pub use Rattle.kd_state.specs.SheetDay.{IsLegalPinDay}
pub use Rattle.kd_tables.specs.Tables.{all_models, box_of, letters_of, model_text, reflector_text, reflectors_of}
pub use Rattle.std.proofs.Common.{All, Bool, Bor, Contains, Decides, Err, Global, IfSome, IsSome, IsUtf8, List}
pub use Rattle.std.proofs.Common.{MatchOption, None, Ok, Option, Result, Some, Vec, [], ap, append_assoc, arith}
pub use Rattle.std.proofs.Common.{bytes_eq, codes, cond, drop, false, filter_map, find, get_or, inl, inr, is_some}
pub use Rattle.std.proofs.Common.{length, length-set, map, nat_eq, nat_le, nat_lt, not, ok_or, option_map, pos, refl}
pub use Rattle.std.proofs.Common.{replicate, rules, set, slice_get, slice_index, subst, suc, sym, take, true, zero, ℕ}
pub use Rattle.std.proofs.lemmas.Bool.{cases_Bool, cases_eq, cases_lt, eq-eqb, eqb-true, false≢true, le-leb, leb-true}
pub use Rattle.std.proofs.lemmas.List.{append-nil, drop_all, drop_more, get_or-map, get_or-set_other, length-map}
pub use Rattle.std.proofs.lemmas.List.Elements.{All-append, All-contains, All-from_recursion, All-map, All-nil}
pub use Rattle.std.proofs.lemmas.List.FromFn.{get_or-enumerate_from, get_or-map-range_with_len, length-enumerate_from}
pub use Rattle.std.proofs.lemmas.Option.{get_or_from_slice_get, gets, none-some, same_Some, slice_get-get_or}
pub use Rattle.toml.specs.Data.{Data, Members, array, as_array, as_table, depth, get_member, has_valid_dates, integer}
pub use Rattle.{kd_pins.specs.declared.pin_set.PinSet.PinSet, kd_tables.specs.Tables.{slots_of, wheel_text, wheels_for}}
pub use Rattle.kd_sheet.specs.{Bars.or_bad_row, Letters.capital_letters}
pub use Rattle.kd_sheet.specs.{SheetFile.{rings_of, sheet_wheels}}
pub use Rattle.kd_sheet.specs.{Document.{value_at, ◌>>=◌, ◌>>◌}, Sheet.{IsMonth, day_of, month_of}}
pub use Rattle.kd_sheet.specs.{Key.key_name}
pub use Rattle.kd_sheet.specs.{PinWheels.{pins_for}}
pub use Rattle.kd_sheet.specs.{Laws.{DaysAreTheEntries, LegalPartsAreReadBack}}
pub use Rattle.{kd_sheet.specs.{Numbers.{number_up_to}}, kd_state.specs.SameParts.same_wheel}
pub use Rattle.kd_sheet.specs.{MachineText.file_version, declared.key.Key.Key}
pub use Rattle.kd_sheet.specs.declared.fault.SheetFault.{TheVariants.{BadValue, NotToml, UnknownModel}, SheetFault}
pub use Rattle.kd_state.proofs.{FirstFault.demand-Ok, Slots.numbered_other}
pub use Rattle.kd_tables.proofs.DistinctLetters.{eqb_flips, new_tells, IsDistinct-nil}
pub use Rattle.kd_state.proofs.Wheels.{has_reflector-Decides, has_wheel-Decides, same_wheel-Decides}
pub use Rattle.kd_state.specs.Machine.{AreLegalRotorParts, IsSeatedAt, cable_letters, with_cables_in_order, cable_in_order}
pub use Rattle.kd_state.specs.Machine.{letters_in_cables}
pub use Rattle.kd_tables.specs.Pairs.{are_new_and_distinct, has_letter}
pub use Rattle.kd_state.specs.{declared.sheet_day.rotor_entry.SheetWheel.SheetWheel}
pub use Rattle.kd_state.specs.SheetDay.{IsLegalRotorDay, Pin, Rotor, PinDay, RotorDay, day_number}
pub use Rattle.kd_state.specs.SheetDay.{seats_of_wheels}
pub use Rattle.{kd_state.specs.SameParts.same_reflector, std.proofs.Math.Bool.{and-false, or-true}}
pub use Rattle.kd_state.specs.declared.machine.parts.Parts.{TheVariants.{Pin, Rotor}, Parts}
pub use Rattle.kd_state.specs.declared.machine.{pin_parts.PinParts.PinParts, rotor_parts.RotorParts.RotorParts}
pub use Rattle.kd_tables.specs.Places.{IsBefore, IsReading, digit_text, place_rank, reading_text, standing_text}
pub use Rattle.kd_tables.specs.Places.{standings}
pub use Rattle.kd_tables.specs.{Text.{is_capital, letters_text}, declared.{place.Place.Place, wheel.Wheel.Wheel}}
pub use Rattle.kd_tables.specs.declared.{model.Model.{TheVariants.M209, Model}, reflector.Reflector.Reflector}
pub use Rattle.std.proofs.Common.{◌&&◌, ◌++◌, ◌+◌, ◌-◌, ◌<◌, ◌==◌, ◌||◌, ◌↔◌, ◌∙◌, ◌∷◌, ◌≡◌, ◌≢◌, ◌≤◌}
pub use Rattle.std.proofs.lemmas.Bool.{Decides.{Decides-by_or, Decides-like, nat_tests}, ltb-true, ne_eqb, not-true}
pub use Rattle.std.proofs.lemmas.{Grind.{common_steps, get_or-set_at}, Option.{slice_get_cases, slice_get_within}}
pub use Rattle.std.proofs.lemmas.List.{FromFn.length-map-range_with_len, length-take-le, same_lists, take-append-drop}
pub use Rattle.std.proofs.lemmas.{List.Concat.flat_map-append, Map.Keys.IsDistinct-IsPermutation}
pub use Rattle.std.proofs.lemmas.List.Elements.{All-weaker, Contains-get_or, Decides-contains, recursion_from_All}
pub use Rattle.std.proofs.lemmas.List.{Folds.{find-append, list_all-append}, Sorted.IsPermutation-append_comm}
pub use Rattle.std.proofs.lemmas.List.Sums.{AllPass-from_list_all, list_all-from_AllPass}
pub use Rattle.std.proofs.lemmas.{Slice.Eq.bytes_eq-Decides, Str.Ascii.IsAscii-from_all}
pub use Rattle.std.proofs.lemmas.Str.{IsUtf8-from_ascii, IsUtf8-from_is_utf8, is_utf8-from_IsUtf8}
pub use Rattle.std.specs.{Array.AllOfLen, Option.{option_and_then, option_map_or}}
pub use Rattle.std.specs.List.{AllByRecursion, concat, enumerate_from, flat_map, list_all, list_any}
pub use Rattle.toml.proofs.ReadLines.{AllPrinted, read_lines, run}
pub use Rattle.toml.specs.Data.{items_depth, items_have_valid_dates, member, no_members, string}
pub use Rattle.toml.specs.{Tables.{Expression, close, key_value, no_nodes}, declared.value.Value.{Value, the_lemmas}}
pub use Rattle.toml.specs.{Text.{IsItemsText, IsLinesText, IsValueText}, View.{array_view, items_of, table_view, view}}
unfoldable pub use Rattle.kd_sheet.specs.MachineFile.{model_in, parts_in, pin_parts_in}
unfoldable pub use Rattle.kd_sheet.specs.SheetFile.{day_for, group_for, groups_in, day_in}
unfoldable pub use Rattle.kd_sheet.specs.SheetFile.{pin_day_in, rotor_day_in}
unfoldable pub use Rattle.toml_writer.specs.Text.{encoding_of, escaped, key_text, needs_escape, quotes_after}
unfoldable pub use Rattle.kd_sheet.specs.{Bars.{bars_in, reading_of_text, rows_in}, MachineText.machine_text}
unfoldable pub use Rattle.kd_sheet.specs.Cables.{cable_for, cables_in, pair_for, pairs_in}
unfoldable pub use Rattle.kd_sheet.specs.{Document.document_of, MachineFile.{reflector_in, rotor_parts_in}}
unfoldable pub use Rattle.{kd_sheet.specs.Letters.letters_at, toml_writer.specs.Text.string_text}
unfoldable pub use Rattle.kd_sheet.specs.Names.{find_by_text}
unfoldable pub use Rattle.kd_sheet.specs.PinWheels.{pins_in, pins_of_text, shown_letters_in}
unfoldable pub use Rattle.kd_sheet.specs.Slots.{slot_for, slots_in, wheel_for}
unfoldable pub use Rattle.{kd_tables.specs.Rings.ring_of, toml.specs.Tables.{along_dots, along_header, at_key, define}}
unfoldable pub use Rattle.{std.specs.{Fmt.digits, List.IsDistinct}, toml.specs.Parse.{parse_document, skip_bom}}
pub use Rattle.kd_sheet.specs.declared.key.Key.TheVariants as keys

-- ---- a document

-- if `bytes` are UTF-8, and the parser reads them as `table`, `document_of` gives `table`
pub document_parsed : (bytes : List ℕ) (table : Members) → IsUtf8 bytes → parse_document bytes ≡ Some table
    → document_of bytes ≡ Ok table
unfolding document_of
document_parsed bytes table text parsed = rw (is_utf8-from_IsUtf8 bytes text, parsed)

-- for bytes that aren't UTF-8, or that the parser refuses, `document_of` gives `NotToml`
pub document_refused : (bytes : List ℕ) → (IsUtf8 bytes → parse_document bytes ≡ None) → document_of bytes ≡ Err NotToml
unfolding document_of
document_refused bytes refused = grind (arith, cases_Bool, bytes, refused, IsUtf8-from_is_utf8)

-- the items of a list's array are the list
pub list_of-items_of : (items : List Data) → items_list (items_of items) ≡ items
list_of-items_of [] = refl
list_of-items_of (first ∷ rest) = ap (λ more. first ∷ more) (list_of-items_of rest)

-- the library's call for an array gives the items
pub items_found : (key : Key) (value : Data) (found : Option (Bor (Vec Value Global)))
    → option_map (λ v. array_view v.now) found ≡ as_array value
    → result_map (λ items. map view items.now.items) (ok_or found (BadValue key))
    ≡ ok_or (as_items value) (BadValue key)
items_found key value found e = grind (arith, option_map, list_of-items_of)

-- ---- steps

abbrev read_ok : {A : Type 0} → A → Result A SheetFault
read_ok x = Ok x

pub Ok-injective : {A : Type 0} (x y : A) → read_ok x ≡ read_ok y → x ≡ y
Ok-injective x y e = cc

-- if two steps in a row succeed, the first gave a value and the second succeeded on it
pub bind-Ok : {A B : Type 0} (first : Result A SheetFault) (next : A → Result B SheetFault) (value : B)
    → (first >>= next) ≡ Ok value → (x : A) × (first ≡ Ok x) × (next x ≡ Ok value)
bind-Ok first next value e = grind arith

-- if the step succeeds, its value satisfies `P`
abbrev pub SucceedsWith : {A : Type 0} → Result A SheetFault → (A → Type 0) → Type 0
SucceedsWith answer P = (x : _) → answer ≡ Ok x → P x

pub SucceedsWith-Ok : {A : Type 0} (P : A → Type 0) (x : A) → P x → SucceedsWith (Ok x) P
SucceedsWith-Ok P x holds y e = subst P (Ok-injective x y e) holds

-- `Q` holds of what two steps in a row give, if `P` holds of the first value and the second step turns
-- `P` into `Q`
pub SucceedsWith-bind : {A B : Type 0} (first : Result A SheetFault) (next : A → Result B SheetFault) (P : A → Type 0)
    (Q : B → Type 0) → SucceedsWith first P → ((x : A) → P x → SucceedsWith (next x) Q)
    → SucceedsWith (first >>= next) Q
SucceedsWith-bind first next P Q here rest y e =
    let before = bind-Ok first next y e in rest before.0 (here before.0 before.1) y before.2

pub after_any : {A B : Type 0} (first : Result A SheetFault) (next : A → Result B SheetFault) (Q : B → Type 0)
    → ((x : A) → SucceedsWith (next x) Q) → SucceedsWith (first >>= next) Q
after_any first next Q rest y e = let before = bind-Ok first next y e in rest before.0 y before.2

-- `P` holds of what is read at an optional key, if it holds of each value read and of the default
pub if_present : {A : Type 0} (there : Option Data) (parse : Data → Result A SheetFault) (none : A) (P : A → Type 0)
    → ((value : Data) → SucceedsWith (parse value) P) → P none
    → SucceedsWith (option_map_or parse there (Ok none)) P
if_present None parse none P each holds = SucceedsWith-Ok P none holds
if_present (Some value) parse none P each holds = each value

-- if `ok_or` has the value `value` for an optional thing, the thing is there, and is `value`
pub ok_or-Ok : {A : Type 0} (thing : Option A) (fault : SheetFault) (value : A) → ok_or thing fault ≡ Ok value
    → thing ≡ Some value
ok_or-Ok thing fault value e = grind (arith, Ok-injective)

pub cond-Some : {A : Type 0} (test : Bool) (x value : A) → cond test (Some x) None ≡ Some value
    → (test ≡ true) × (x ≡ value)
cond-Some test x value e = grind (arith, same_Some, none-some)

-- two steps in a row give what the second gives, if the first succeeds
pub bind-step : {A B : Type 0} (first : Result A SheetFault) (next : A
    → Result B SheetFault) (x : A) (result : Result B SheetFault) → first ≡ Ok x
    → next x ≡ result → (first >>= next) ≡ result
bind-step first next x result is rest = ap (λ answer. answer >>= next) is ∙ rest

pub demand-passes : {B : Type 0} (test : Bool) (fault : SheetFault) (next result : Result B SheetFault) → test ≡ true
    → next ≡ result → (demand test fault >> next) ≡ result
demand-passes test fault next result e d = grind arith

-- ---- an array

-- The array at a key, which the code reads in three steps: the array's `items`, their number, and each item.
module _ {A : Type 0} (key : Key) (fits : ℕ → Bool) (parse : List A → Data → Result A SheetFault)
    (value : Result Data SheetFault) where
  abbrev items_at : Result (List Data) SheetFault
  items_at = value >>= (λ array. ok_or (as_items array) (BadValue key))

  abbrev array_at : Result (List A) SheetFault
  array_at = value >>= read_array key fits parse

  pub array-no_items : (fault : SheetFault) → Err fault ≡ items_at → array_at ≡ Err fault
  array-no_items fault none = grind arith

  module _ (items : List Data) (found : Ok items ≡ items_at) where
    pub array-unfit : fits (length items) ≡ false → array_at ≡ Err (BadValue key)
    array-unfit unfit = grind arith

    pub array-fits : fits (length items) ≡ true → array_at ≡ read_items parse items
    array-fits fit = grind arith

-- ---- items, one after another

-- a value in place of an item past the end
abbrev pub no_item : Data
no_item = string []

module _ {A : Type 0} where
  -- the result of reading `items` after the items with the values `values`
  abbrev pub read_after : (List A → Data → Result A SheetFault) → List A → List Data → Result (List A) SheetFault
  read_after parse values items = read_items (λ more. parse (values ++ more)) items >>= (λ more. Ok (values ++ more))

  pub read_after_none : (parse : List A → Data → Result A SheetFault) (items : List Data)
      → read_items parse items ≡ read_after parse [] items
  read_after_none parse items = grind arith

  pub read_after_all : (parse : List A → Data → Result A SheetFault) (values : List A) (items : List Data) (place : ℕ)
      → length items ≤ place → read_after parse values (drop place items) ≡ Ok values
  read_after_all parse values items place past = rw drop_all (ap Ok (append-nil values))

  module _ (parse : List A → Data → Result A SheetFault) (items : List Value) (place : ℕ) (item : Value)
      (left : place < length items) (here : item ≡ get_or items place item) (values : List A) where
    drop_next : drop place (map view items) ≡ view item ∷ drop (place + 1) (map view items)
    drop_next =
        let viewed = get_or-map view items place item (view item) left ∙ ap view (sym here) in
        rw (drop_more (map view items) place (view item) (omega (arith, length-map items view)), viewed) refl

    -- an item that can be read adds its value to the values
    pub read_after_more : (value : A) → Ok value ≡ parse values (view item)
        → read_after parse values (drop place (map view items))
        ≡ read_after parse (values ++ value ∷ []) (drop (place + 1) (map view items))
    read_after_more value is = rw (drop_next, append-nil, ← is) (simp append_assoc (grind arith))

    -- an item that can't be read makes its fault the result
    pub read_after_fault : (fault : SheetFault) → Err fault ≡ parse values (view item)
        → read_after parse values (drop place (map view items)) ≡ Err fault
    read_after_fault fault is = rw (drop_next, append-nil, ← is) refl

  -- there are as many values as items
  pub length-read_items : (parse : List A → Data → Result A SheetFault) (items : List Data)
      → SucceedsWith (read_items parse items) (λ values. length values ≡ length items)
  length-read_items parse [] values e = ap length (sym (Ok-injective _ _ e))
  length-read_items parse (item ∷ items) values e =
      let first = bind-Ok (parse [] item) _ values e in
      let more = bind-Ok (read_items (λ earlier. parse (first.0 ∷ earlier)) items) _ values first.2 in
      ap length (sym (Ok-injective _ _ more.2))
      ∙ ap suc (length-read_items (λ earlier. parse (first.0 ∷ earlier)) items more.0 more.1)

  pub read_items-get_or : (parse : List A → Data → Result A SheetFault) (items : List Data) (values : List A)
      → read_items parse items ≡ Ok values → (k : ℕ) (d : Data) (e : A) → k < length items
      → parse (take k values) (get_or items k d) ≡ Ok (get_or values k e)
  read_items-get_or parse [] values is k d e within = absurd (omega arith)
  read_items-get_or parse (item ∷ items) values is zero d e within = grind (arith, bind-Ok)
  read_items-get_or parse (item ∷ items) values is (suc k) d e within =
      let first = bind-Ok (parse [] item) _ values is in
      let more = bind-Ok (read_items (λ earlier. parse (first.0 ∷ earlier)) items) _ values first.2 in
      subst (λ vs. parse (take (suc k) vs) (get_or items k d) ≡ Ok (get_or vs (suc k) e)) (Ok-injective _ _ more.2)
      (read_items-get_or (λ earlier. parse (first.0 ∷ earlier)) items more.0 more.1 k d e (omega arith))

  -- each value satisfies `P`, if every value that `parse` can give does
  pub All-read_items : (parse : List A → Data → Result A SheetFault) (P : A → Type 0)
      → ((earlier : List A) (item : Data) (x : A) → parse earlier item ≡ Ok x → P x)
      → (items : List Data) → SucceedsWith (read_items parse items) (All P)
  All-read_items parse P has items values e k d within =
      grind (arith, length-read_items, read_items-get_or parse items values e k no_item d, has)

  -- `Holds` holds of the list of all values, if it holds of the empty list and stays true with each further value
  pub read_items-keeps : (parse : List A → Data → Result A SheetFault) (Holds : List A → Type 0) → Holds []
      → ((done : List A) (item : Data) (value : A) → Holds done → parse done item ≡ Ok value
      → Holds (done ++ value ∷ []))
      → (items : List Data) → SucceedsWith (read_items parse items) Holds
  read_items-keeps parse Holds start more [] = SucceedsWith-Ok Holds [] start
  read_items-keeps parse Holds start more (item ∷ items) =
      SucceedsWith-bind (parse [] item) _ _ _ (λ value. more [] item value start) (λ value so_far.
      SucceedsWith-bind (read_items (λ read. parse (value ∷ read)) items) _ _ _
      (read_items-keeps (λ xs. parse (value ∷ xs)) (λ ys. Holds (value ∷ ys)) so_far (λ xs. more (value ∷ xs)) items)
      (λ values all. SucceedsWith-Ok Holds (value ∷ values) all))

  -- if `Holds` holds of the values of all items that can be read, it holds of the result of `read_array`
  module _ (parse : List A → Data → Result A SheetFault) (Holds : List A → Type 0)
      (all : (items : List Data) → SucceedsWith (read_items parse items) Holds) (key : Key) (count : ℕ) where
    pub read_array-exactly : (table : Members)
        → SucceedsWith (value_at key table >>= read_array key (nat_eq count) parse)
        (λ values. (length values ≡ count) × Holds values)
    read_array-exactly table values e = grind (arith, bind-Ok, demand-Ok, eqb-true, length-read_items, all)

    pub read_array-up_to : (value : Data)
        → SucceedsWith (read_array key (λ n. nat_le n count) parse value)
        (λ values. (length values ≤ count) × Holds values)
    read_array-up_to value values e = grind (arith, bind-Ok, demand-Ok, leb-true, length-read_items, all)

  -- a list of things is read back from their texts if each thing is
  pub read_items-texts : (parse : List A → Data → Result A SheetFault) (text_of : A → List ℕ) (all : List A)
      → ((k : ℕ) (x : A) → slice_get all k ≡ Some x → parse (take k all) (string (text_of x)) ≡ Ok x)
      → read_items parse (map string (map text_of all)) ≡ Ok all
  read_items-texts parse text_of [] each = refl
  read_items-texts parse text_of (x ∷ all) each =
      rw (each 0 x refl, read_items-texts (λ read. parse (x ∷ read)) text_of all (λ k. each (suc k))) refl

-- if all elements of a list satisfy `P`, the element at place `k` does
pub All-slice_get : {X : Type 0} (P : X → Type 0) (xs : List X) (k : ℕ) (x : X) → All P xs → slice_get xs k ≡ Some x
    → P x
All-slice_get P xs k x all at = grind (arith, common_steps, gets, slice_get_within)
