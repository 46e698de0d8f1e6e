-- Reading back what was written: the parts of a machine or a day, and a machine's file line by line. And each
-- legal day is described by some table.
pub mod Described
unfoldable pub use Described.*
use Rattle.kd_sheet.specs.MachineFile.{machine_of}
use Rattle.toml.specs.Data as toml

-- ---- arrays of texts

-- an array of these texts
abbrev pub array_of_texts : List (List ℕ) → Data
array_of_texts ts = array (items_of (map string ts))

pub texts_read : (ts : List (List ℕ)) → as_items (array_of_texts ts) ≡ Some (map string ts)
texts_read ts = ap Some (list_of-items_of (map string ts))

-- an array of the texts of `things` is read back as `things` if each text is read back as its thing
module _ {X : Type 0} (key : Key) (fits : ℕ → Bool) (text_of : X → List ℕ) (things : List X)
    (parse : List X → Data → Result X SheetFault)
    (each : (k : ℕ) (x : X) → slice_get things k ≡ Some x → parse (take k things) (string (text_of x)) ≡ Ok x) where
  pub read_array-texts : fits (length things) ≡ true
      → read_array key fits parse (array_of_texts (map text_of things)) ≡ Ok things
  read_array-texts passes =
      let read = read_items-texts parse text_of things each in
      let items = map string (map text_of things) in
      let count : length items ≡ length things = grind (arith, length-map) in
      rw (list_of-items_of items, count, passes) read

-- ---- letters

letters_spelled : (letters : List ℕ) → AllByRecursion (λ letter. letter < 26) letters
    → (list_all is_capital (letters_text letters) ≡ true) × (letters_of (letters_text letters) ≡ letters)
letters_spelled [] within = (refl, refl)
letters_spelled (letter ∷ letters) within = grind (arith, letters_spelled letters within.1, le-leb)

pub capitals_again : (count : ℕ) (letters : List ℕ) → AreLetters count letters
    → capital_letters (nat_eq count) (letters_text letters) ≡ Some letters
capitals_again count letters are = grind (arith, common_steps, letters_spelled, recursion_from_All, eq-eqb)

pub window_again : (key : Key) (table : Members) (window : List ℕ)
    → value_at key table ≡ Ok (string (letters_text window)) → AreOnWheels window
    → shown_letters_in key table ≡ Ok window
unfolding shown_letters_in letters_at
window_again key table window there are =
    let spelled = capitals_again 6 window (record { count = are.count; within = letters_below window are }) in
    rw (there, spelled, are_on_wheels-true window are) refl

-- ---- reflector and wheels

pub reflector_again : (model : Model) (reflector : Reflector)
    → list_any (same_reflector reflector) (reflectors_of model) ≡ true
    → find_by_text reflector_text (reflectors_of model) (reflector_text reflector) ≡ Some reflector
unfolding find_by_text
reflector_again model reflector e = grind arith

-- an array at `key` can have an item for this slot: any key allows a wheel, only the key `slots` an empty slot
abbrev pub MayBeSeated : Key → Option Wheel → Type 0
MayBeSeated key None = key ≡ keys.Slots
MayBeSeated key (Some wheel) = Unit {0}

slot_named : (key : Key) (model : Model) (slots : List (Option Wheel)) (wheel : Wheel)
    → slot_for key model slots (string (wheel_text wheel))
    ≡ (wheel_for key model slots (string (wheel_text wheel)) >>= (λ wheel. Ok (Some wheel)))
unfolding slot_for
slot_named key model slots wheel = grind arith

slot_again : (key : Key) (model : Model) (slots : List (Option Wheel)) (slot : Option Wheel) → MayBeSeated key slot
    → AreLegalSeats model slots → (k : ℕ) → slice_get slots k ≡ Some slot
    → slot_for key model (take k slots) (string (slot_text slot)) ≡ Ok slot
unfolding slot_for wheel_for
slot_again key model slots None may seated k at = rw may refl
slot_again key model slots (Some wheel) may seated k at =
    let within = slice_get_within slots k (Some wheel) at in
    let before : length (take k slots) ≡ k = length-take-le k slots (omega arith) in
    let among_them = (has_wheel-Decides (wheels_for model (length (take k slots) + 1)) wheel).1 (rw before
    (seated.allowed k wheel at)) in
    let free = not_seated (take k slots) wheel (λ among.
    let stands : slice_get slots among.0 ≡ Some (Some wheel) = grind (arith, common_steps, gets) in
    omega (arith, seated.apart among.0 k wheel stands at, among.1)) in
    rw (slot_named key model (take k slots) wheel, wheel_found wheel, among_them, free) refl

pub slots_in_again : (key : Key) (model : Model) (table : Members) (slots : List (Option Wheel))
    → value_at key table ≡ Ok (array_of_texts (map slot_text slots)) → All (MayBeSeated key) slots
    → AreLegalSeats model slots
    → slots_in key model table ≡ Ok slots
unfolding slots_in
slots_in_again key model table slots there may seated =
    rw there (read_array-texts key (nat_eq (slots_of model)) slot_text slots (slot_for key model) (λ k slot at.
    slot_again key model slots slot (All-slice_get (MayBeSeated key) slots k slot may at) seated k at)
    (eq-eqb _ _ (sym seated.count)))

-- ---- cables and pairs

-- the cable as it is read back: if it has a single letter, this letter is at its first end
abbrev pub single_first : Option ℕ × Option ℕ → Option ℕ × Option ℕ
single_first cable = let letters = cable_letters cable in (slice_get letters 0, slice_get letters 1)

-- bringing single letters to first ends changes neither the letters in the cables nor their texts
pub same_cables : (cables : List (Option ℕ × Option ℕ))
    → (letters_in_cables (map single_first cables) ≡ letters_in_cables cables)
    × (map cable_text (map single_first cables) ≡ map cable_text cables)
same_cables [] = (refl, refl)
same_cables (cable ∷ cables) = grind (arith, same_cables cables)

abbrev HasSingleFirst : Option ℕ × Option ℕ → Type 0
HasSingleFirst cable = single_first cable ≡ cable

pub cables_again : (cables : List (Option ℕ × Option ℕ)) → AreCables cables
    → read_array keys.Cables (λ n. nat_le n 13) cable_for (array_of_texts (map cable_text cables))
    ≡ Ok (map single_first cables)
unfolding cable_for
cables_again cables are =
    let read = map single_first cables in
    let same = (same_cables cables).0 in
    let free : AreFree cable_letters read = record { within = rw same are.within; apart = rw same are.apart } in
    let all : All HasSingleFirst read = All-map HasSingleFirst single_first cables (λ k d within. grind arith) in
    ap (λ ts. read_array keys.Cables (λ n. nat_le n 13) cable_for (array_of_texts ts)) (sym (same_cables cables).1)
    ∙ read_array-texts keys.Cables (λ n. nat_le n 13) cable_text read cable_for (λ k cable at.
    let is = All-slice_get HasSingleFirst read k cable all at in
    let new = IsFree-at cable_letters read k cable free at in
    grind (arith, letters_spelled, recursion_from_All, new))
    (le-leb _ _ (omega (arith, are.count, length-map cables single_first)))

-- ---- pins and bars

pub pins_in_again : (table : Members) (pins : PinSet)
    → value_at keys.Pins table ≡ Ok (array_of_texts (pin_texts pins)) → HasAllPins pins → pins_in table ≡ Ok pins
unfolding pins_in
pins_in_again table pins there fit = grind (arith, pins_of_text-pins_text, fit, bind-step, texts_read)

-- ---- wheels

wheels_again : (wheels : List SheetWheel)
    → sheet_wheels (seats_of_wheels wheels) (map (λ w. w.ring) wheels) (map (λ w. w.letter) wheels) ≡ wheels
wheels_again [] = refl
wheels_again (w ∷ wheels) = ap (λ rest. w ∷ rest) (wheels_again wheels)

-- ---- the tables

abbrev pub rotor_day_table : RotorDay → Members
rotor_day_table s =
    member (key_name keys.Day) (integer (pos s.day))
    (member (key_name keys.Groups) (array_of_texts (map letters_text s.groups))
    (member (key_name keys.Model) (string (model_text s.model))
    (member (key_name keys.Plugs) (array_of_texts (map (λ pair. letters_text (pair_letters pair)) s.pairs))
    (member (key_name keys.Reflector) (string (reflector_text s.reflector))
    (member (key_name keys.Rings) (string (letters_text (map (λ w. w.ring) s.wheels)))
    (member (key_name keys.Wheels) (array_of_texts (map slot_text (seats_of_wheels s.wheels)))
    (member (key_name keys.Window) (string (letters_text (map (λ w. w.letter) s.wheels))) no_members)))))))

abbrev pub pin_day_table : PinDay → Members
pin_day_table s =
    member (key_name keys.Day) (integer (pos s.day)) (member (key_name keys.List) (string (letters_text s.list))
    (member (key_name keys.Model) (string (model_text M209))
    (member (key_name keys.Pins) (array_of_texts (pin_texts s.pins))
    (member (key_name keys.Rows) (array_of_texts (map reading_text s.rows))
    (member (key_name keys.Window) (string (letters_text s.window)) no_members)))))

pub day_by_model : (number : ℕ) (model : Model) (reflector : Reflector) (table : Members) (day : Day)
    → list_any (same_reflector reflector) (reflectors_of model) ≡ true
    → rotor_day_in number model table ≡ Ok day → day_in number model table ≡ Ok day
unfolding day_in
day_by_model number model reflector table day e d = grind arith

pairs_in_again : (s : RotorDay) → IsLegalRotorDay s → pairs_in (rotor_day_table s) ≡ Ok s.pairs
unfolding pairs_in pair_for
pairs_in_again s legal =
    let free : AreFree pair_letters s.pairs = record { within = legal.pairs.within; apart = legal.pairs.apart } in
    read_array-texts keys.Plugs (λ n. nat_le n 13) (λ pair. letters_text (pair_letters pair)) s.pairs pair_for
    (λ k pair at. let new = IsFree-at pair_letters s.pairs k pair free at in
    grind (arith, letters_spelled, recursion_from_All, new)) (le-leb _ _ legal.pairs.few)

groups_in_again : (s : RotorDay) → IsLegalRotorDay s → groups_in (rotor_day_table s) ≡ Ok s.groups
unfolding groups_in group_for
groups_in_again s legal =
    read_array-texts keys.Groups (λ n. nat_le n 4) letters_text s.groups group_for (λ k group at.
    rw (capitals_again 3 group (All-slice_get (AreLetters 3) s.groups k group legal.groups at)) refl)
    (le-leb _ _ legal.few_groups)

-- the rings, or the window letters, of a legal day's wheels are letters of the alphabet, one for each slot
parts_are : (s : RotorDay) → IsLegalRotorDay s → (part : SheetWheel → ℕ)
    → ((w : SheetWheel) → HasWheelLetters w → part w < 26) → AreLetters (slots_of s.model) (map part s.wheels)
parts_are s legal part low = record {
  count = length-map s.wheels _ ∙ sym (length-map s.wheels _) ∙ legal.wheels.count;
  within = All-map (λ letter. letter < 26) _ s.wheels (All-weaker HasWheelLetters _ low s.wheels legal.letters);
}

pub rotor_again : (s : RotorDay) → IsLegalRotorDay s → rotor_day_in s.day s.model (rotor_day_table s) ≡ Ok (Rotor s)
unfolding rotor_day_in reflector_in letters_at
rotor_again s legal =
    let has = (has_reflector-Decides (reflectors_of s.model) s.reflector).1 legal.reflector in
    let wheels = slots_in_again keys.Wheels s.model (rotor_day_table s) (seats_of_wheels s.wheels) refl
    (All-map (MayBeSeated keys.Wheels) _ s.wheels (λ k d within. tt)) legal.wheels in
    let rings = capitals_again _ _ (parts_are s legal (λ w. w.ring) (λ w has. has.ring)) in
    let letters = capitals_again _ _ (parts_are s legal (λ w. w.letter) (λ w has. has.letter)) in
    grind (arith, bind-step, reflector_again, pairs_in_again, groups_in_again, wheels_again)

rows_in_again : (s : PinDay) → IsLegalPinDay s → rows_in (pin_day_table s) ≡ Ok s.rows
unfolding rows_in reading_of_text
rows_in_again s legal =
    read_array-texts keys.Rows (nat_eq 27) reading_text s.rows (or_bad_row reading_of_text) (λ k row at.
    let is = All-slice_get IsReading s.rows k row legal.rows at in
    grind (arith, le-leb, cases_eq, eq-eqb, is.equal, or-true, ne_eqb)) (eq-eqb _ _ (sym legal.count))

pub pin_again : (s : PinDay) → IsLegalPinDay s → pin_day_in s.day (pin_day_table s) ≡ Ok (Pin s)
unfolding pin_day_in letters_at
pin_again s legal = grind (arith, bind-step, rows_in_again, pins_in_again, window_again, capitals_again)

pub legal_is_described : (day : Day) → IsLegalDay day → (item : Data) × (day_for [] item ≡ Ok day)
unfolding model_in day_in
legal_is_described (Rotor s) legal =
    let has = (has_reflector-Decides (reflectors_of s.model) s.reflector).1 legal.reflector in (
      toml.table (rotor_day_table s),
      day_again s.day s.model (rotor_day_table s) (toml.table (rotor_day_table s)) (Rotor s) refl
          (grind (arith, le-leb, legal.day)) (rw (model_found s.model) refl)
          (day_by_model s.day s.model s.reflector (rotor_day_table s) (Rotor s) has (rotor_again s legal)),
    )
legal_is_described (Pin s) legal =
    let model = ap (λ found. ok_or found UnknownModel) (model_found M209) in (
      toml.table (pin_day_table s),
      day_again s.day M209 (pin_day_table s) (toml.table (pin_day_table s)) (Pin s) refl
          (grind (arith, le-leb, legal.day)) model (pin_again s legal),
    )

-- ---- texts in double quotes

-- a printable ASCII byte that a quoted text holds without an escape
abbrev pub is_plain : ℕ → Bool
is_plain byte = (nat_le 32 byte && nat_le byte 126) && not (byte == 34 || byte == 92)

abbrev pub IsPlain : List ℕ → Type 0
IsPlain text = list_all is_plain text ≡ true

none_of : (test : ℕ → Bool) → ((byte : ℕ) → is_plain byte ≡ true → test byte ≡ false) → (text : List ℕ) → IsPlain text
    → list_any test text ≡ false
none_of test none [] plain = refl
none_of test none (byte ∷ text) plain = grind (arith, nat_tests, none, none_of test none text)

is_other : (byte other : ℕ) → is_plain byte ≡ true → is_plain other ≡ false → (byte == other) ≡ false
is_other byte other plain none = grind (arith, ne_eqb)

escaped_plain : (text : List ℕ) → IsPlain text → escaped false 0 text ≡ text
unfolding escaped quotes_after needs_escape
escaped_plain [] plain = refl
escaped_plain (byte ∷ text) plain = grind (arith, nat_tests, is_other, escaped_plain text)

quoted_is : (text : List ℕ) → IsPlain text → quoted_text text ≡ string_text text
unfolding string_text encoding_of
quoted_is text plain = grind (arith, nat_tests, none_of, is_other, escaped_plain)

-- ---- the lines

-- an ASCII byte
abbrev pub is_low : ℕ → Bool
is_low byte = nat_lt byte 128

plain_low : (text : List ℕ) → IsPlain text → list_all is_low text ≡ true
plain_low [] plain = refl
plain_low (byte ∷ text) plain = grind (arith, nat_tests, plain_low text)

-- a line of a file: the key, its value, and the text of the value
abbrev pub FileEntry : Type 0
FileEntry = Key × Data × List ℕ

abbrev pub text_entry : Key → List ℕ → FileEntry
text_entry key text = (key, string text, quoted_text text)

abbrev pub texts_entry : Key → List (List ℕ) → FileEntry
texts_entry key ts = (key, array_of_texts ts, array_text ts)

-- the entry's text is a TOML text of its value, in ASCII, and the parser accepts this value
pub record IsWritten (entry : FileEntry) : Type 0 where
  pub writes : IsValueText false entry.1 entry.2
  pub shallow : depth entry.1 ≤ 80
  pub dated : has_valid_dates entry.1 ≡ true
  pub low : list_all is_low entry.2 ≡ true

pub text_written : (key : Key) (text : List ℕ) → IsPlain text → IsWritten (text_entry key text)
text_written key text plain = grind (arith, quoted_is, list_all-append, plain_low)

-- the rest of an array's text after its first item
abbrev rest_text : List (List ℕ) → List ℕ
rest_text ts = flat_map (λ text. codes ", " ++ quoted_text text) ts

record AreWritten (ts : List (List ℕ)) : Type 0 where
  writes : IsItemsText false false false (items_of (map string ts)) (rest_text ts ++ codes "]")
  shallow : items_depth (items_of (map string ts)) ≡ 0
  dated : items_have_valid_dates (items_of (map string ts)) ≡ true
  low : list_all is_low (rest_text ts) ≡ true

are_written : (ts : List (List ℕ)) → AllByRecursion IsPlain ts → AreWritten ts
are_written [] plain = record { writes = refl; shallow = refl; dated = refl; low = refl }
are_written (text ∷ ts) plain =
    grind (arith, common_steps, append_assoc, quoted_is, list_all-append, plain_low, are_written ts plain.1)

pub texts_written : (key : Key) (ts : List (List ℕ)) → AllByRecursion IsPlain ts → IsWritten (texts_entry key ts)
texts_written key [] plain = grind arith
texts_written key (text ∷ ts) plain =
    let rest = are_written ts plain.1 in
    let writes : IsItemsText false false true (items_of (map string (text ∷ ts))) (quoted_text text ++
    (rest_text ts ++ codes "]")) = (
      quoted_text text,
      rest_text ts ++ codes "]",
      refl,
      quoted_is text plain.0,
      rest.writes,
    ) in
    record {
      writes = grind (arith, append_assoc, quoted_text);
      shallow = rw rest.shallow (omega arith);
      dated = rest.dated;
      low = simp (list_all-append, plain_low text plain.0, rest.low);
    }

-- ---- the file

abbrev pub line_of : FileEntry → List ℕ
line_of entry = key_line entry.0 entry.2

abbrev pub expression_of : FileEntry → Expression
expression_of entry = (([], key_name entry.0), key_value entry.1)

pub key_bare : (key : Key) → key_text (key_name key) ≡ key_name key
unfolding key_text
key_bare key = grind arith

key_low : (key : Key) → list_all is_low (key_name key) ≡ true
key_low key = grind arith

-- the lines are a TOML text of the entries, which the parser accepts, and their bytes are ASCII
pub lines_text : (started : Bool) (entries : List FileEntry) → AllByRecursion IsWritten entries
    → IsLinesText false started (map expression_of entries) (concat (map line_of entries))
    × AllPrinted (map expression_of entries) × (list_all is_low (concat (map line_of entries)) ≡ true)
lines_text started [] all = (refl, tt, refl)
lines_text started (entry ∷ entries) all =
    grind (arith, key_bare, append_assoc, list_all-append, key_low, lines_text true entries all.1)

pub no_mark : (text : List ℕ) → list_all is_low text ≡ true → skip_bom text ≡ text
unfolding skip_bom
no_mark text e = grind (arith, ltb-true, ne_eqb)

pub file_read : (entries : List FileEntry) (table : Members) → AllByRecursion IsWritten entries
    → option_map (λ doc. close doc.0) (run (no_nodes, []) (map expression_of entries)) ≡ Some table
    → document_of (concat (map line_of entries)) ≡ Ok table
unfolding parse_document
file_read entries table all is =
    let text = concat (map line_of entries) in
    let lines = lines_text false entries all in
    let low = lines.2 in
    let read = read_lines false false (map expression_of entries) text text (no_nodes, []) (suc (length text))
    lines.0 lines.1 refl (omega arith) in
    document_parsed text table
    (IsUtf8-from_ascii text (IsAscii-from_all text
    (λ place d within. ltb-true _ _ (AllPass-from_list_all is_low text low place d within))))
    (rw (no_mark text low, read) is)

-- ---- what is written is plain text

letter_plain : (letter : ℕ) → letter < 26 → is_plain (letter + 65) ≡ true
letter_plain letter within = grind (arith, nat_tests)

pub letters_plain : (letters : List ℕ) → AllByRecursion (λ letter. letter < 26) letters → IsPlain (letters_text letters)
letters_plain [] within = refl
letters_plain (letter ∷ letters) within = rw (letter_plain letter within.0, letters_plain letters within.1) refl

pub model_plain : (model : Model) → IsPlain (model_text model)
model_plain model = grind arith

pub reflector_plain : (reflector : Reflector) → IsPlain (reflector_text reflector)
reflector_plain reflector = grind arith

pub slots_plain : (slots : List (Option Wheel)) → AllByRecursion IsPlain (map slot_text slots)
slots_plain [] = tt
slots_plain (slot ∷ slots) = grind (arith, slots_plain slots)

pub cables_plain : (cables : List (Option ℕ × Option ℕ)) → AllByRecursion (λ letter. letter < 26) (letters_in_cables cables)
    → AllByRecursion IsPlain (map cable_text cables)
cables_plain [] within = tt
cables_plain (cable ∷ cables) within = grind (arith, AllByRecursion-parts, letters_plain, cables_plain cables)

pub pins_plain : (ring : List ℕ) (pins : List Bool) → AllByRecursion (λ letter. letter < 26) ring
    → IsPlain (pins_text ring pins)
pins_plain [] pins within = refl
pins_plain (letter ∷ ring) [] within = refl
pins_plain (letter ∷ ring) (pin ∷ pins) within = grind (arith, letter_plain, pins_plain ring pins within.1)

pub bars_plain : (bars : List (Place × Place)) → AllByRecursion IsPlain (map standing_text bars)
bars_plain [] = tt
bars_plain (bar ∷ bars) = grind (arith, list_all-append, bars_plain bars)

-- ---- version and model

abbrev version_entry : Model → FileEntry
version_entry model = (keys.Version, integer (pos (file_version model)), digit_text (file_version model))

pub version_written : (model : Model) → IsWritten (version_entry model)
unfolding digits
version_written model = grind arith

version_again : (model : Model) → number_up_to 2 (integer (pos (file_version model))) ≡ Some (file_version model)
version_again model = grind arith

ruleset are_plain = (
  version_written,
  text_written,
  texts_written,
  model_plain,
  reflector_plain,
  slots_plain,
  letters_plain,
  cables_plain,
  bars_plain,
  recursion_from_All,
)

-- a document from which version, model and parts can be read is read as the machine of these parts
machine_of-parts : (model : Model) (bytes : List ℕ) (table : Members) (m : Parts) → document_of bytes ≡ Ok table
    → read_at keys.Version (number_up_to 2) table ≡ Ok (file_version model) → model_in table ≡ Ok model
    → parts_in model table ≡ Ok m → machine_of bytes ≡ Ok m
machine_of-parts model bytes table m of_bytes version is parts = grind (arith, bind-step, demand-passes, le-leb)

-- ---- a rotor machine

-- bringing single letters to first ends makes no difference once each cable's letters are put in order
same_order : (cables : List (Option ℕ × Option ℕ))
    → map (λ cable. cable_in_order cable.0 cable.1) (map single_first cables)
    ≡ map (λ cable. cable_in_order cable.0 cable.1) cables
same_order [] = refl
same_order (cable ∷ cables) = grind (arith, same_order cables)

abbrev rotor_entries : RotorParts → List FileEntry
rotor_entries m =
    version_entry m.model ∷ text_entry keys.Model (model_text m.model)
    ∷ text_entry keys.Reflector (reflector_text m.reflector) ∷ texts_entry keys.Slots (map slot_text m.slots)
    ∷ text_entry keys.Rings (letters_text m.rings) ∷ text_entry keys.Letters (letters_text m.letters)
    ∷ texts_entry keys.Cables (map cable_text m.cables) ∷ []

abbrev rotor_table : RotorParts → Members
rotor_table m =
    member (key_name keys.Cables) (array_of_texts (map cable_text m.cables))
    (member (key_name keys.Letters) (string (letters_text m.letters))
    (member (key_name keys.Model) (string (model_text m.model))
    (member (key_name keys.Reflector) (string (reflector_text m.reflector))
    (member (key_name keys.Rings) (string (letters_text m.rings))
    (member (key_name keys.Slots) (array_of_texts (map slot_text m.slots))
    (member (key_name keys.Version) (integer (pos (file_version m.model))) no_members))))))

rotor_read : (m : RotorParts) → AreLegalRotorParts m → document_of (machine_text (Rotor m)) ≡ Ok (rotor_table m)
unfolding machine_text define along_header along_dots at_key
rotor_read m legal =
    let all : AllByRecursion IsWritten (rotor_entries m) =
    search (rules, are_plain, legal.rings.within, legal.letters.within, legal.cables.within) in
    file_read (rotor_entries m) (rotor_table m) all refl

rotor_parts_again : (m : RotorParts) → AreLegalRotorParts m
    → rotor_parts_in m.model (rotor_table m) ≡ Ok (record m { cables = map single_first m.cables })
unfolding rotor_parts_in reflector_in letters_at cables_in
rotor_parts_again m legal =
    let has = (has_reflector-Decides (reflectors_of m.model) m.reflector).1 legal.reflector in
    let seated = slots_in_again keys.Slots m.model (rotor_table m) m.slots refl (λ k d within.
    grind arith) legal.seats in
    grind (arith, common_steps, bind-step, reflector_again, capitals_again, cables_again, append-nil)

by_model : (model : Model) (reflector : Reflector) (table : Members) (m : RotorParts)
    → list_any (same_reflector reflector) (reflectors_of model) ≡ true → rotor_parts_in model table ≡ Ok m
    → parts_in model table ≡ Ok (with_cables_in_order (Rotor m))
unfolding parts_in
by_model model reflector table m e d = grind arith

-- ---- a Converter

abbrev pin_entries : PinParts → List FileEntry
pin_entries m =
    version_entry M209 ∷ text_entry keys.Model (model_text M209) ∷ text_entry keys.Letters (letters_text m.letters)
    ∷ texts_entry keys.Pins (pin_texts m.pins) ∷ texts_entry keys.Bars (map standing_text m.bars) ∷ []

abbrev pin_table : PinParts → Members
pin_table m =
    member (key_name keys.Bars) (array_of_texts (map standing_text m.bars))
    (member (key_name keys.Letters) (string (letters_text m.letters))
    (member (key_name keys.Model) (string (model_text M209))
    (member (key_name keys.Pins) (array_of_texts (pin_texts m.pins))
    (member (key_name keys.Version) (integer (pos (file_version M209))) no_members))))

pin_read : (m : PinParts) → AreLegalPinParts m → document_of (machine_text (Pin m)) ≡ Ok (pin_table m)
unfolding machine_text define along_header along_dots at_key
pin_read m legal =
    let all_pins : AllByRecursion IsPlain (pin_texts m.pins) =
    grind (arith, pins_plain, recursion_from_All, ring_letters) in
    let all : AllByRecursion IsWritten (pin_entries m) =
    search (rules, are_plain, all_pins, letters_below, legal.letters) in
    file_read (pin_entries m) (pin_table m) all refl

bars_again : (m : PinParts) → AreLegalPinParts m → bars_in (pin_table m) ≡ Ok m.bars
unfolding bars_in
bars_again m legal =
    read_array-texts keys.Bars (nat_eq 27) standing_text m.bars (or_bad_row (find_by_text standing_text standings))
    (λ k bar at.
    rw (standing_again bar (All-slice_get (λ bar. IsBefore bar.0 bar.1) m.bars k bar legal.apart at)) refl)
    (eq-eqb _ _ (sym legal.bars))

pin_parts_again : (m : PinParts) → AreLegalPinParts m → pin_parts_in (pin_table m) ≡ Ok m
unfolding pin_parts_in
pin_parts_again m legal = grind (arith, bind-step, window_again, pins_in_again, bars_again)

-- ---- each machine

pub parts_are_read_back : LegalPartsAreReadBack
unfolding model_in parts_in
parts_are_read_back (Rotor m) legal =
    let has = (has_reflector-Decides (reflectors_of m.model) m.reflector).1 legal.reflector in
    machine_of-parts m.model (machine_text (Rotor m)) (rotor_table m) _ (rotor_read m legal)
    (rw (version_again m.model) refl) (rw (model_found m.model) refl)
    (by_model m.model m.reflector (rotor_table m) _ has (rotor_parts_again m legal))
    ∙ ap (λ cables. Ok (Rotor (record m { cables = cables }))) (same_order m.cables)
parts_are_read_back (Pin m) legal =
    machine_of-parts M209 (machine_text (Pin m)) (pin_table m) _ (pin_read m legal) refl
    (ap (λ found. ok_or found UnknownModel) (model_found M209)) (rw (pin_parts_again m legal) refl)
