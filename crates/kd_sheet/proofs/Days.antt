-- The sheet written for legal days, each with its own number, is read as these days.
use Rattle.kd_sheet.proofs.ReadBack.{FileEntry, IsWritten, line_of, text_entry, texts_entry, is_low, rotor_again, pin_again, rotor_day_table, pin_day_table, day_by_model}
use Rattle.kd_sheet.proofs.ReadBack.{text_written, texts_written, model_plain, reflector_plain, slots_plain, letters_plain, pins_plain, recursion_from_All, IsPlain}
use Rattle.kd_sheet.proofs.ReadBack.{List, Some, ℕ, [], ◌∷◌, ◌++◌, ◌≡◌, ◌∙◌, ◌≤◌, ◌<◌, ◌==◌, false, refl, sym, ap, arith}
use Rattle.kd_sheet.proofs.ReadBack.{map, pos, integer, Data, Members, AllByRecursion, list_any, Ok, ok_or, as_table, bind-step, le-leb}
use Rattle.kd_sheet.proofs.ReadBack.{day_for, day_in, model_in, read_at, number_up_to, model_found, slot_text, pin_texts, model_text, reflector_text, letters_text, seats_of_wheels, M209, IsReading, nat_tests, SheetWheel, letters_below, Result, SheetFault}
use Rattle.kd_sheet.proofs.ReadBack.{Day, Rotor, Pin, RotorDay, PinDay, day_number, IsLegalDay, reading_text}
use Rattle.kd_sheet.proofs.ReadBack.{BadValue, UnknownModel, Model, read_items, no_nodes, close, append_assoc, append-nil, reflectors_of, has_reflector-Decides}
use Rattle.kd_sheet.specs.declared.key.Key.TheVariants as keys
use Rattle.kd_sheet.specs.SheetText.{day_lines, AreSheetDays}
use Rattle.kd_sheet.proofs.Sections.{put_all, sections_read}
use Rattle.kd_sheet.specs.SheetText.{sheet_text, sections_text}
use Rattle.kd_sheet.specs.SheetFile.{sheet_of}
use Rattle.kd_sheet.proofs.ReadBack.{month_of, HasWheelLetters, AreLetters, ring_letters, flat_map}
use Rattle.std.specs.Prelude.{decimal}
use Rattle.kd_tables.specs.Tables.{wheel_text}
use Rattle.std.proofs.lemmas.Grind.{get_or_default_zero}
use Rattle.std.proofs.lemmas.Fmt.{IsAscii-decimal}
use Rattle.std.proofs.lemmas.List.Sums.{list_all-from_AllPass}
use Rattle.toml.specs.Data.{table, no_members, member}
use Rattle.toml.specs.Tables.{Nodes, node, value, along_dots, at_key}

abbrev pub number_entry : ℕ → FileEntry
number_entry number = (keys.Day, integer (pos number), decimal number)

pub number_written : (number : ℕ) → number ≤ 31 → IsWritten (number_entry number)
number_written number few =
    let ascii = IsAscii-decimal number (omega arith) in
    record {
      writes = (refl, grind arith);
      shallow = grind arith;
      dated = refl;
      low = list_all-from_AllPass is_low (decimal number) (λ k d within. rw (get_or_default_zero (decimal number) k d within) (le-leb _ _ (ascii k)));
    }

abbrev rotor_entries : RotorDay → List FileEntry
rotor_entries s =
    number_entry s.day
    ∷ text_entry keys.Model (model_text s.model)
    ∷ text_entry keys.Reflector (reflector_text s.reflector)
    ∷ texts_entry keys.Wheels (map slot_text (seats_of_wheels s.wheels))
    ∷ text_entry keys.Rings (letters_text (map (λ w. w.ring) s.wheels))
    ∷ text_entry keys.Window (letters_text (map (λ w. w.letter) s.wheels))
    ∷ texts_entry keys.Plugs (map (λ pair. letters_text (pair.0 ∷ pair.1 ∷ [])) s.pairs)
    ∷ texts_entry keys.Groups (map letters_text s.groups)
    ∷ []

abbrev pin_entries : PinDay → List FileEntry
pin_entries s =
    number_entry s.day
    ∷ text_entry keys.Model (model_text M209)
    ∷ text_entry keys.List (letters_text s.list)
    ∷ texts_entry keys.Pins (pin_texts s.pins)
    ∷ text_entry keys.Window (letters_text s.window)
    ∷ texts_entry keys.Rows (map reading_text s.rows)
    ∷ []

abbrev pub day_entries : Day → List FileEntry
day_entries (Rotor s) = rotor_entries s
day_entries (Pin s) = pin_entries s

-- the nodes that hold just these members
abbrev pub nodes_of : Members → Nodes
nodes_of no_members = no_nodes
nodes_of (member key d rest) = node key (value d) (nodes_of rest)

abbrev pub day_table : Day → Members
day_table (Rotor s) = rotor_day_table s
day_table (Pin s) = pin_day_table s

pub made : (day : Day) → put_all (day_entries day) no_nodes ≡ Some (nodes_of (day_table day))
unfolding along_dots at_key
made (Rotor s) = refl
made (Pin s) = refl

closes : (day : Day) → close (nodes_of (day_table day)) ≡ day_table day
closes (Rotor s) = refl
closes (Pin s) = refl

wheel_names : (wheels : List SheetWheel) → map slot_text (seats_of_wheels wheels) ≡ map (λ w. wheel_text w.wheel) wheels
wheel_names [] = refl
wheel_names (w ∷ wheels) = ap (λ rest. wheel_text w.wheel ∷ rest) (wheel_names wheels)

same_lines : (day : Day) → map line_of (day_entries day) ≡ day_lines day
same_lines (Rotor s) = rw (wheel_names s.wheels) refl
same_lines (Pin s) = refl

-- a day that no earlier day has the number of is read as if it were the first
pub day_after : (earlier : List Day) (number : ℕ) (model : Model) (entry : Members) (item : Data) (day : Day)
    → ok_or (as_table item) (BadValue keys.Day) ≡ Ok entry
    → read_at keys.Day (number_up_to 31) entry ≡ Ok number
    → list_any (λ other. day_number other == number) earlier ≡ false → model_in entry ≡ Ok model
    → day_in number model entry ≡ Ok day → day_for earlier item ≡ Ok day
unfolding day_for
day_after earlier number model entry item day of_item is free of_model rest = grind (arith, bind-step)

day_again_after : (earlier : List Day) (day : Day) → IsLegalDay day
    → list_any (λ other. day_number other == day_number day) earlier ≡ false
    → day_for earlier (table (day_table day)) ≡ Ok day
unfolding model_in day_in
day_again_after earlier (Rotor s) legal free =
    let has = (has_reflector-Decides (reflectors_of s.model) s.reflector).1 legal.reflector in
    day_after earlier s.day s.model (rotor_day_table s) (table (rotor_day_table s)) (Rotor s) refl
    (grind (arith, le-leb, legal.day)) free (rw (model_found s.model) refl)
    (day_by_model s.day s.model s.reflector (rotor_day_table s) (Rotor s) has (rotor_again s legal))
day_again_after earlier (Pin s) legal free =
    day_after earlier s.day M209 (pin_day_table s) (table (pin_day_table s)) (Pin s) refl
    (grind (arith, le-leb, legal.day)) free (ap (λ found. ok_or found UnknownModel) (model_found M209)) (pin_again s legal)

days_again : (earlier days : List Day) (parse : List Day → Data → Result Day SheetFault)
    → ((more : List Day) (item : Data) → parse more item ≡ day_for (earlier ++ more) item) → AreSheetDays earlier days
    → read_items parse (map (λ day. table (day_table day)) days) ≡ Ok days
days_again earlier [] parse same are = refl
days_again earlier (day ∷ days) parse same are =
    let first : parse [] (table (day_table day)) ≡ Ok day =
    same [] (table (day_table day)) ∙ rw (append-nil earlier) (day_again_after earlier day are.0.0 are.0.1) in
    let rest = days_again (earlier ++ day ∷ []) days (λ more. parse (day ∷ more))
    (λ more item. same (day ∷ more) item ∙ ap (λ xs. day_for xs item) (sym (append_assoc earlier (day ∷ []) more)))
    are.1 in
    rw (first, rest) refl

rows_plain : (rows : List (ℕ × ℕ)) → AllByRecursion IsReading rows → AllByRecursion IsPlain (map reading_text rows)
rows_plain [] all = tt
rows_plain (row ∷ rows) all = let is = all.0 in grind (arith, nat_tests, rows_plain rows all.1)

-- ---- the whole sheet

pairs_plain : (pairs : List (ℕ × ℕ)) → AllByRecursion (λ letter. letter < 26) (flat_map (λ pair. pair.0 ∷ pair.1 ∷ []) pairs)
    → AllByRecursion IsPlain (map (λ pair. letters_text (pair.0 ∷ pair.1 ∷ [])) pairs)
pairs_plain [] within = tt
pairs_plain (pair ∷ pairs) within =
    (letters_plain (pair.0 ∷ pair.1 ∷ []) (within.0, (within.1.0, tt)), pairs_plain pairs within.1.1)

groups_plain : (groups : List (List ℕ)) → AllByRecursion (AreLetters 3) groups
    → AllByRecursion IsPlain (map letters_text groups)
groups_plain [] are = tt
groups_plain (group ∷ groups) are =
    (letters_plain group (recursion_from_All (λ letter. letter < 26) group are.0.within), groups_plain groups are.1)

wheel_letters : (part : SheetWheel → ℕ) → ((w : SheetWheel) → HasWheelLetters w → part w < 26) → (wheels : List SheetWheel)
    → AllByRecursion HasWheelLetters wheels → AllByRecursion (λ letter. letter < 26) (map part wheels)
wheel_letters part low [] all = tt
wheel_letters part low (w ∷ wheels) all = (low w all.0, wheel_letters part low wheels all.1)

written : (day : Day) → IsLegalDay day → AllByRecursion IsWritten (day_entries day)
written (Rotor s) legal =
    let letters = recursion_from_All HasWheelLetters s.wheels legal.letters in (
      number_written s.day legal.day.last,
      (
        text_written keys.Model (model_text s.model) (model_plain s.model),
        (
          text_written keys.Reflector (reflector_text s.reflector) (reflector_plain s.reflector),
          (
            texts_written keys.Wheels _ (slots_plain (seats_of_wheels s.wheels)),
            (
              text_written keys.Rings _ (letters_plain _ (wheel_letters (λ w. w.ring) (λ w has. has.ring) s.wheels letters)),
              (
                text_written keys.Window _ (letters_plain _ (wheel_letters (λ w. w.letter) (λ w has. has.letter) s.wheels letters)),
                (
                  texts_written keys.Plugs _ (pairs_plain s.pairs (recursion_from_All (λ letter. letter < 26) _ legal.pairs.within)),
                  (
                    texts_written keys.Groups _ (groups_plain s.groups (recursion_from_All (AreLetters 3) s.groups legal.groups)),
                    tt,
                  ),
                ),
              ),
            ),
          ),
        ),
      ),
    )
written (Pin s) legal =
    let all_pins : AllByRecursion IsPlain (pin_texts s.pins) = grind (arith, pins_plain, recursion_from_All, ring_letters) in (
      number_written s.day legal.day.last,
      (
        text_written keys.Model (model_text M209) refl,
        (
          text_written keys.List _ (letters_plain s.list (recursion_from_All (λ letter. letter < 26) s.list legal.list.within)),
          (
            texts_written keys.Pins (pin_texts s.pins) all_pins,
            (
              text_written keys.Window _ (letters_plain s.window (recursion_from_All (λ letter. letter < 26) s.window (letters_below s.window legal.window))),
              (
                texts_written keys.Rows _ (rows_plain s.rows (recursion_from_All IsReading s.rows legal.rows)),
                tt,
              ),
            ),
          ),
        ),
      ),
    )

all_written : (earlier days : List Day) → AreSheetDays earlier days
    → AllByRecursion (AllByRecursion IsWritten) (map day_entries days)
all_written earlier [] are = tt
all_written earlier (day ∷ days) are = (written day are.0.0, all_written (earlier ++ day ∷ []) days are.1)

all_lines : (days : List Day) → map (map line_of) (map day_entries days) ≡ map day_lines days
all_lines [] = refl
all_lines (day ∷ days) = rw (same_lines day, all_lines days) refl

all_items : (days : List Day) → map (λ day. table (close (nodes_of (day_table day)))) days ≡ map (λ day. table (day_table day)) days
all_items [] = refl
all_items (day ∷ days) = rw (closes day, all_items days) refl

pub sheet_again : (day : Day) (days : List Day) → AreSheetDays [] (day ∷ days)
    → sheet_of (sheet_text (day ∷ days)) ≡ Ok (month_of (day ∷ days))
unfolding sheet_text
sheet_again day days are =
    let (ds, read, has) = sections_read day_entries (λ day. nodes_of (day_table day)) made day days (all_written [] (day ∷ days) are) in
    let items = has ∙ all_items (day ∷ days) in
    let text : sections_text false (map day_lines (day ∷ days)) ≡ sections_text false (map (map line_of) (map day_entries (day ∷ days))) =
    ap (λ lines. sections_text false lines) (sym (all_lines (day ∷ days))) in
    rw (text, read, items, days_again [] (day ∷ days) day_for (λ more item. refl) are) refl
