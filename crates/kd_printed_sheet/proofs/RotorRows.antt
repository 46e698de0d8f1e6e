-- The row of a rotor machine's day is read as this day.
use Rattle.std.proofs.Common.{◌≡◌, ◌<◌, ◌≤◌, ◌++◌, ◌∷◌, ◌∙◌, [], ℕ, Bool, true, false, List, Some, ap, append_assoc, arith, length, map, refl, sym}
use Rattle.std.specs.Prelude.{decimal, option_map}
use Rattle.std.specs.List.{AllByRecursion, list_any}
use Rattle.std.specs.Option.{option_and_then}
use Rattle.std.proofs.lemmas.List.{length-map, map-id}
use Rattle.std.proofs.lemmas.List.Elements.{recursion_from_All}
unfoldable use Rattle.csv.specs.Records.{field_at}
use Rattle.kd_tables.specs.Pairs.{letters_in_pairs}
use Rattle.kd_tables.specs.Tables.{model_text, reflector_text, reflectors_of, slots_of}
use Rattle.kd_tables.specs.declared.model.Model.{Model}
use Rattle.kd_tables.specs.declared.model.Model.TheVariants.{EnigmaI, M3, M4, M209}
use Rattle.kd_tables.specs.declared.reflector.Reflector.{Reflector}
use Rattle.kd_state.proofs.Wheels.{has_reflector-Decides}
use Rattle.kd_state.specs.Machine.{AreLetters}
use Rattle.kd_state.specs.SameParts.{same_reflector}
use Rattle.kd_state.specs.SheetDay.{HasWheelLetters, IsLegalRotorDay, Rotor, RotorDay}
use Rattle.kd_state.specs.declared.sheet_day.rotor_entry.SheetWheel.{SheetWheel}
use Rattle.kd_spreadsheet.specs.Items.{group_of, groups_in, is_blank, letters_in, number_in, number_of, pair_of, pairs_in, ring_of_word, single, slot_of, wheels_in, words}
unfoldable use Rattle.kd_spreadsheet.specs.Names.{is_named, model_named}
use Rattle.kd_spreadsheet.specs.Names.{reflector_named}
use Rattle.kd_options.specs.TableOptions.{OptionTexts}
unfoldable use Rattle.kd_spreadsheet.specs.RotorRow.{rotor_values}
use Rattle.kd_spreadsheet.specs.RotorRow.{wheels_with}
unfoldable use Rattle.kd_spreadsheet.specs.Row.{fits_columns, is_blank_row}
use Rattle.kd_spreadsheet.specs.Row.{row_values, values_of_model}
use Rattle.kd_printed_sheet.proofs.CellWords.{IsWordOf, letters_cell, short_words, words_cell}
use Rattle.kd_printed_sheet.proofs.PlainCells.{IsPlain, IsPlainRow, line}
use Rattle.kd_printed_sheet.proofs.TableHead.{table_columns}
use Rattle.kd_printed_sheet.proofs.WordValues.{group_is, letter_is, letter_seen, letters_plain, number_is, pair_is, ring_is, wheel_is, wheel_plain, words_plain}
unfoldable use Rattle.kd_printed_sheet.specs.CsvTable.{rotor_line}
use Rattle.kd_printed_sheet.specs.MonthTable.{has_numbered_rings}
use Rattle.kd_printed_sheet.specs.Words.{ground_text, group_text, name_text, pair_text, ring_text, words_text}

-- the cells of key lists, which a rotor machine's day lacks
abbrev no_list : Bool → List (List ℕ)
no_list false = []
no_list true = [] ∷ [] ∷ [] ∷ [] ∷ [] ∷ [] ∷ [] ∷ [] ∷ []

abbrev pub rotor_cells : Bool → RotorDay → List (List ℕ)
rotor_cells has_lists day =
    decimal day.day ∷ model_text day.model ∷ reflector_text day.reflector ∷ words_text name_text day.wheels
    ∷ words_text (ring_text (has_numbered_rings day.model)) day.wheels ∷ words_text pair_text day.pairs
    ∷ words_text ground_text day.wheels ∷ words_text group_text day.groups ∷ no_list has_lists

pub rotor_line_is : (has_lists : Bool) (day : RotorDay) (tail : List ℕ)
    → rotor_line has_lists day ++ tail ≡ line (rotor_cells has_lists day) tail
unfolding rotor_line
rotor_line_is false day tail = simp append_assoc
rotor_line_is true day tail = simp append_assoc

-- ---- single cells

pub every : {X : Type 0} (P Q : X → Type 0) → ((x : X) → P x → Q x) → (xs : List X) → AllByRecursion P xs
    → AllByRecursion Q xs
every P Q weaker [] all = tt
every P Q weaker (x ∷ xs) all = (weaker x all.0, every P Q weaker xs all.1)

pub each : {X : Type 0} (P : X → Type 0) → ((x : X) → P x) → (xs : List X) → AllByRecursion P xs
each P holds [] = tt
each P holds (x ∷ xs) = (holds x, each P holds xs)

model_again : (model : Model) → (model_named (model_text model) ≡ Some model) × (is_blank (model_text model) ≡ false)
    × IsPlain (model_text model)
unfolding is_named model_named
model_again EnigmaI = (refl, refl, refl)
model_again M3 = (refl, refl, refl)
model_again M4 = (refl, refl, refl)
model_again M209 = (refl, refl, refl)

reflector_again : (model : Model) (reflector : Reflector)
    → list_any (same_reflector reflector) (reflectors_of model) ≡ true
    → reflector_named model (reflector_text reflector) ≡ Some reflector
unfolding is_named
reflector_again model reflector has = grind arith

reflector_seen : (reflector : Reflector) → (is_blank (reflector_text reflector) ≡ false) × IsPlain (reflector_text reflector)
reflector_seen reflector = grind arith

pub number_again : (number : ℕ) → number ≤ 31 → number_in (decimal number) ≡ Some number
number_again number few =
    let is = number_is number (omega arith) in
    let short = is.short in
    ap (option_and_then single) (short_words number_of (decimal number) (omega arith) ∙ is.word.last)

-- ---- the wheels' cells

module _ (wheels : List SheetWheel) (letters : AllByRecursion HasWheelLetters wheels) (few : length wheels ≤ 4) where
  names_again : wheels_in (words_text name_text wheels) ≡ Some (map (λ w. Some w.wheel) wheels)
  names_again =
      words_cell slot_of name_text (λ w. Some w.wheel) wheels (omega arith)
      (each (λ w. length (name_text w) ≤ 5) (λ w. (wheel_plain w.wheel).1) wheels)
      (each (λ w. IsWordOf words slot_of (name_text w) (Some w.wheel)) (λ w. wheel_is w.wheel) wheels)

  rings_again : (numbered : Bool) → letters_in (words_text (ring_text numbered) wheels) ≡ Some (map (λ w. w.ring) wheels)
  rings_again false =
      letters_cell ring_of_word (ring_text false) (λ w. w.ring) wheels (omega arith)
      (each (λ w. length (ring_text false w) ≤ 5) (λ w. omega arith) wheels)
      (every _ _ (λ w has. letter_is w.ring has.ring) wheels letters)
  rings_again true =
      letters_cell ring_of_word (ring_text true) (λ w. w.ring) wheels (omega arith)
      (every _ _ (λ w has. let short = (ring_is w.ring has.ring).short in omega arith) wheels letters)
      (every _ _ (λ w has. (ring_is w.ring has.ring).word) wheels letters)

  ground_again : letters_in (words_text ground_text wheels) ≡ Some (map (λ w. w.letter) wheels)
  ground_again =
      letters_cell ring_of_word ground_text (λ w. w.letter) wheels (omega arith)
      (each (λ w. length (ground_text w) ≤ 5) (λ w. omega arith) wheels)
      (every _ _ (λ w has. letter_is w.letter has.letter) wheels letters)

seated_again : (wheels : List SheetWheel)
    → wheels_with (map (λ w. Some w.wheel) wheels) (map (λ w. w.ring) wheels) (map (λ w. w.letter) wheels) ≡ Some wheels
seated_again [] = refl
seated_again (w ∷ wheels) = rw (seated_again wheels) refl

-- ---- the cells of pairs and groups

pairs_within : (pairs : List (ℕ × ℕ)) → AllByRecursion (λ letter. letter < 26) (letters_in_pairs pairs)
    → AllByRecursion (λ pair. (pair.0 < 26) × (pair.1 < 26)) pairs
pairs_within [] within = tt
pairs_within (pair ∷ pairs) within = ((within.0, within.1.0), pairs_within pairs within.1.1)

pairs_again : (pairs : List (ℕ × ℕ)) → AllByRecursion (λ pair. (pair.0 < 26) × (pair.1 < 26)) pairs → length pairs ≤ 13
    → pairs_in (words_text pair_text pairs) ≡ Some pairs
pairs_again pairs within few =
    words_cell pair_of pair_text (λ pair. pair) pairs (omega arith)
    (each (λ pair. length (pair_text pair) ≤ 5) (λ pair. omega arith) pairs)
    (every _ _ (λ pair is. pair_is pair is.0 is.1) pairs within)
    ∙ ap Some (map-id pairs)

-- a group of three letters
data IsGroup : List ℕ → Type 0 where
  Group : (a b c : ℕ) → a < 26 → b < 26 → c < 26 → IsGroup (a ∷ b ∷ c ∷ [])

group_letters : (group : List ℕ) → length group ≡ 3 → AllByRecursion (λ letter. letter < 26) group → IsGroup group
group_letters [] count within = absurd (omega arith)
group_letters (a ∷ []) count within = absurd (omega arith)
group_letters (a ∷ b ∷ []) count within = absurd (omega arith)
group_letters (a ∷ b ∷ c ∷ []) count within = Group a b c within.0 within.1.0 within.1.1.0
group_letters (a ∷ b ∷ c ∷ d ∷ more) count within = absurd (omega arith)

group_word : (group : List ℕ) → IsGroup group → IsWordOf words group_of (group_text group) group
group_word _ (Group a b c one two three) = group_is a b c one two three

group_short : (group : List ℕ) → IsGroup group → length (group_text group) ≤ 5
group_short _ (Group a b c one two three) = omega arith

group_plain : (group : List ℕ) → IsGroup group → IsPlain (group_text group)
group_plain _ (Group a b c one two three) = letters_plain (a ∷ b ∷ c ∷ []) (one, (two, (three, tt)))

groups_again : (groups : List (List ℕ)) → AllByRecursion IsGroup groups → length groups ≤ 4
    → groups_in (words_text group_text groups) ≡ Some groups
groups_again groups are few =
    words_cell group_of group_text (λ group. group) groups (omega arith) (every _ _ group_short groups are)
    (every _ _ group_word groups are)
    ∙ ap Some (map-id groups)

-- ---- the row

-- What a legal day's parts are, part by part.
record HasParts (day : RotorDay) : Type 0 where
  number : day.day ≤ 31
  reflector : list_any (same_reflector day.reflector) (reflectors_of day.model) ≡ true
  letters : AllByRecursion HasWheelLetters day.wheels
  some_wheels : 1 ≤ length day.wheels
  few_wheels : length day.wheels ≤ 4
  pairs : AllByRecursion (λ pair. (pair.0 < 26) × (pair.1 < 26)) day.pairs
  few_pairs : length day.pairs ≤ 13
  groups : AllByRecursion IsGroup day.groups
  few_groups : length day.groups ≤ 4

slots_few : (model : Model) (reflector : Reflector) → list_any (same_reflector reflector) (reflectors_of model) ≡ true
    → (1 ≤ slots_of model) × (slots_of model ≤ 4)
slots_few EnigmaI reflector has = (omega arith, omega arith)
slots_few M3 reflector has = (omega arith, omega arith)
slots_few M4 reflector has = (omega arith, omega arith)
slots_few M209 reflector has = cc has

has_parts : (day : RotorDay) → IsLegalRotorDay day → HasParts day
has_parts day legal =
    let has = (has_reflector-Decides (reflectors_of day.model) day.reflector).1 legal.reflector in
    let slots = slots_few day.model day.reflector has in
    let some = slots.0 in
    let few = slots.1 in
    let count : length day.wheels ≡ slots_of day.model =
    sym (length-map day.wheels _) ∙ legal.wheels.count in
    record {
      number = legal.day.last;
      reflector = has;
      letters = recursion_from_All HasWheelLetters day.wheels legal.letters;
      some_wheels = omega arith;
      few_wheels = omega arith;
      pairs = pairs_within day.pairs (recursion_from_All (λ letter. letter < 26) (letters_in_pairs day.pairs) legal.pairs.within);
      few_pairs = legal.pairs.few;
      groups = every (AreLetters 3) IsGroup (λ group are. group_letters group are.count
          (recursion_from_All (λ letter. letter < 26) group are.within)) day.groups
          (recursion_from_All (AreLetters 3) day.groups legal.groups);
      few_groups = legal.few_groups;
    }

ground_seen : (wheels : List SheetWheel) → AllByRecursion HasWheelLetters wheels → 1 ≤ length wheels
    → is_blank (words_text ground_text wheels) ≡ false
ground_seen [] letters some = absurd (omega arith)
ground_seen (w ∷ wheels) letters some = rw (letter_seen w.letter letters.0.letter) refl

rotor_again : (options : OptionTexts) (has_lists : Bool) (day : RotorDay) → HasParts day
    → rotor_values options (table_columns has_lists) (rotor_cells has_lists day) day.model ≡ Some day
unfolding rotor_values field_at
rotor_again options has_lists day has =
    rw (
      number_again day.day has.number,
      (reflector_seen day.reflector).0,
      reflector_again day.model day.reflector has.reflector,
      names_again day.wheels has.letters has.few_wheels,
      rings_again day.wheels has.letters has.few_wheels (has_numbered_rings day.model),
      ground_seen day.wheels has.letters has.some_wheels,
      ground_again day.wheels has.letters has.few_wheels,
      seated_again day.wheels,
      pairs_again day.pairs has.pairs has.few_pairs,
      groups_again day.groups has.groups has.few_groups,
    ) refl

-- the model of a rotor machine's day isn't a Converter
by_model : (options : OptionTexts) (has_lists : Bool) (day : RotorDay) (model : Model) → day.model ≡ model
    → HasParts day → values_of_model options (table_columns has_lists) (rotor_cells has_lists day) model ≡ Some (Rotor day)
by_model options has_lists day M209 is has = let wrong = rw is at has.reflector in cc wrong
by_model options has_lists day model is has =
    rw (← is) (ap (option_map Rotor) (rotor_again options has_lists day has))

rotor_fits : (has_lists : Bool) (day : RotorDay)
    → fits_columns (table_columns has_lists) (rotor_cells has_lists day) ≡ true
unfolding field_at fits_columns
rotor_fits false day = refl
rotor_fits true day = refl

pub rotor_row : (options : OptionTexts) (has_lists : Bool) (day : RotorDay) → IsLegalRotorDay day
    → row_values options (table_columns has_lists) (rotor_cells has_lists day) ≡ Some (Rotor day)
unfolding field_at
rotor_row options has_lists day legal =
    let model = model_again day.model in
    rw (rotor_fits has_lists day, model.1, model.0) (by_model options has_lists day day.model refl (has_parts day legal))

pub rotor_seen : (has_lists : Bool) (day : RotorDay) → IsLegalRotorDay day
    → is_blank_row (table_columns has_lists) (rotor_cells has_lists day) ≡ false
unfolding field_at is_blank_row
rotor_seen has_lists day legal =
    let last = legal.day.last in
    rw (number_is day.day (omega arith)).seen refl

rings_plain : (numbered : Bool) (wheels : List SheetWheel) → AllByRecursion HasWheelLetters wheels
    → IsPlain (words_text (ring_text numbered) wheels)
rings_plain false wheels letters =
    words_plain (ring_text false) wheels (every _ _ (λ w has. letters_plain (w.ring ∷ []) (has.ring, tt)) wheels letters)
rings_plain true wheels letters =
    words_plain (ring_text true) wheels (every _ _ (λ w has. (ring_is w.ring has.ring).plain) wheels letters)

no_list_plain : (has_lists : Bool) → AllByRecursion IsPlain (no_list has_lists)
no_list_plain false = tt
no_list_plain true = (refl, (refl, (refl, (refl, (refl, (refl, (refl, (refl, tt))))))))

pub rotor_plain : (has_lists : Bool) (day : RotorDay) → IsLegalRotorDay day → IsPlainRow (rotor_cells has_lists day)
rotor_plain has_lists day legal =
    let has = has_parts day legal in
    let letters = has.letters in
    let number = has.number in (
      (number_is day.day (omega arith)).plain,
      (
        (model_again day.model).2,
        (
          (reflector_seen day.reflector).1,
          (
            words_plain name_text day.wheels (each _ (λ w. (wheel_plain w.wheel).0) day.wheels),
            (
              rings_plain (has_numbered_rings day.model) day.wheels letters,
              (
                words_plain pair_text day.pairs (every _ _ (λ pair is. letters_plain (pair.0 ∷ pair.1 ∷ [])
                    (is.0, (is.1, tt))) day.pairs has.pairs),
                (
                  words_plain ground_text day.wheels (every _ _ (λ w has. letters_plain (w.letter ∷ [])
                      (has.letter, tt)) day.wheels letters),
                  (
                    words_plain group_text day.groups (every _ _ group_plain day.groups has.groups),
                    no_list_plain has_lists,
                  ),
                ),
              ),
            ),
          ),
        ),
      ),
    )
