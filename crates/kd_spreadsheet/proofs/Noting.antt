-- Notes that are written, and lines that make up a note.
use Rattle.std.proofs.Common.{◌≡◌, ◌∙◌, ◌&&◌, ◌||◌, ◌+◌, ◌<◌, ◌++◌, ◌∷◌, ℕ, Bool, true, false, List, [], ap, get_or, length, length-append, map, suc, zero, Option, Some, Result, Ok, Err, is_err, refl, sym, subst, arith, append_assoc}
use Rattle.std.proofs.lemmas.Bool.{or_left, or_right}
use Rattle.std.proofs.lemmas.Grind.{common_steps, flat_map-append}
use Rattle.std.proofs.lemmas.List.{append-nil}
use Rattle.std.specs.Prelude.{flat_map}
use Rattle.std.specs.List.{after_first, before_first, list_all, list_any}
use Rattle.kd_state.specs.SheetDay.{Day}
use Rattle.kd_language.specs.Language.{text_in}
use Rattle.kd_language.specs.Template.{is_gap}
unfoldable use Rattle.kd_language.specs.Template.{filled}
use Rattle.kd_language.specs.declared.language.Language.{Language}
use Rattle.kd_tables.specs.Writing.{Writes}
use Rattle.kd_spreadsheet.specs.Cells.{has_columns, row_cells, row_model}
use Rattle.kd_spreadsheet.specs.Columns.{cell_at, columns_of}
use Rattle.kd_spreadsheet.specs.Items.{is_blank}
use Rattle.kd_options.specs.TableOptions.{OptionTexts}
use Rattle.kd_spreadsheet.specs.Notes.{NextCell, NoCells, TellsCells, TellsPlacedRow, TellsText, cell_place, line_at, unread_line, unread_note, unread_words, HasRowsNote, HasSomeLine, OfRows, TellsRow, TellsTable, day_of_row, lacks_column, row_place, AreCellWords, IsEarlierRow}
use Rattle.kd_spreadsheet.specs.NearNames.{is_misnamed}
use Rattle.kd_spreadsheet.specs.Row.{IsDayOfRow, IsNoDay, is_column_read, row_values}
use Rattle.kd_spreadsheet.specs.Rows.{is_well_quoted}
use Rattle.kd_spreadsheet.specs.Table.{AreRows}
use Rattle.kd_spreadsheet.specs.declared.cell.Cell.{Cell}
use Rattle.kd_spreadsheet.specs.declared.columns.Columns.{Columns}
use Rattle.kd_spreadsheet.specs.declared.texts.TheConstants.{FIRST_ROW}

-- a text, or a prefix of it, was written
pub tells_whole : {T E : Type 0} (a b : Option (List ℕ)) (before after : Bool) (text : List ℕ) (answer : Result T E)
    → Writes a b text answer → after ≡ (before || is_err answer)
    → TellsText (record { had = a; has = b; had_failed = before; has_failed = after }) text
tells_whole a b before after text (Ok done) writes failed =
    record { whole = λ well. writes.whole; part = (length text, grind (arith, common_steps, writes.whole)) }
tells_whole a b before after text (Err fault) writes failed =
    let front = writes.front in
    record { whole = λ well. grind (arith, common_steps, failed, well); part = (front.0, front.2) }

-- a row that describes a day isn't a row that is no day
pub is_some_day : (options : OptionTexts) (columns : Columns) (row : List (List ℕ)) (day : Day)
    → IsDayOfRow options columns row day → IsNoDay (row_values options columns row) → ⊥
is_some_day options columns row day is none = subst IsNoDay is.values none is.legal

-- ---- parts of a note

pub three_parts : (old one two three a b c : List ℕ) → one ≡ old ++ a → two ≡ one ++ b → three ≡ two ++ c
    → three ≡ old ++ (a ++ (b ++ c))
three_parts old one two three a b c first second third =
    third ∙ ap (λ t. t ++ c) (second ∙ ap (λ t. t ++ b) first) ∙ append_assoc (old ++ a) b c ∙ append_assoc old a (b ++ c)

pub two_parts : (old one two a b : List ℕ) → one ≡ old ++ a → two ≡ one ++ b → two ≡ old ++ (a ++ b)
two_parts old one two a b first second = second ∙ ap (λ t. t ++ b) first ∙ append_assoc old a b

-- At least one line was appended, each with this place.
abbrev pub HasLines : List ℕ → List ℕ → List ℕ → Type 0
HasLines place old new = (lines : List (List ℕ)) × (0 < length lines) × (new ≡ old ++ flat_map (line_at place) lines)

pub line_first : (place old middle new line : List ℕ) → middle ≡ old ++ line_at place line → HasLines place middle new
    → HasLines place old new
line_first place old middle new line first (lines, some, rest) =
    (line ∷ lines, omega arith, two_parts old middle new (line_at place line) (flat_map (line_at place) lines) first rest)

pub one_line : (place old new line : List ℕ) → new ≡ old ++ line_at place line
    → new ≡ old ++ flat_map (line_at place) (line ∷ [])
one_line place old new line is = is ∙ ap (λ t. old ++ t) (sym (append-nil (line_at place line)))

pub line_alone : (place old new line : List ℕ) → new ≡ old ++ line_at place line → HasLines place old new
line_alone place old new line is = (line ∷ [], omega arith, one_line place old new line is)

-- ---- the note on a row's cells

module _ (l : Language) (options : OptionTexts) (columns : Columns) (head : List (List ℕ)) (place : List ℕ)
    (row : List (List ℕ)) (earlier : Option ℕ) where
  abbrev pub TellsCell : Cell → List ℕ → List ℕ → Type 0
  TellsCell cell old new = (lines : List (List ℕ))
      × (new ≡ old ++ flat_map (line_at (cell_place columns head place cell)) lines)
      × AreCellWords l options columns row earlier cell lines

  abbrev pub TellsMore : List Cell → List ℕ → List ℕ → Type 0
  TellsMore cells old new =
      (more : List ℕ) × (new ≡ old ++ more) × TellsCells l options columns head place row earlier cells more

  pub cell_first : (cell : Cell) (cells all : List Cell) (old middle new : List ℕ) → all ≡ cell ∷ cells
      → TellsCell cell old middle → TellsMore cells middle new → TellsMore all old new
  cell_first cell cells all old middle new split (lines, first, some) (more, rest, told) =
      let of_cell = flat_map (line_at (cell_place columns head place cell)) lines in
      let P : List Cell → Type 0 = λ cs. TellsCells l options columns head place row earlier cs (of_cell ++ more) in
      (of_cell ++ more, two_parts old middle new of_cell more first rest, subst P (sym split) (NextCell cell cells lines more some told))

  pub no_cells : (cells : List Cell) (old : List ℕ) → cells ≡ [] → TellsMore cells old old
  no_cells cells old none =
      let P : List Cell → Type 0 = λ cs. TellsCells l options columns head place row earlier cs [] in
      ([], sym (append-nil old), subst P (sym none) NoCells)

  -- a line was appended, if nothing was said of the cells of a row that is no day
  some_line : (of_cells : List ℕ) (words : List (List ℕ)) (before after : List ℕ) (is_due : Bool)
      → after ≡ before ++ of_cells → (is_due ≡ true → 0 < length words)
      → (length after ≡ length before → is_due ≡ true) → 0 < length of_cells + length words
  some_line [] words before after is_due appended some due =
      let told = some (due (ap length appended ∙ ap length (append-nil before))) in omega arith
  some_line (byte ∷ of_cells) words before after is_due appended some due = omega arith

  pub placed_told : (n1 n2 n3 : List ℕ) (is_due : Bool) → TellsMore (row_cells (row_model options columns row)) n1 n2
      → ((words : List (List ℕ)) × (n3 ≡ n2 ++ flat_map (line_at place) words) × (is_due ≡ true → 0 < length words))
      → (IsNoDay (row_values options columns row) → has_columns options columns row ≡ true → length n2 ≡ length n1
      → is_due ≡ true)
      → TellsPlacedRow l options columns head place row earlier n1 n3
  placed_told n1 n2 n3 is_due (of_cells, second, told) (words, third, some) due = record {
    of_cells = of_cells;
    words = words;
    appended = two_parts n1 n2 n3 of_cells (flat_map (line_at place) words) second third;
    cells = told;
    some = λ none has. some_line of_cells words n1 n2 is_due second some (due none has);
  }

  pub row_told : (number : ℕ) (old new : List ℕ) → place ≡ row_place l number (day_of_row columns row)
      → TellsPlacedRow l options columns head place row earlier old new
      → (more : List ℕ) × (new ≡ old ++ more) × ((numbers : List ℕ) (rows : List (List (List ℕ)))
      → IsEarlierRow columns numbers rows row earlier → TellsRow l options columns head numbers rows number row more)
  row_told number old new same told =
      let of_row = flat_map (line_at place) told.words in
      let cells = row_cells (row_model options columns row) in
      let P : List ℕ → Type 0 = λ p. TellsCells l options columns head p row earlier cells told.of_cells in (
        told.of_cells ++ of_row,
        told.appended,
        λ numbers rows is.
            record {
              earlier = earlier;
              is_earlier = is;
              of_cells = told.of_cells;
              of_row = of_row;
              words = told.words;
              joined = refl;
              cells = subst P same told.cells;
              whole = ap (λ p. flat_map (line_at p) told.words) same;
              some = told.some;
            },
      )

-- ---- tests of all rows

and_true : (b : Bool) → (b && true) ≡ b
and_true true = refl
and_true false = refl

and_assoc : (a b c : Bool) → (a && (b && c)) ≡ ((a && b) && c)
and_assoc true b c = refl
and_assoc false b c = refl

pub all_more : {A : Type 0} (p : A → Bool) (xs : List A) (x : A) → list_all p (xs ++ x ∷ []) ≡ (list_all p xs && p x)
all_more p [] x = and_true (p x)
all_more p (y ∷ xs) x = ap (λ b. p y && b) (all_more p xs x) ∙ and_assoc (p y) (list_all p xs) (p x)

pub or_false : (b : Bool) → (b || false) ≡ b
or_false true = refl
or_false false = refl

or_assoc : (a b c : Bool) → (a || (b || c)) ≡ ((a || b) || c)
or_assoc true b c = refl
or_assoc false b c = refl

pub any_more : {A : Type 0} (p : A → Bool) (xs : List A) (x : A) → list_any p (xs ++ x ∷ []) ≡ (list_any p xs || p x)
any_more p [] x = or_false (p x)
any_more p (y ∷ xs) x = ap (λ b. p y || b) (any_more p xs x) ∙ or_assoc (p y) (list_any p xs) (p x)

pub any_at : {A B : Type 0} (p : B → Bool) (f : A → B) (xs : List A) (index : ℕ) (x : A) → index < length xs
    → x ≡ get_or xs index x → p (f x) ≡ true → list_any p (map f xs) ≡ true
any_at p f [] index x within is has = absurd (omega arith)
any_at p f (y ∷ xs) zero x within is has =
    or_left (p (f y)) (list_any p (map f xs)) (ap (λ one. p (f one)) (sym is) ∙ has)
any_at p f (y ∷ xs) (suc index) x within is has =
    or_right (p (f y)) (list_any p (map f xs)) (any_at p f xs index x (omega arith) is has)

-- a template with one value
pub one_value : (template value : List ℕ)
    → filled template (value ∷ []) ≡ before_first is_gap template ++ (value ++ after_first is_gap template)
unfolding filled
one_value template value = append_assoc (before_first is_gap template) value (after_first is_gap template)

-- the line on a column that isn't read
pub unread_is : (l : Language) (head : List (List ℕ)) (place : ℕ) → is_blank (cell_at (Some place) head) ≡ false
    → is_column_read (columns_of head) place ≡ false
    → unread_line l head place ≡ unread_words l (cell_at (Some place) head)
unread_is l head place named unread = rw (named, unread) refl

-- ---- the note on a table

pub of_text : (l : Language) (options : OptionTexts) (table text old new : List ℕ) → old ≡ [] → new ≡ old ++ text
    → TellsTable l options table text → TellsTable l options table new
of_text l options table text old new none is told = rw (is, none) told

-- a line was appended, if there was none before
line_in_all : (f g : List ℕ → List ℕ) (missing : List (List ℕ)) (text : List ℕ) (words last : List (List ℕ))
    (before after : List ℕ) (is_due : Bool)
    → after ≡ before ++ (flat_map f missing ++ (text ++ flat_map g words)) → (is_due ≡ true → 0 < length last)
    → (length after ≡ length before → is_due ≡ true) → HasSomeLine missing text (words ++ last)
line_in_all f g [] [] [] last before after is_due appended some due =
    let told = some (due (ap length appended ∙ ap length (append-nil before))) in omega arith
line_in_all f g [] [] (line ∷ words) last before after is_due appended some due = omega arith
line_in_all f g [] (byte ∷ text) words last before after is_due appended some due = omega arith
line_in_all f g (line ∷ missing) text words last before after is_due appended some due = omega arith

four_parts : (a b c d : List ℕ) → a ++ (b ++ c) ++ d ≡ a ++ (b ++ (c ++ d))
four_parts a b c d = append_assoc a (b ++ c) d ∙ ap (λ t. a ++ t) (append_assoc b c d)

pub of_faults : (l : Language) (options : OptionTexts) (table : List ℕ) (head : List (List ℕ))
    (rows : List (List (List ℕ))) (n0 n1 n2 n3 : List ℕ) (is_due : Bool) → is_well_quoted table ≡ true
    → AreRows table (head ∷ rows)
    → ((missing : List (List ℕ)) × (n1 ≡ n0 ++ flat_map (line_at (text_in l FIRST_ROW)) missing)
    × (is_misnamed (columns_of head) head ≡ true → 0 < length missing)
    × (list_any (lacks_column options (columns_of head)) rows ≡ true → 0 < length missing))
    → HasRowsNote l options (columns_of head) head table rows n1 n2
    → ((last : List (List ℕ)) × (n3 ≡ n2 ++ flat_map (line_at []) last) × (is_due ≡ true → 0 < length last))
    → (length n2 ≡ length n0 → is_due ≡ true)
    → (rest : List ℕ) × (n3 ≡ n0 ++ rest) × TellsTable l options table (unread_note l head ++ rest)
of_faults l options table head rows n0 n1 n2 n3 is_due quoted are (missing, first, named, lacking) has (last, third, some) due =
    let of_missing = flat_map (line_at (text_in l FIRST_ROW)) missing in
    let of_words = flat_map (line_at []) has.words in
    let of_last = flat_map (line_at []) last in
    let words = has.words ++ last in
    let second = two_parts n0 n1 n2 of_missing (has.text ++ of_words) first has.appended in
    let all = two_parts n0 n2 n3 (of_missing ++ (has.text ++ of_words)) of_last second third in
    let joined : of_missing ++ (has.text ++ of_words) ++ of_last ≡ of_missing ++ (has.text ++ flat_map (line_at []) words) =
    four_parts of_missing has.text of_words of_last
    ∙ ap (λ t. of_missing ++ (has.text ++ t)) (sym (flat_map-append (line_at []) has.words last)) in (
      of_missing ++ (has.text ++ flat_map (line_at []) words),
      all ∙ ap (λ t. n0 ++ t) joined,
      OfRows head rows missing has.text words quoted are has.told
          (λ is. let told = has.empty is in omega (arith, length-append has.words last)) named lacking
          (line_in_all (line_at (text_in l FIRST_ROW)) (line_at []) missing has.text has.words last n0 n2 is_due second
          some due),
    )
