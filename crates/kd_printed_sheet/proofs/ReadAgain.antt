-- The table that is written of a sheet is read as exactly the sheet's days.
use Rattle.std.proofs.Common.{◌≡◌, ◌<◌, ◌≤◌, ◌+◌, ◌==◌, ◌||◌, ◌++◌, ◌∷◌, ◌∙◌, [], ℕ, zero, suc, Bool, true, false, List, None, Ok, Option, Some, ap, ap₂, append_assoc, arith, find, inl, inr, is_some, length, map, refl, subst, sym}
use Rattle.std.specs.Prelude.{flat_map, if◌then◌else◌}
use Rattle.std.specs.Bool.{MatchBool}
use Rattle.std.specs.List.{AllByRecursion, list_any, range_with_len}
use Rattle.std.proofs.lemmas.Bool.{cases_eq, eq-eqb, ne_eqb}
use Rattle.std.proofs.lemmas.List.{append-nil}
use Rattle.std.proofs.Math.Bool.{or-true}
unfoldable use Rattle.csv.specs.Reading.{strip_bom}
use Rattle.kd_state.specs.SheetDay.{Day, IsDayNumber, IsLegalDay, Pin, Rotor, day_number}
use Rattle.kd_tables.specs.declared.model.Model.TheVariants.{M209}
use Rattle.kd_sheet.proofs.ReadBack.Described.{day_of_month, days_are_the_entries, sheet_of-legal}
use Rattle.kd_sheet.proofs.ReadBack.Described.KeyValues.Steps.{Ok-injective, bind-Ok}
use Rattle.kd_sheet.specs.Document.{as_items, document_of, read_at, read_items, ◌>>=◌}
use Rattle.kd_sheet.specs.Sheet.{day_of, month_of}
use Rattle.kd_sheet.specs.SheetFile.{day_for, sheet_in, sheet_of}
use Rattle.kd_sheet.specs.declared.key.Key.TheVariants as keys
use Rattle.kd_spreadsheet.specs.Columns.{columns_of}
use Rattle.kd_options.specs.TableOptions.{OptionTexts}
use Rattle.kd_spreadsheet.specs.Row.{is_blank_row, row_values}
use Rattle.kd_spreadsheet.specs.Rows.{is_well_quoted}
use Rattle.kd_spreadsheet.specs.Table.{AreDaysOfRows, AreRows, DayRow, IsRefusedTable, NoDays, NoRows, TableMeans, is_taken}
use Rattle.kd_printed_sheet.proofs.PinRows.{pin_cells, pin_line_is, pin_plain, pin_row, pin_seen}
use Rattle.kd_printed_sheet.proofs.PlainCells.{IsPlainRow, line, lines, lines_may_end, rows_are}
use Rattle.kd_printed_sheet.proofs.RotorRows.{rotor_cells, rotor_line_is, rotor_plain, rotor_row, rotor_seen}
use Rattle.kd_printed_sheet.proofs.TableHead.{columns_are, head_cells, head_is, head_plain, table_columns, well_named}
unfoldable use Rattle.kd_printed_sheet.specs.CsvTable.{csv_text, has_lists}
use Rattle.kd_printed_sheet.specs.CsvTable.{day_line, head_line}
unfoldable use Rattle.kd_sheet.specs.Sheet.{has_day_of}
use Rattle.kd_printed_sheet.specs.Days.{has_days}
use Rattle.kd_printed_sheet.specs.ReadAgain.{MeansMonth, TablesAreReadBack}

-- ---- a day

cells_of : Bool → Day → List (List ℕ)
cells_of lists (Rotor day) = rotor_cells lists day
cells_of lists (Pin day) = pin_cells day

-- the table has the columns that the day needs
abbrev HasColumns : Bool → Day → Type 0
HasColumns lists (Rotor day) = Unit {0}
HasColumns lists (Pin day) = lists ≡ true

-- the day is legal, and the table has the columns that it needs
record IsListed (lists : Bool) (day : Day) : Type 0 where
  legal : IsLegalDay day
  columns : HasColumns lists day

-- What a reader sees of a day's row.
record IsRowOf (options : OptionTexts) (lists : Bool) (day : Day) : Type 0 where
  text : (tail : List ℕ) → day_line lists (Some day) ++ tail ≡ line (cells_of lists day) tail
  plain : IsPlainRow (cells_of lists day)
  filled : is_blank_row (table_columns lists) (cells_of lists day) ≡ false
  values : row_values options (table_columns lists) (cells_of lists day) ≡ Some day

row_of_day : (options : OptionTexts) (lists : Bool) (day : Day) → IsListed lists day → IsRowOf options lists day
unfolding cells_of
row_of_day options lists (Rotor day) is = record {
  text = rotor_line_is lists day;
  plain = rotor_plain lists day is.legal;
  filled = rotor_seen lists day is.legal;
  values = rotor_row options lists day is.legal;
}
row_of_day options true (Pin day) is = record {
  text = pin_line_is day;
  plain = pin_plain day is.legal;
  filled = pin_seen day is.legal;
  values = pin_row options day is.legal;
}
row_of_day options false (Pin day) is = cc (is.columns)

-- ---- the days of a month, in the order of `numbers`

abbrev listed : Option Day → List Day → List Day
listed None days = days
listed (Some day) days = day ∷ days

abbrev present : List (Option Day) → List ℕ → List Day
present month [] = []
present month (number ∷ numbers) = listed (day_of month number) (present month numbers)

module _ (options : OptionTexts) (lists : Bool) (month : List (Option Day))
    (is : (number : ℕ) (day : Day) → day_of month number ≡ Some day → IsListed lists day)
    (at : (number : ℕ) (day : Day) → day_of month number ≡ Some day → day_number day ≡ number) where
  -- ---- the text

  next_line : (number : ℕ) (found : Option Day) (text : List ℕ) (days : List Day) → day_of month number ≡ found
      → text ≡ lines (map (cells_of lists) days)
      → day_line lists found ++ text ≡ lines (map (cells_of lists) (listed found days))
  next_line number None text days here same = same
  next_line number (Some day) text days here same =
      (row_of_day options lists day (is number day here)).text text ∙ ap (line (cells_of lists day)) same

  body_is : (numbers : List ℕ) → flat_map (λ number. day_line lists (day_of month number)) numbers
      ≡ lines (map (cells_of lists) (present month numbers))
  body_is [] = refl
  body_is (number ∷ numbers) =
      next_line number (day_of month number) _ (present month numbers) refl (body_is numbers)

  next_plain : (number : ℕ) (found : Option Day) (days : List Day) → day_of month number ≡ found
      → AllByRecursion IsPlainRow (map (cells_of lists) days)
      → AllByRecursion IsPlainRow (map (cells_of lists) (listed found days))
  next_plain number None days here plain = plain
  next_plain number (Some day) days here plain = ((row_of_day options lists day (is number day here)).plain, plain)

  body_plain : (numbers : List ℕ) → AllByRecursion IsPlainRow (map (cells_of lists) (present month numbers))
  body_plain [] = tt
  body_plain (number ∷ numbers) =
      next_plain number (day_of month number) (present month numbers) refl (body_plain numbers)

  -- ---- the days

  abbrev AreBefore : ℕ → List Day → Type 0
  AreBefore number days = AllByRecursion (λ day. day_number day < number) days

  free : (number : ℕ) (days : List Day) → AreBefore number days → is_taken days number ≡ false
  free number [] before = refl
  free number (day ∷ days) before =
      let earlier = before.0 in
      rw (ne_eqb (day_number day) number (λ e. omega arith), free number days before.1) refl

  later : (number : ℕ) (days : List Day) → AreBefore number days → AreBefore (number + 1) days
  later number [] before = tt
  later number (day ∷ days) before =
      let earlier = before.0 in (omega arith, later number days before.1)

  one_more : (number : ℕ) (days : List Day) (day : Day) → AreBefore number days → day_number day ≡ number
      → AreBefore (number + 1) (days ++ day ∷ [])
  one_more number [] day before here = (omega arith, tt)
  one_more number (first ∷ days) day before here =
      let earlier = before.0 in (omega arith, one_more number days day before.1 here)

  abbrev Described : List (List (List ℕ)) → List Day → Type 0
  Described rows days = AreDaysOfRows options (table_columns lists) rows days

  day_described : (number : ℕ) (day : Day) (rows : List (List (List ℕ))) (days : List Day)
      → day_of month number ≡ Some day → Described rows days → AreBefore number days
      → Described (rows ++ cells_of lists day ∷ []) (days ++ day ∷ [])
  day_described number day rows days here described before =
      let legal = is number day here in
      let row = row_of_day options lists day legal in
      DayRow rows days (cells_of lists day) day described row.filled
      (record { values = row.values; legal = legal.legal })
      (rw (at number day here) (free number days before))

  -- the rows so far, and then the rows of more days
  abbrev DescribedWith : List Day → List (List (List ℕ)) → List Day → Type 0
  DescribedWith more rows days = Described (rows ++ map (cells_of lists) more) (days ++ more)

  next_described : (start : ℕ) (found : Option Day) (more : List Day) (rows : List (List (List ℕ))) (days : List Day)
      → day_of month start ≡ found → Described rows days → AreBefore start days
      → ((others : List (List (List ℕ))) (earlier : List Day) → Described others earlier → AreBefore (start + 1) earlier
      → DescribedWith more others earlier)
      → DescribedWith (listed found more) rows days
  next_described start None more rows days here so_far before rest = rest rows days so_far (later start days before)
  next_described start (Some day) more rows days here so_far before rest =
      let others = rest (rows ++ cells_of lists day ∷ []) (days ++ day ∷ [])
      (day_described start day rows days here so_far before)
      (one_more start days day before (at start day here)) in
      rw (append_assoc rows (cells_of lists day ∷ []) (map (cells_of lists) more), append_assoc days (day ∷ []) more) at others

  described : (count start : ℕ) (rows : List (List (List ℕ))) (days : List Day) → Described rows days
      → AreBefore start days → DescribedWith (present month (range_with_len start count)) rows days
  described zero start rows days so_far before = rw (append-nil rows, append-nil days) so_far
  described (suc count) start rows days so_far before =
      next_described start (day_of month start) (present month (range_with_len (start + 1) count)) rows days refl so_far before
      (λ others earlier is_so before_next. described count (start + 1) others earlier is_so before_next)

  -- ---- the month again

  abbrev has_number : ℕ → Day → Bool
  has_number number day = day_number day == number

  found_here : (number place : ℕ) (found : Option Day) (days : List Day) (others : Bool) → place ≡ number
      → day_of month place ≡ found
      → find (has_number number) days ≡ (if others then day_of month number else None)
      → find (has_number number) (listed found days) ≡ day_of month number
  found_here number place None days true same here rest = rest
  found_here number place None days false same here rest = rest ∙ sym (ap (day_of month) (sym same) ∙ here)
  found_here number place (Some day) days others same here rest =
      rw (eq-eqb (day_number day) number (at place day here ∙ same)) (sym (ap (day_of month) (sym same) ∙ here))

  found_later : (number place : ℕ) (found : Option Day) (days : List Day) → (place ≡ number → ⊥)
      → day_of month place ≡ found → find (has_number number) (listed found days) ≡ find (has_number number) days
  found_later number place None days differs here = refl
  found_later number place (Some day) days differs here =
      rw (ne_eqb (day_number day) number (λ e. differs (sym (at place day here) ∙ e))) refl

  find_next : (number place : ℕ) (days : List Day) (others : Bool)
      → find (has_number number) days ≡ (if others then day_of month number else None)
      → find (has_number number) (listed (day_of month place) days)
      ≡ (if (place == number) || others then day_of month number else None)
  find_next number place days others rest = elim (cases_eq place number) [
    | inl same ↦ rw (eq-eqb place number same) (found_here number place (day_of month place) days others same refl rest)
    | inr differs ↦ rw (ne_eqb place number differs)
        (found_later number place (day_of month place) days differs refl ∙ rest)
  ]

  find_present : (number : ℕ) (numbers : List ℕ) → find (has_number number) (present month numbers)
      ≡ (if list_any (λ place. place == number) numbers then day_of month number else None)
  find_present number [] = refl
  find_present number (place ∷ numbers) =
      find_next number place (present month numbers) (list_any (λ place. place == number) numbers)
      (find_present number numbers)

-- ---- numbers in a row

in_range : (p : ℕ → Bool) (count start number : ℕ) → start ≤ number → number < start + count → p number ≡ true
    → list_any p (range_with_len start count) ≡ true
in_range p zero start number low high holds = absurd (omega arith)
in_range p (suc count) start number low high holds = elim (cases_eq start number) [
  | inl same ↦ rw (ap p same ∙ holds) refl
  | inr differs ↦
      let rest = in_range p count (start + 1) number (omega arith) (omega arith) holds in rw (rest, or-true) refl
]

same_maps : {X : Type 0} (f g : ℕ → X) (count start : ℕ)
    → ((number : ℕ) → start ≤ number → number < start + count → f number ≡ g number)
    → map f (range_with_len start count) ≡ map g (range_with_len start count)
same_maps f g zero start same = refl
same_maps f g (suc count) start same =
    ap₂ (λ x xs. x ∷ xs) (same start (omega arith) (omega arith))
    (same_maps f g count (start + 1) (λ number low high. same number (omega arith) (omega arith)))

-- ---- a sheet's month

-- What is known of the month of a sheet.
record IsRead (month : List (Option Day)) : Type 0 where
  days : List Day
  made : month_of days ≡ month
  at : (number : ℕ) (day : Day) → day_of month number ≡ Some day → day_number day ≡ number
  legal : (number : ℕ) (day : Day) → day_of month number ≡ Some day → IsLegalDay day

read_month : (sheet : List ℕ) (month : List (Option Day)) → sheet_of sheet ≡ Ok month → IsRead month
read_month sheet month e =
    let table = bind-Ok (document_of sheet) sheet_in month e in
    let days = bind-Ok (read_at keys.Day as_items table.0 >>= read_items day_for) _ month table.2 in
    let items = bind-Ok (read_at keys.Day as_items table.0) (read_items day_for) days.0 days.1 in
    let same : month_of days.0 ≡ month = Ok-injective _ _ days.2 in
    record {
      days = days.0;
      made = same;
      at = λ number day found. ((days_are_the_entries items.0 days.0 number day items.2).0 (rw same found)).3;
      legal = λ number day found. sheet_of-legal sheet month number day e found;
    }

day_number_within : (day : Day) → IsLegalDay day → IsDayNumber (day_number day)
day_number_within (Rotor day) legal = legal.day
day_number_within (Pin day) legal = legal.day

lists_needed : (month : List (Option Day)) (number : ℕ) (day : Day) → IsDayNumber number
    → day_of month number ≡ Some day → HasColumns (has_lists month) day
unfolding has_lists has_day_of
lists_needed month number (Rotor day) within here = tt
lists_needed month number (Pin day) within here =
    let first = within.first in
    let last = within.last in
    in_range (has_day_of M209 month) 31 1 number first (omega arith) (rw here refl)

module _ (options : OptionTexts) (month : List (Option Day)) (read : IsRead month) where
  abbrev numbers : List ℕ
  numbers = range_with_len 1 31

  all_listed : (number : ℕ) (day : Day) → day_of month number ≡ Some day → IsListed (has_lists month) day
  all_listed number day here =
      let legal = read.legal number day here in
      let within = subst IsDayNumber (read.at number day here) (day_number_within day legal) in
      record { legal = legal; columns = lists_needed month number day within here }

  same_month : month_of (present month numbers) ≡ month
  same_month =
      same_maps (λ number. find (λ day. day_number day == number) (present month numbers))
      (λ number. find (λ day. day_number day == number) read.days) 31 1 (λ number low high.
      let last : number ≤ 31 = omega arith in
      let among : list_any (λ place. place == number) numbers ≡ true =
      in_range (λ place. place == number) 31 1 number low high (eq-eqb number number refl) in
      find_present options (has_lists month) month all_listed read.at number numbers
      ∙ rw among (ap (λ m. day_of m number) (sym read.made)
      ∙ day_of_month read.days number (record { first = low; last = last })))
      ∙ read.made

  abbrev body : List (List (List ℕ))
  body = map (cells_of (has_lists month)) (present month numbers)

  abbrev rows : List (List (List ℕ))
  rows = head_cells (has_lists month) ∷ body

  text_is : csv_text month ≡ lines rows
  unfolding csv_text
  text_is =
      ap (λ text. head_line (has_lists month) ++ text) (body_is options (has_lists month) month all_listed read.at numbers)
      ∙ head_is (has_lists month) (lines body)

  plain : AllByRecursion IsPlainRow rows
  plain = (
    head_plain (has_lists month),
    body_plain options (has_lists month) month all_listed read.at numbers,
  )

  quoted : is_well_quoted (lines rows) ≡ true
  unfolding strip_bom
  quoted = lines_may_end rows plain

  are_rows : AreRows (lines rows) rows
  unfolding strip_bom
  are_rows = rows_are rows plain

  all_described : AreDaysOfRows options (columns_of (head_cells (has_lists month))) body (present month numbers)
  all_described =
      rw (columns_are (has_lists month))
      (described options (has_lists month) month all_listed read.at 31 1 [] [] NoRows tt)

  means : 0 < length (present month numbers) → MeansMonth options (csv_text month) month
  means some =
      let table : TableMeans options (lines rows) (present month numbers) = record {
        quoted = quoted;
        head = head_cells (has_lists month);
        rows = body;
        are = are_rows;
        named = well_named (has_lists month);
        described = all_described;
        some = some;
      } in
      record {
        days = present month numbers;
        means = subst (λ text. TableMeans options text (present month numbers)) (sym text_is) table;
        same_month = same_month;
      }

  refused : present month numbers ≡ [] → IsRefusedTable options (csv_text month)
  refused none =
      let described = subst (AreDaysOfRows options (columns_of (head_cells (has_lists month))) body) none all_described in
      subst (IsRefusedTable options) (sym text_is) (NoDays (head_cells (has_lists month)) body are_rows described)

-- ---- whether there are days

next_some : (found : Option Day) (days : List Day) (more : Bool) → (is_some found || more) ≡ true
    → (more ≡ true → 0 < length days) → 0 < length (listed found days)
next_some None days more e rest = rest e
next_some (Some day) days more e rest = omega arith

next_none : (found : Option Day) (days : List Day) (more : Bool) → (is_some found || more) ≡ false
    → (more ≡ false → days ≡ []) → listed found days ≡ []
next_none None days more e rest = rest e
next_none (Some day) days more e rest = cc e

some_present : (month : List (Option Day)) (numbers : List ℕ)
    → list_any (λ number. is_some (day_of month number)) numbers ≡ true → 0 < length (present month numbers)
some_present month [] e = cc e
some_present month (number ∷ numbers) e =
    next_some (day_of month number) (present month numbers) _ e (some_present month numbers)

none_present : (month : List (Option Day)) (numbers : List ℕ)
    → list_any (λ number. is_some (day_of month number)) numbers ≡ false → present month numbers ≡ []
none_present month [] e = refl
none_present month (number ∷ numbers) e =
    next_none (day_of month number) (present month numbers) _ e (none_present month numbers)

-- ---- the law

by_days : (options : OptionTexts) (month : List (Option Day)) → IsRead month → (some : Bool) → has_days month ≡ some
    → MatchBool some (MeansMonth options (csv_text month) month) (IsRefusedTable options (csv_text month))
by_days options month read true some = means options month read (some_present month (range_with_len 1 31) some)
by_days options month read false none = refused options month read (none_present month (range_with_len 1 31) none)

pub tables_are_read_back : TablesAreReadBack
tables_are_read_back options sheet month read =
    by_days options month (read_month sheet month read) (has_days month) refl
