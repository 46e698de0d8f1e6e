-- What the rows of a table make of the table.
use Rattle.std.proofs.Common.{◌≡◌, ◌∙◌, ◌⊎◌, inl, inr, Err, Result, ℕ, true, false, List, [], ◌∷◌, ◌++◌, Ok, append_assoc, sym, subst, arith}
use Rattle.kd_language.specs.declared.language.Language.{Language}
use Rattle.kd_tables.specs.declared.ports.write_fault.WriteFault.{WriteFault}
use Rattle.kd_tables.specs.declared.ports.write_fault.WriteFault.TheVariants.{Unwritten}
use Rattle.kd_state.specs.SheetDay.{Day, IsLegalDay, day_number}
use Rattle.std.proofs.lemmas.List.{append-nil}
use Rattle.kd_sheet.proofs.Days.{sheet_again}
use Rattle.kd_sheet.specs.SheetText.{AreSheetDays, sheet_text}
use Rattle.kd_sheet.specs.{SheetFile.sheet_of, Sheet.month_of}
use Rattle.kd_spreadsheet.specs.Columns.{columns_of}
use Rattle.kd_spreadsheet.specs.Rows.{is_well_quoted}
use Rattle.kd_spreadsheet.specs.Notes.{IsTaken, IsTakenOfRows}
use Rattle.kd_spreadsheet.specs.Table.{AreRefusedRows, AreRows, TableMeans, IsRefusedTable, Misnamed, RefusedRow, NoDays, AreDaysOfRows, BlankRow, DayRow, NoRows, is_taken}
use Rattle.kd_spreadsheet.specs.declared.columns.Columns.{Columns}
use Rattle.kd_spreadsheet.specs.declared.fault.SpreadsheetFault.{SpreadsheetFault}
use Rattle.kd_spreadsheet.specs.declared.fault.SpreadsheetFault.TheVariants.{NoMemory, Refused}
use Rattle.kd_options.specs.TableOptions.{OptionTexts}

module _ (options : OptionTexts) (table : List ℕ) where
  -- what the rows mean, the table means
  pub taken_of_rows : (l : Language) (head : List (List ℕ)) (rows : List (List (List ℕ))) (days : List Day)
      (note : List ℕ) → is_well_quoted table ≡ true → AreRows table (head ∷ rows)
      → IsTakenOfRows l options head rows days note → IsTaken l options table days note
  taken_of_rows l head rows days note quoted are is = record {
    means = record {
      quoted = quoted;
      head = head;
      rows = rows;
      are = are;
      named = is.named;
      described = is.described;
      some = is.some;
    };
    head = head;
    has = (rows, are);
    is = is.is;
  }

  pub refused_of_rows : (head : List (List ℕ)) (rows : List (List (List ℕ))) → AreRows table (head ∷ rows)
      → AreRefusedRows options head rows → IsRefusedTable options table
  refused_of_rows head rows are refused = elim refused [
    | inl misnamed ↦ Misnamed head rows are misnamed
    | inr why ↦ elim why [
      | inl has ↦ RefusedRow head rows are has
      | inr none ↦ NoDays head rows are none
    ]
  ]

-- days of rows are days of a sheet: each is legal, and has its own number
sheet_days_more : (earlier days : List Day) (day : Day) → AreSheetDays earlier days → IsLegalDay day
    → is_taken (earlier ++ days) (day_number day) ≡ false → AreSheetDays earlier (days ++ day ∷ [])
sheet_days_more earlier [] day are legal free =
    let P : List Day → Type 0 = λ ds. is_taken ds (day_number day) ≡ false in ((legal, subst P (append-nil earlier) free), tt)
sheet_days_more earlier (first ∷ days) day are legal free =
    let P : List Day → Type 0 = λ ds. is_taken ds (day_number day) ≡ false in (
      are.0,
      sheet_days_more (earlier ++ first ∷ []) days day are.1 legal
          (subst P (sym (append_assoc earlier (first ∷ []) days)) free),
    )

sheet_days : (options : OptionTexts) (columns : Columns) (rows : List (List (List ℕ))) (days : List Day)
    → AreDaysOfRows options columns rows days → AreSheetDays [] days
sheet_days options columns _ _ NoRows = tt
sheet_days options columns _ _ (BlankRow rows days row are blank) = sheet_days options columns rows days are
sheet_days options columns _ _ (DayRow rows days row day are filled is free) =
    sheet_days_more [] days day (sheet_days options columns rows days are) is.legal free

-- the sheet written for a table's days is read as exactly these days
pub read_back : (options : OptionTexts) (table : List ℕ) (days : List Day) → TableMeans options table days
    → sheet_of (sheet_text days) ≡ Ok (month_of days)
read_back options table [] means = let some = means.some in absurd (omega arith)
read_back options table (day ∷ days) means =
    sheet_again day days (sheet_days options (columns_of means.head) means.rows (day ∷ days) means.described)

-- ---- a fault that is kept

pub same_fault : {T : Type 0} (one other : SpreadsheetFault)
    → ◌≡◌ {A = Result T (WriteFault SpreadsheetFault)} (Err (Unwritten one)) (Err (Unwritten other)) → one ≡ other
same_fault one other same = cc

-- a table that is refused in the end was refused at first, if only want of memory comes between
pub still_refused : (fault told : SpreadsheetFault) → (told ≡ fault) ⊎ (told ≡ NoMemory) → told ≡ Refused
    → fault ≡ Refused
still_refused fault told (inl is) same = sym is ∙ same
still_refused fault told (inr none) same = absurd (let wrong : Refused ≡ NoMemory = sym same ∙ none in cc)
