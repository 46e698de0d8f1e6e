-- The answer for a spreadsheet's table, as a refusal.
use Rattle.std.proofs.Common.{◌≡◌, ℕ, List, Result, Ok, Err, refl}
use Rattle.kd_language.specs.declared.language.Language.{Language}
use Rattle.kd_tables.specs.Ports.{Port}
use Rattle.kd_tables.specs.declared.ports.write_fault.WriteFault.{WriteFault}
use Rattle.kd_tables.specs.declared.ports.write_fault.WriteFault.TheVariants.{Device, Unwritten}
use Rattle.kd_tables.specs.Writing.{TakesPrefix}
use Rattle.kd_state.specs.SheetDay.{Day}
use Rattle.kd_sheet.specs.SheetText.{sheet_text}
use Rattle.kd_spreadsheet.specs.Notes.{HasNotesOn, Tells, table_fault}
use Rattle.kd_options.specs.TableOptions.{OptionTexts}
use Rattle.kd_spreadsheet.specs.Table.{IsRefusedTable, TableMeans}
use Rattle.kd_spreadsheet.specs.declared.fault.SpreadsheetFault.{SpreadsheetFault}
use Rattle.kd_spreadsheet.specs.declared.fault.SpreadsheetFault.TheVariants as spreadsheets
use Rattle.kd_curator.specs.Notes.{HasTableNotes}
use Rattle.kd_curator.specs.Refusals.{refused_by, refused_table}
use Rattle.kd_curator.specs.Sheets.{MakesSheet, Sheet, Faulty, NoMemory}
use Rattle.kd_curator.specs.declared.fault.Refused.{Refused}

-- the days of the sheet of which a prefix was written
abbrev pub StopsAt : OptionTexts → List ℕ → Port → Type 0
StopsAt options table sink =
    (days : List Day) × TableMeans options table days × TakesPrefix sink.had sink.has (sheet_text days)

-- what `run_sheet` returns
abbrev pub Told : Type 0
Told = Result (Unit {0}) (WriteFault SpreadsheetFault)

pub not_made : (options : OptionTexts) (table : List ℕ) (sink : Port) (fault : WriteFault SpreadsheetFault)
    → (◌≡◌ {A = Told} (Err fault) (Err (Unwritten spreadsheets.Refused)) → IsRefusedTable options table)
    → (◌≡◌ {A = Told} (Err fault) (Err Device) → StopsAt options table sink)
    → MakesSheet options table sink (Err (refused_by refused_table fault))
not_made options table sink (Unwritten spreadsheets.Refused) refused stops = Faulty (refused refl) refl
not_made options table sink (Unwritten spreadsheets.NoMemory) refused stops = NoMemory refl
not_made options table sink Device refused stops =
    let at = stops refl in
    Sheet at.0 at.1 tt (record { written = record { whole = tt; front = at.2 }; device = refl })

abbrev pub sheet_answer : Told → Result (Unit {0}) Refused
sheet_answer (Ok done) = Ok tt
sheet_answer (Err fault) = Err (refused_by refused_table fault)

-- the notes of `run_sheet` are those of the command
pub notes_made : (l : Language) (options : OptionTexts) (table : List ℕ) (notes : Port) (told : Told)
    → HasNotesOn l options table (table_fault told) notes → Tells notes
    → HasTableNotes l options table (sheet_answer told) notes
notes_made l options table notes (Ok done) noted tells = record { noted = noted; tells = tells }
notes_made l options table notes (Err (Unwritten spreadsheets.Refused)) noted tells =
    record { noted = noted; tells = tells }
notes_made l options table notes (Err (Unwritten spreadsheets.NoMemory)) noted tells =
    record { noted = noted; tells = tells }
notes_made l options table notes (Err Device) noted tells = record { noted = noted; tells = tells }
