-- The first of a file's faults is the fault of its reading.
use Rattle.std.proofs.Common.{◌≡◌, true, false, List, Option, Some, None, Result, Ok, ap, sym, arith}
use Rattle.std.proofs.Common.{is_some, ok_or, refl, if◌then◌else◌}
use Rattle.std.specs.Option.{option_and_then}
use Rattle.std.specs.Result.{result_err}
use Rattle.toml.specs.Data.{Data, Members, get_member}
use Rattle.kd_sheet.specs.Document.{◌>>=◌, as_items, read_at, read_items}
use Rattle.kd_sheet.specs.Sheet.{month_of}
use Rattle.kd_sheet.specs.Key.{key_name}
use Rattle.kd_sheet.specs.SheetFile.{day_for, sheet_in}
use Rattle.kd_sheet.specs.declared.key.Key.{Key}
use Rattle.kd_sheet.specs.declared.key.Key.TheVariants as keys
use Rattle.kd_sheet.specs.declared.fault.SheetFault.{SheetFault}
use Rattle.kd_sheet.specs.declared.fault.SheetFault.TheVariants.{BadValue, Missing}
use Rattle.kd_findings.specs.declared.key_place.KeyPlace.{KeyPlace}
use Rattle.kd_findings.specs.Faults.{first_fault, machine_faults}
use Rattle.kd_findings.specs.Kind.{entries_of, is_machine_file}
use Rattle.kd_findings.specs.SheetFaults.{AreFaultsOf, file_fault}
use Rattle.kd_findings.proofs.FirstFault.{of_form, of_machine}
use Rattle.kd_findings.proofs.FirstSheetFault.{of_sheet}

-- the array at a key, if the table has it, is what is read there
array_read : (key : Key) (value : Option Data) (items : List Data) → option_and_then as_items value ≡ Some items
    → (absent wrong : SheetFault) → (ok_or value absent >>= (λ value. ok_or (as_items value) wrong)) ≡ Ok items
array_read key None items is absent wrong = grind (arith, is)
array_read key (Some found) items is absent wrong = ap (λ list. ok_or list wrong) is

-- the reading of an array that isn't there has a fault, whatever follows
no_array : {A : Type 0} (value : Option Data) (next : List Data → Result A SheetFault)
    → option_and_then as_items value ≡ None
    → result_err ((ok_or value (Missing keys.Day) >>= (λ found. ok_or (as_items found) (BadValue keys.Day))) >>= next)
    ≡ Some (if is_some value then BadValue keys.Day else Missing keys.Day)
no_array None next none = refl
no_array (Some found) next none = rw none refl

-- the first of the entries' faults, or the fault at `day`, is the fault of the reading of a key sheet
first_of_entries : (document : Members) (entries : Option (List Data)) (faults : List (KeyPlace × SheetFault))
    → entries_of document ≡ entries → AreFaultsOf false entries document faults
    → first_fault faults ≡ result_err (sheet_in document)
first_of_entries document (Some items) faults has are =
    let entries : read_at keys.Day as_items document ≡ Ok items = array_read keys.Day _ items has _ _ in
    rw entries (of_form faults (read_items day_for items) month_of (of_sheet items faults are)).first
first_of_entries document None faults has are =
    let reading = no_array (get_member (key_name keys.Day) document) (read_items day_for) has in
    (of_form faults (read_at keys.Day as_items document >>= read_items day_for) month_of
    (record { first = rw are (sym reading) })).first

pub first_of_sheet : (document : Members) (faults : List (KeyPlace × SheetFault)) → is_machine_file document ≡ false
    → AreFaultsOf false (entries_of document) document faults → first_fault faults ≡ file_fault document
first_of_sheet document faults other are = rw other (first_of_entries document (entries_of document) faults refl are)

pub first_of_machine : (document : Members) → is_machine_file document ≡ true
    → first_fault (machine_faults document) ≡ file_fault document
first_of_machine document is = rw is (of_machine document).first
