-- The faults of a key sheet: one for each key whose value the desk refuses. The entries come in the order of the file.
-- The keys of an entry come in the order in which the desk tests them. The desk itself stops at a sheet's first fault.
-- Here, the later entries are judged, too.
-- Test: tests/cases/curator-look.toml
use Rattle.std.specs.Prelude.{◌≡◌, ◌⊎◌, ℕ, ◌+◌, ◌≤◌, ◌==◌, Bool, false, not, List, [], ◌∷◌, ◌++◌, length, take}
use Rattle.std.specs.Prelude.{Option, Some, None, Result, Ok, true, if◌then◌else◌}
use Rattle.std.specs.List.{list_any}
use Rattle.std.specs.Option.{option_and_then, option_map_or}
use Rattle.std.specs.Result.{result_err, result_ok}
use Rattle.toml.specs.Data.{Data, Members, as_table}
use Rattle.kd_tables.specs.Tables.{by_family, family_of, slots_of}
use Rattle.kd_tables.specs.declared.model.Model.{Model}
use Rattle.kd_sheet.specs.Bars.{rows_in}
use Rattle.kd_sheet.specs.Cables.{pairs_in}
use Rattle.kd_sheet.specs.Document.{◌>>=◌, ◌>>◌, demand, read_at}
use Rattle.kd_sheet.specs.Letters.{letters_at}
use Rattle.kd_sheet.specs.MachineFile.{machine_in, model_in, reflector_in}
use Rattle.kd_sheet.specs.Numbers.{number_up_to}
use Rattle.kd_sheet.specs.PinWheels.{shown_letters_in, pins_in}
use Rattle.kd_sheet.specs.SheetFile.{groups_in, rings_of, sheet_in}
use Rattle.kd_sheet.specs.Slots.{slots_in}
use Rattle.kd_sheet.specs.declared.key.Key.{Key}
use Rattle.kd_sheet.specs.declared.key.Key.TheVariants as keys
use Rattle.kd_sheet.specs.declared.fault.SheetFault.{SheetFault}
use Rattle.kd_sheet.specs.declared.fault.SheetFault.TheVariants.{BadValue, DayTwice, Missing}
use Rattle.kd_findings.specs.Faults.{after_model, at_key, fault_at, in_file, machine_faults}
use Rattle.kd_findings.specs.Kind.{entries_of, is_given, is_machine_file}
use Rattle.kd_findings.specs.declared.key_place.KeyPlace.{KeyPlace}

-- The place of `key` in entry `entry` of a key sheet. Entries are counted from 1. `day` is the entry's day, if it can
-- be read.
abbrev pub in_entry : ℕ → Option ℕ → Key → KeyPlace
in_entry entry day key = record { entry = Some entry; day = day; key = key }

-- the day of an entry, or the fault of the key `day`
abbrev pub number_in : Members → Result ℕ SheetFault
number_in table = read_at keys.Day (number_up_to 31) table

-- whether `item` is an entry for the day `number`
abbrev pub has_number : ℕ → Data → Bool
has_number number item =
    option_map_or (λ day. day == number) (option_and_then (λ table. result_ok (number_in table)) (as_table item)) false

-- The day of an entry, or the fault of the key `day`. If an earlier entry has the same day, this is a fault, too.
unfoldable pub new_day : List Data → Members → Result ℕ SheetFault
new_day earlier table = do
  number ← number_in table
  demand (not (list_any (has_number number) earlier)) (DayTwice number)
  Ok number

-- the faults of an entry for a rotor machine, at all its keys except `day` and `model`
unfoldable pub rotor_day_faults : KeyPlace → Model → Members → List (KeyPlace × SheetFault)
rotor_day_faults place model table =
    fault_at (at_key place keys.Reflector) (reflector_in model table)
    ++ (fault_at (at_key place keys.Wheels) (slots_in keys.Wheels model table)
    ++ (fault_at (at_key place keys.Rings) (read_at keys.Rings (rings_of (slots_of model)) table)
    ++ (fault_at (at_key place keys.Window) (letters_at keys.Window (slots_of model) table)
    ++ (fault_at (at_key place keys.Plugs) (pairs_in table) ++ fault_at (at_key place keys.Groups) (groups_in table)))))

-- the faults of an entry for a Converter, at all its keys except `day` and `model`
unfoldable pub pin_day_faults : KeyPlace → Members → List (KeyPlace × SheetFault)
pin_day_faults place table =
    fault_at (at_key place keys.Rows) (rows_in table)
    ++ (fault_at (at_key place keys.Pins) (pins_in table)
    ++ (fault_at (at_key place keys.Window) (shown_letters_in keys.Window table)
    ++ fault_at (at_key place keys.List) (letters_at keys.List 2 table)))

abbrev pub model_day_faults : KeyPlace → Members → Model → List (KeyPlace × SheetFault)
model_day_faults place table model =
    by_family (rotor_day_faults place model table) (pin_day_faults place table) (family_of model)

-- the place of an entry's key `day`; `earlier` has the items before this entry in the sheet's list of entries
abbrev pub day_place : List Data → Members → KeyPlace
day_place earlier table = in_entry (length earlier + 1) (result_ok (number_in table)) keys.Day

-- the faults of an entry that is a table; `earlier` has the items before this entry
unfoldable pub table_faults : List Data → Members → List (KeyPlace × SheetFault)
table_faults earlier table =
    fault_at (day_place earlier table) (new_day earlier table)
    ++ after_model (at_key (day_place earlier table) keys.Model) (model_day_faults (day_place earlier table) table)
    (model_in table)

-- The faults of an entry. An entry that isn't a table has one fault. `earlier` has the items before this entry.
abbrev pub entry_faults : List Data → Data → List (KeyPlace × SheetFault)
entry_faults earlier item = option_map_or (table_faults earlier) (as_table item)
    ((in_entry (length earlier + 1) None keys.Day, BadValue keys.Day) ∷ [])

-- the faults of all entries in a list; `earlier` has the items before this list
abbrev pub faults_after : List Data → List Data → List (KeyPlace × SheetFault)
faults_after earlier [] = []
faults_after earlier (item ∷ rest) = entry_faults earlier item ++ faults_after (earlier ++ item ∷ []) rest

-- `faults` are the faults of the entries in `items`. After 300 faults, later entries may be left out. A month of 31
-- days, with at most 8 keys for each day, has fewer than 300 faults.
pub record AreSheetFaults (items : List Data) (faults : List (KeyPlace × SheetFault)) : Type 0 where
  pub count : ℕ
  pub within : count ≤ length items
  pub are : faults ≡ faults_after [] (take count items)
  pub many : (count ≡ length items) ⊎ (300 ≤ length faults)

-- the fault of a document that isn't a machine file, and has no array `day`
abbrev pub day_fault : Members → SheetFault
day_fault document = if is_given keys.Day document then BadValue keys.Day else Missing keys.Day

-- `faults` are the faults of `document`. The first argument says whether the document is a machine file. `items` are
-- the items of the document's array `day`, if there is one.
abbrev pub AreFaultsOf : Bool → Option (List Data) → Members → List (KeyPlace × SheetFault) → Type 0
AreFaultsOf true entries document faults = faults ≡ machine_faults document
AreFaultsOf false (Some items) document faults = AreSheetFaults items faults
AreFaultsOf false None document faults = faults ≡ (in_file keys.Day, day_fault document) ∷ []

-- `faults` are the faults of `document`. A document that isn't a machine file is judged as a key sheet.
abbrev pub AreFaults : Members → List (KeyPlace × SheetFault) → Type 0
AreFaults document faults = AreFaultsOf (is_machine_file document) (entries_of document) document faults

-- The first fault with which the desk refuses a document. A document that isn't a machine file is read as a key sheet.
abbrev pub file_fault : Members → Option SheetFault
file_fault document =
    if is_machine_file document then result_err (machine_in document) else result_err (sheet_in document)
