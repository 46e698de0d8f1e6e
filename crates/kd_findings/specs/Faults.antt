-- The faults of a machine file: one for each key whose value the desk refuses. The keys come in the order in which the
-- desk tests them. The desk itself stops at a file's first fault. Here, each key is judged separately.
-- Test: tests/cases/curator-look.toml
use Rattle.std.specs.Prelude.{ℕ, nat_le, true, List, [], ◌∷◌, ◌++◌, length, map, slice_get, Option, None, Result, Ok, Err}
use Rattle.std.specs.Prelude.{if◌then◌else◌}
use Rattle.std.specs.Option.{option_map, option_map_or, option_to_list}
use Rattle.std.specs.Result.{result_ok, result_err}
use Rattle.toml.specs.Data.{Members}
use Rattle.kd_tables.specs.Tables.{box_of, by_family, family_of}
use Rattle.kd_tables.specs.declared.model.Model.{Model}
use Rattle.kd_sheet.specs.Bars.{bars_in}
use Rattle.kd_sheet.specs.Cables.{cables_in}
use Rattle.kd_sheet.specs.Document.{◌>>=◌, ◌>>◌, demand, read_at}
use Rattle.kd_sheet.specs.Letters.{letters_at}
use Rattle.kd_sheet.specs.MachineFile.{model_in, reflector_in}
use Rattle.kd_sheet.specs.MachineText.{file_version}
use Rattle.kd_sheet.specs.Numbers.{number_up_to}
use Rattle.kd_sheet.specs.PinWheels.{shown_letters_in, pins_in}
use Rattle.kd_sheet.specs.Slots.{slots_in}
use Rattle.kd_sheet.specs.declared.key.Key.{Key}
use Rattle.kd_sheet.specs.declared.key.Key.TheVariants as keys
use Rattle.kd_sheet.specs.declared.fault.SheetFault.{SheetFault}
use Rattle.kd_sheet.specs.declared.fault.SheetFault.TheVariants.{UnknownModel}
use Rattle.kd_sheet.specs.contracts.fault.SheetFaultPartialEq.TheImpl as fault_eq
use Rattle.kd_slips.specs.declared.slip.Slip.{Slip}
use Rattle.kd_slips.specs.declared.slip.Slip.TheVariants as slips
use Rattle.kd_findings.specs.declared.findings.Finding.{Finding}
use Rattle.kd_findings.specs.declared.key_place.KeyPlace.{KeyPlace}

-- the place of a key in a machine file
abbrev pub in_file : Key → KeyPlace
in_file key = record { entry = None; day = None; key = key }

-- The place of the key `key` in the same entry as `place`. If `place` has no entry, `key` is at the top of the file.
abbrev pub at_key : KeyPlace → Key → KeyPlace
at_key place key = record place { key = key }

-- the fault with its place, as a list with one item; empty if there is no fault
abbrev pub at_place : KeyPlace → Option SheetFault → List (KeyPlace × SheetFault)
at_place place fault = option_to_list (option_map (λ one. (place, one)) fault)

-- the fault with which the desk refuses the value at `place`, as a list; empty if the desk reads the value
abbrev pub fault_at : {A : Type 0} → KeyPlace → Result A SheetFault → List (KeyPlace × SheetFault)
fault_at place reading = at_place place (result_err reading)

-- The faults at the key `model` and at the keys that depend on the model. If the model is refused, its fault is the
-- only one. Otherwise `faults` gives the faults at the other keys.
abbrev pub after_model : KeyPlace → (Model → List (KeyPlace × SheetFault)) → Result Model SheetFault → List (KeyPlace × SheetFault)
after_model place faults (Ok model) = faults model
after_model place faults (Err fault) = (place, fault) ∷ []

-- the faults of a rotor machine's file, at all its keys except `version` and `model`
unfoldable pub rotor_file_faults : Model → Members → List (KeyPlace × SheetFault)
rotor_file_faults model table =
    fault_at (in_file keys.Reflector) (reflector_in model table)
    ++ (fault_at (in_file keys.Slots) (slots_in keys.Slots model table)
    ++ (fault_at (in_file keys.Rings) (letters_at keys.Rings (length (box_of model)) table)
    ++ (fault_at (in_file keys.Letters) (letters_at keys.Letters (length (box_of model)) table)
    ++ fault_at (in_file keys.Cables) (cables_in table))))

-- the faults of a Converter's file, at all its keys except `version` and `model`
unfoldable pub pin_file_faults : Members → List (KeyPlace × SheetFault)
pin_file_faults table =
    fault_at (in_file keys.Letters) (shown_letters_in keys.Letters table)
    ++ (fault_at (in_file keys.Pins) (pins_in table) ++ fault_at (in_file keys.Bars) (bars_in table))

abbrev pub model_file_faults : Members → Model → List (KeyPlace × SheetFault)
model_file_faults table model = by_family (rotor_file_faults model table) (pin_file_faults table) (family_of model)

abbrev pub version_in : Members → Result ℕ SheetFault
version_in table = read_at keys.Version (number_up_to 2) table

-- The model in a machine file, or the fault of the key `model`. The file's version has to allow the model. If the
-- version can't be read, any model is allowed.
unfoldable pub file_model : Members → Result Model SheetFault
file_model table = do
  model ← model_in table
  demand (option_map_or (nat_le (file_version model)) (result_ok (version_in table)) true) UnknownModel
  Ok model

-- the faults of a machine file
unfoldable pub machine_faults : Members → List (KeyPlace × SheetFault)
machine_faults table =
    fault_at (in_file keys.Version) (version_in table)
    ++ after_model (in_file keys.Model) (model_file_faults table) (file_model table)

-- the faults of a list of findings, each with its place
abbrev pub faults_of : List Finding → List (KeyPlace × SheetFault)
faults_of findings = map (λ finding. (finding.place, finding.fault)) findings

-- the first fault of the list, without its place
abbrev pub first_fault : List (KeyPlace × SheetFault) → Option SheetFault
first_fault faults = option_map (λ fault. fault.1) (slice_get faults 0)

-- ---- What inner functions answer. No public contract cites this definition.

-- the number of the wrong list item, from `checked`; `None` if `checked` has no such number, or not the fault `fault`
abbrev pub told_item : SheetFault → Result (Unit {0}) Slip → Option ℕ
told_item fault (Err (slips.Fault found item words)) = if (fault_eq.ghosts).eq found fault then item else None
told_item fault checked = None
