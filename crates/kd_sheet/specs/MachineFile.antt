-- How a machine file is read, key by key in the order of testing. The result is the machine that the file describes, or
-- the first fault.
-- Test: tests/cases/desk-files.toml
use Rattle.std.specs.Prelude.{ℕ, nat_le, List, length, Result, Ok, ok_or}
use Rattle.toml.specs.Data.{Members, as_str}
use Rattle.kd_tables.specs.Tables.{all_models, box_of, by_family, family_of, model_text, reflector_text, reflectors_of}
use Rattle.kd_tables.specs.declared.model.Model.{Model}
use Rattle.kd_tables.specs.declared.reflector.Reflector.{Reflector}
use Rattle.kd_state.specs.Machine.{with_cables_in_order}
use Rattle.kd_state.specs.declared.machine.rotor_parts.RotorParts.{RotorParts}
use Rattle.kd_state.specs.declared.machine.pin_parts.PinParts.{PinParts}
use Rattle.kd_state.specs.declared.machine.parts.Parts.{Parts}
use Rattle.kd_state.specs.declared.machine.parts.Parts.TheVariants.{Rotor, Pin}
use Rattle.kd_sheet.specs.Cables.{cables_in}
use Rattle.kd_sheet.specs.Document.{◌>>=◌, ◌>>◌, demand, document_of, read_at, from_text}
use Rattle.kd_sheet.specs.Bars.{bars_in}
use Rattle.kd_sheet.specs.Letters.{letters_at}
use Rattle.kd_sheet.specs.MachineText.{file_version}
use Rattle.kd_sheet.specs.Names.{find_by_text}
use Rattle.kd_sheet.specs.Numbers.{number_up_to}
use Rattle.kd_sheet.specs.PinWheels.{shown_letters_in, pins_in}
use Rattle.kd_sheet.specs.Slots.{slots_in}
use Rattle.kd_sheet.specs.declared.key.Key.TheVariants as keys
use Rattle.kd_sheet.specs.declared.fault.SheetFault.{SheetFault}
use Rattle.kd_sheet.specs.declared.fault.SheetFault.TheVariants.{UnknownModel}

unfoldable pub model_in : Members → Result Model SheetFault
model_in table = read_at keys.Model as_str table
    >>= (λ name. ok_or (find_by_text model_text all_models name) UnknownModel)

unfoldable pub reflector_in : Model → Members → Result Reflector SheetFault
reflector_in model table = read_at keys.Reflector (from_text (find_by_text reflector_text (reflectors_of model))) table

-- the parts of a rotor machine, from a file's table. The texts at the keys `rings` and `letters` have a letter for each
-- wheel of the box, in box order.
unfoldable pub rotor_parts_in : Model → Members → Result RotorParts SheetFault
rotor_parts_in model table = do
  reflector ← reflector_in model table
  slots ← slots_in keys.Slots model table
  rings ← letters_at keys.Rings (length (box_of model)) table
  letters ← letters_at keys.Letters (length (box_of model)) table
  cables ← cables_in table
  Ok (record { model = model; slots = slots; reflector = reflector; rings = rings; letters = letters; cables = cables })

unfoldable pub pin_parts_in : Members → Result PinParts SheetFault
pin_parts_in table = do
  letters ← shown_letters_in keys.Letters table
  pins ← pins_in table
  bars ← bars_in table
  Ok (record { pins = pins; letters = letters; bars = bars })

unfoldable pub parts_in : Model → Members → Result Parts SheetFault
parts_in model table = by_family
    (rotor_parts_in model table >>= (λ parts. Ok (with_cables_in_order (Rotor parts))))
    (pin_parts_in table >>= (λ parts. Ok (Pin parts))) (family_of model)

-- the machine that a machine file's table describes, or the table's first fault
abbrev pub machine_in : Members → Result Parts SheetFault
machine_in table = do
  version ← read_at keys.Version (number_up_to 2) table
  model ← model_in table
  demand (nat_le (file_version model) version) UnknownModel
  parts_in model table

-- the machine that a machine file's bytes describe, or the file's first fault
abbrev pub machine_of : List ℕ → Result Parts SheetFault
machine_of bytes = document_of bytes >>= machine_in
