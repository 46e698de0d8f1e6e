-- The content of a file: a machine, or the days of a key sheet.
use Rattle.std.specs.Prelude.{ℕ, List, Result, Ok, if◌then◌else◌}
use Rattle.toml.specs.Data.{Members}
use Rattle.kd_sheet.specs.Document.{◌>>=◌, document_of}
use Rattle.kd_sheet.specs.MachineFile.{machine_in}
use Rattle.kd_sheet.specs.SheetFile.{sheet_in}
use Rattle.kd_sheet.specs.declared.fault.SheetFault.{SheetFault}
use Rattle.kd_findings.specs.Kind.{is_machine_file}
use Rattle.kd_look.specs.declared.file.File.{File}
use Rattle.kd_look.specs.declared.file.File.TheVariants as files

-- The machine or the key sheet that a document describes, or the document's first fault. A document that isn't a
-- machine file is read as a key sheet, which needs an array `day`. Without this array, the fault is that `day` is
-- missing, or isn't an array.
unfoldable pub file_in : Members → Result File SheetFault
file_in document =
    if is_machine_file document then machine_in document >>= (λ machine. Ok (files.Machine machine))
    else sheet_in document >>= (λ month. Ok (files.Sheet month))

-- the machine or the key sheet in a file, or the file's first fault
abbrev pub file_of : List ℕ → Result File SheetFault
file_of bytes = document_of bytes >>= file_in
