-- The faults of reading or opening a file, and the text of each fault.
-- Test: readers_give_what_they_have_or_fail, tests/cases/desk-program.toml
use Rattle.std.specs.Prelude.{ℕ, List}
use Rattle.std.specs.declared.io.ErrorKind.{ErrorKind}
use Rattle.std.specs.declared.io.ErrorKind.TheVariants.{OutOfMemory}
use Rattle.kd_tables.specs.declared.refusal.Refusal.TheVariants as refusals
use Rattle.kd_tables.specs.Refusals.{refusal_name}
use Rattle.kd_host.specs.declared.file_fault.FileFault.{FileFault}
use Rattle.kd_host.specs.declared.file_fault.FileFault.TheVariants as files

-- the fault for a kind of system error: `NoMemory` if memory ran out, otherwise `Device`
abbrev pub fault_of_kind : ErrorKind → FileFault
fault_of_kind OutOfMemory = files.NoMemory
fault_of_kind _ = files.Device

-- the number and the name of the refusal for a file's fault
abbrev pub file_fault_text : FileFault → List ℕ
file_fault_text files.NoMemory = refusal_name refusals.NoMemory
file_fault_text files.Device = refusal_name refusals.Device
file_fault_text files.ReadTooLong = refusal_name refusals.ReadTooLong
