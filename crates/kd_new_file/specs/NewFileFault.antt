-- Why there is no new file: the fault for each kind of system error.
-- Test: tests/new-files
use Rattle.std.specs.declared.io.ErrorKind.{ErrorKind}
use Rattle.std.specs.declared.io.ErrorKind.TheVariants.{AlreadyExists, OutOfMemory}
use Rattle.kd_new_file.specs.declared.new_file_fault.NewFileFault.{NewFileFault}
use Rattle.kd_new_file.specs.declared.new_file_fault.NewFileFault.TheVariants as faults

-- the fault for a system error: `Taken` if the name is taken, `NoMemory` if memory ran out, otherwise `Device`
abbrev pub fault_of_kind : ErrorKind → NewFileFault
fault_of_kind AlreadyExists = faults.Taken
fault_of_kind OutOfMemory = faults.NoMemory
fault_of_kind _ = faults.Device
