-- Why the program stops without success.
-- Test: tests/cases/desk-program.toml, tests/refusals, tests/cases/desk-words.toml
use Rattle.std.specs.Prelude.{Bool, true, Result, Ok, Err}
use Rattle.std.specs.declared.io.ErrorKind.{ErrorKind}
use Rattle.std.specs.declared.io.ErrorKind.TheVariants.{OutOfMemory}
use Rattle.kd_command.specs.declared.command.NoCommand.{NoCommand}
use Rattle.kd_command.specs.declared.command.NoCommand.TheVariants as none
use Rattle.kd_desk.specs.declared.fault.DeskFault.{DeskFault}
use Rattle.kd_desk.specs.declared.fault.DeskFault.TheVariants.{File, Device}
use Rattle.kd_sheet.specs.declared.fault.SheetFault.TheVariants.{NoMemory}
use Rattle.kd_desk.specs.declared.stop.Stop.{Stop}
use Rattle.kd_desk.specs.declared.stop.Stop.TheVariants.{Usage, ReadFailed, Refused}

-- why the program stops if no command can be made from the command line
abbrev pub stop_without_command : NoCommand → Stop
stop_without_command none.Usage = Usage
stop_without_command none.NoMemory = Refused (File NoMemory)

-- why the command line can't be read, by the kind of error: no memory, or an argument that isn't UTF-8
abbrev pub stop_of_kind : ErrorKind → Stop
stop_of_kind OutOfMemory = Refused (File NoMemory)
stop_of_kind _ = Usage

-- The program's answer for a command's answer: each fault becomes a `Stop`. The fault `Device` becomes `ReadFailed` if
-- a read of the opened file failed.
abbrev pub stop_after : Bool → Result (Unit {0}) DeskFault → Result (Unit {0}) Stop
stop_after file_failed (Ok done) = Ok done
stop_after true (Err Device) = Err ReadFailed
stop_after file_failed (Err fault) = Err (Refused fault)
