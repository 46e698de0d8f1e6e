-- The file that a refusal is about, and what the refusal says of it.
-- Test: tests/cases/curator-files.toml
use Rattle.std.specs.Prelude.{ℕ, List, Option, Some, None}
use Rattle.kd_language.specs.declared.language.Language.{Language}
use Rattle.kd_language.specs.Language.{text_in}
use Rattle.kd_host.specs.declared.file_fault.FileFault.{FileFault}
use Rattle.kd_host.specs.declared.file_fault.FileFault.TheVariants as files
use Rattle.kd_new_file.specs.declared.why_unread.WhyUnread.{WhyUnread}
use Rattle.kd_new_file.specs.declared.why_unread.WhyUnread.TheVariants.{Folder, NotAllowed, NotThere, Other}
use Rattle.kd_curator.specs.declared.blame.Blame.{Blame}
use Rattle.kd_curator.specs.declared.blame.Remark.{Remark}
use Rattle.kd_curator.specs.declared.blame.Remark.TheVariants.{KeySheet, MachineFile, MachineForSheet, Named, Order}
use Rattle.kd_curator.specs.declared.blame.Remark.TheVariants.{SheetForMachine, TooLong, Unread}
use Rattle.kd_curator.specs.declared.texts.TheConstants as texts

-- the words that say why a file can't be read; the file's name stands after them
abbrev pub why_words : Language → WhyUnread → List ℕ
why_words l NotThere = text_in l texts.NOT_THERE
why_words l Folder = text_in l texts.FOLDER
why_words l NotAllowed = text_in l texts.NOT_ALLOWED
why_words l Other = text_in l texts.UNREADABLE

-- the words of a remark; a refusal's text stands before them, and the file's name after them
abbrev pub remark_words : Language → Remark → List ℕ
remark_words l (Unread why) = why_words l why
remark_words l TooLong = text_in l texts.TOO_LONG
remark_words l MachineFile = text_in l texts.MACHINE_FILE
remark_words l SheetForMachine = text_in l texts.SHEET_FOR_MACHINE
remark_words l KeySheet = text_in l texts.KEY_SHEET
remark_words l MachineForSheet = text_in l texts.MACHINE_FOR_SHEET
remark_words l Order = text_in l texts.ORDER
remark_words l Named = texts.NAMED.now

-- a remark on the file at place `place` among the command's files, counted from 0
abbrev pub blame_on : ℕ → Remark → Option Blame
blame_on place remark = Some (record { place = place; remark = remark })

-- The remark on a file that couldn't be read, for the reason `why`. The file has the place `place` among the command's
-- files. `None` if memory ran out.
abbrev pub unread_blame : ℕ → FileFault → WhyUnread → Option Blame
unread_blame place files.Device why = blame_on place (Unread why)
unread_blame place files.ReadTooLong why = blame_on place TooLong
unread_blame place files.NoMemory why = None
