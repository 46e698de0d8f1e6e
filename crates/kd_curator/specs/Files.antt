-- The files of a command: their names, and their bytes.
-- Code: `read_contents` reads one file after another.
-- Test: tests/cases/curator-pages.toml
use Rattle.std.specs.Prelude.{ℕ, List, [], ◌∷◌, ◌++◌, Option, Result, Ok, get_or}
use Rattle.std.specs.Result.{result_map_both}
use Rattle.kd_sheet.specs.Document.{◌>>=◌}
use Rattle.kd_host.specs.Files.{content_of}
use Rattle.kd_host.specs.declared.file_fault.FileFault.{FileFault}
use Rattle.kd_curator_command.specs.CommandLine.{NamedCommand}
use Rattle.kd_curator_command.specs.declared.command.Command.TheVariants as commands

-- the names of a command's files, in the order in which they are read
abbrev pub names_of : NamedCommand → List (List ℕ)
names_of (commands.OnMachine machine sheet task) = machine ∷ sheet ∷ []
names_of (commands.Message machine sheet message task) = machine ∷ sheet ∷ message ∷ []
names_of (commands.Orders machine sheet orders task) = machine ∷ sheet ∷ orders.items
names_of (commands.TypingPage machine) = machine ∷ []
names_of (commands.Table sheet form) = sheet ∷ []
names_of (commands.Sheet table options) = table ∷ []
names_of (commands.Look files) = files.items
names_of (commands.EmptySheet model days) = []

-- the bytes of the named files, or the fault of the first file that can't be read
abbrev pub contents_of : (List ℕ → Option (List ℕ)) → List (List ℕ) → Result (List (List ℕ)) FileFault
contents_of held [] = Ok []
contents_of held (name ∷ names) = do
  bytes ← content_of (held name)
  rest ← contents_of held names
  Ok (bytes ∷ rest)

-- the text at place `place` in `texts`, counted from 0; empty if there is no such place. `texts` are the bytes of
-- files, or the names of files.
abbrev pub text_at : List (List ℕ) → ℕ → List ℕ
text_at texts place = get_or texts place []

-- ---- What inner functions read. No public contract cites these definitions.

-- the texts `before`, followed by the texts of the files; or the fault, if a file couldn't be read
abbrev pub behind : List (List ℕ) → Result (List (List ℕ)) FileFault → Result (List (List ℕ)) FileFault
behind before read = result_map_both (λ texts. before ++ texts) (λ fault. fault) read

-- the texts of all files that were read; or the fault, if a file couldn't be read
abbrev pub all_read : List (List ℕ) → Result (Unit {0}) FileFault → Result (List (List ℕ)) FileFault
all_read texts answer = result_map_both (λ done. texts) (λ fault. fault) answer
