use Rattle.std.proofs.Common.{◌≡◌, ◌+◌, ℕ, Bool, List, Result, drop, length}
use Rattle.kd_host.specs.Files.{AreAskedFor, AskedName}
use Rattle.kd_host.specs.declared.file_fault.FileFault.{FileFault}
use Rattle.kd_curator_command.specs.CommandLine.{unborrowed_names}
use Rattle.kd_curator.proofs.Reading.{Reads}
use Rattle.kd_curator.proofs.files.read_contents.Given as goal

-- what is known of the rest makes known what is asked of all
abbrev pub invariant-loop-name : goal.invariant-loop-name
invariant-loop-name g l = record {
  read : (answer : Result (List (List ℕ)) FileFault)
      → Reads (g.F.Files.known l.initial.files) l.contents.items (drop l.name-index (unborrowed_names l.names)) answer
      → Reads (g.F.Files.known l.initial.files) l.initial.contents.items (unborrowed_names l.names) answer;
  asked : (newer : List AskedName) (had : Bool)
      → AreAskedFor (drop l.name-index (unborrowed_names l.names)) (g.F.Files.asked l.files) newer had
      → AreAskedFor (unborrowed_names l.names) (g.F.Files.asked l.initial.files) newer had;
  same : g.F.Files.known l.files ≡ g.F.Files.known l.initial.files;
  many : length l.contents.items ≡ length l.initial.contents.items + l.name-index;
  count : length (g.F.Files.asked l.files) ≡ length l.contents.items;
}
