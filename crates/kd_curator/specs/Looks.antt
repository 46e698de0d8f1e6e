-- What the command `look` writes, and when the command refuses.
-- Test: tests/cases/curator-look.toml
use Rattle.std.specs.Prelude.{◌≡◌, ℕ, List, [], ◌∷◌, Result, Ok, Err}
use Rattle.std.specs.declared.alloc.AllocError.{AllocError}
use Rattle.kd_tables.specs.Ports.{Port}
use Rattle.kd_tables.specs.declared.ports.write_fault.WriteFault.{WriteFault}
use Rattle.kd_tables.specs.declared.ports.write_fault.WriteFault.TheVariants.{Device, Unwritten}
use Rattle.kd_language.specs.declared.language.Language.{Language}
use Rattle.kd_look.specs.Look.{IsLookAnswer, NamedText}
use Rattle.kd_look.specs.declared.outcome.Outcome.{Outcome}
use Rattle.kd_look.specs.declared.outcome.Outcome.TheVariants.{Faultless, Faulty}
use Rattle.kd_curator.specs.Refusals.{refused_device, refused_memory, refused_whole}
use Rattle.kd_curator.specs.declared.fault.PageFault.TheVariants.{FaultyFile}
use Rattle.kd_curator.specs.declared.fault.Refused.{Refused}

-- a `NamedText` for each file, from the names and the bytes
abbrev pub named_texts : List (List ℕ) → List (List ℕ) → List NamedText
named_texts (name ∷ names) (bytes ∷ texts) = record { name = name; bytes = bytes } ∷ named_texts names texts
named_texts [] texts = []
named_texts (name ∷ names) [] = []

-- The answer of the command `look`. The command is refused if a file has a fault, or if the report wasn't written
-- completely.
abbrev pub look_answer : Result Outcome (WriteFault AllocError) → Result (Unit {0}) Refused
look_answer (Ok Faultless) = Ok tt
look_answer (Ok (Faulty fault)) = Err (refused_whole FaultyFile)
look_answer (Err (Unwritten fault)) = Err refused_memory
look_answer (Err Device) = Err refused_device

-- A report on the files was written in language `l`, or memory ran out. If the sink failed, only a prefix of the report
-- was written. If a file has a fault, the command is refused after the report.
pub record Looks (l : Language) (files : List NamedText) (sink : Port) (answer : Result (Unit {0}) Refused)
    : Type 0 where
  pub told : Result Outcome (WriteFault AllocError)
  pub looks : IsLookAnswer l files sink told
  pub answers : answer ≡ look_answer told
