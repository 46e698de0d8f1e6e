-- The report that `look_at` writes on files, and the answer of `look_at`: the first fault of all files. `l` is the
-- language of the report.
-- Test: tests/cases/curator-look.toml
use Rattle.std.specs.Prelude.{◌≡◌, ◌⊎◌, ℕ, ◌++◌, List, [], ◌∷◌, map, Result, Err, OnErr, IfOk, alloc_error}
use Rattle.std.specs.Result.{result_ok}
use Rattle.std.specs.declared.alloc.AllocError.{AllocError}
use Rattle.kd_tables.specs.Ports.{Port}
use Rattle.kd_tables.specs.Writing.{Writes}
use Rattle.kd_tables.specs.declared.ports.write_fault.WriteFault.{WriteFault}
use Rattle.kd_tables.specs.declared.ports.write_fault.WriteFault.TheVariants.{Device, Unwritten}
use Rattle.kd_language.specs.declared.language.Language.{Language}
use Rattle.kd_findings.specs.Texts.{BeginsWith}
use Rattle.kd_look.specs.File.{file_of}
use Rattle.kd_look.specs.GroupDays.{group_day_words}
use Rattle.kd_look.specs.MissingDays.{KnownFile, missing_words}
use Rattle.kd_look.specs.Report.{IsReport, file_message, file_outcome}
use Rattle.kd_look.specs.declared.looking.NamedFile.{NamedFile}
use Rattle.kd_look.specs.declared.outcome.Outcome.{Outcome}
use Rattle.kd_look.specs.declared.outcome.Outcome.TheVariants as outcomes

-- A file's name and its bytes.
pub record NamedText : Type 0 where
  pub name : List ℕ
  pub bytes : List ℕ

-- the name and the bytes of a borrowed file
abbrev pub named_text : NamedFile → NamedText
named_text file = record { name = file.name.now; bytes = file.bytes.now }

-- If the first outcome is `Faulty`, this outcome. Otherwise the second outcome, `later`.
abbrev pub or_later : Outcome → Outcome → Outcome
or_later outcomes.Faultless later = later
or_later (outcomes.Faulty fault) later = outcomes.Faulty fault

-- the outcome for all files: the first fault of the first file that has a fault
abbrev pub outcome_of_all : List NamedText → Outcome
outcome_of_all [] = outcomes.Faultless
outcome_of_all (file ∷ rest) = or_later (file_outcome file.bytes) (outcome_of_all rest)

-- The text has a report on each file, in the order of the files.
abbrev pub AreReports : Language → List NamedText → List ℕ → Type 0
AreReports l [] text = text ≡ []
AreReports l (file ∷ rest) text =
    BeginsWith (IsReport l file.name file.bytes) (λ others. AreReports l rest others) text

-- the file's name, and the file's content; the content is `None` if the file has a fault
abbrev pub known_text : NamedText → KnownFile
known_text file =
    record { name = file.name; file = result_ok (file_of file.bytes); message = file_message file.bytes }

-- The lines that compare the files. First come the warnings about machines for which no key sheet has a day. Then come
-- the lines that say which days have the messages' groups.
abbrev pub comparison_words : Language → List KnownFile → List ℕ
comparison_words l files = missing_words l files ++ group_day_words l files

-- The text has a report on each file. Then come the lines that compare the files.
pub record IsWholeReport (l : Language) (files : List NamedText) (text : List ℕ) : Type 0 where
  pub reports : List ℕ
  pub made : AreReports l files reports
  pub whole : text ≡ reports ++ comparison_words l (map known_text files)

-- A report on the files was written, and the answer is the outcome for all files. Or the sink failed, and only a prefix
-- of the report was written.
pub record WritesReport (l : Language) (files : List NamedText) (sink : Port)
    (answer : Result Outcome (WriteFault AllocError)) : Type 0 where
  pub text : List ℕ
  pub made : IsWholeReport l files text
  pub written : Writes sink.had sink.has text answer
  pub answered : IfOk answer (λ found. found ≡ outcome_of_all files)
  pub device : OnErr answer (answer ≡ Err Device)

-- A report was written as `WritesReport` says, or the answer is that memory ran out. The contract doesn't say when
-- memory runs out.
abbrev pub IsLookAnswer : Language → List NamedText → Port → Result Outcome (WriteFault AllocError) → Type 0
IsLookAnswer l files sink answer = WritesReport l files sink answer ⊎ (answer ≡ Err (Unwritten alloc_error))
