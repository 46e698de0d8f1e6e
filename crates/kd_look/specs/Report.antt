-- The report on a file: its content in words, or its faults.
-- Test: tests/cases/curator-look.toml
use Rattle.std.specs.Prelude.{◌≡◌, ℕ, ◌++◌, Bool, true, false, List, MatchResult, Option, None, Result, Ok, Err}
use Rattle.std.specs.Prelude.{if◌then◌else◌}
use Rattle.toml.specs.Data.{Members}
use Rattle.kd_language.specs.Language.{text_in}
use Rattle.kd_language.specs.declared.language.Language.{Language}
use Rattle.kd_sheet.specs.Document.{document_of}
use Rattle.kd_sheet.specs.declared.fault.SheetFault.{SheetFault}
use Rattle.kd_look.specs.FaultWords.{NamesFault, SaysPlainly}
use Rattle.kd_look.specs.File.{file_in}
use Rattle.kd_look.specs.Groups.{KnownMessage, group_lines, message_of}
use Rattle.kd_look.specs.MachineWords.{machine_words}
use Rattle.kd_look.specs.Order.{order_start}
use Rattle.kd_look.specs.Form.{form_answer}
use Rattle.kd_look.specs.MessageWords.{is_form, is_message, message_words}
use Rattle.kd_look.specs.SheetWords.{sheet_words}
use Rattle.kd_look.specs.Warnings.{AreKeyWarnings, WarnsOfFile}
use Rattle.kd_look.specs.declared.file.File.{File}
use Rattle.kd_look.specs.declared.file.File.TheVariants as files
use Rattle.kd_look.specs.declared.message.fault.MessageFault.{MessageFault}
use Rattle.kd_look.specs.declared.outcome.FoundFault.TheVariants as founds
use Rattle.kd_look.specs.declared.outcome.Outcome.{Outcome}
use Rattle.kd_look.specs.declared.outcome.Outcome.TheVariants as outcomes
use Rattle.kd_look.specs.declared.texts.TheConstants.{KEY_SHEET, MACHINE_FILE}

-- the outcome for a machine file or a key sheet: `Faultless`, or the file's first fault
abbrev pub outcome_of : Result File SheetFault → Outcome
outcome_of (Ok file) = outcomes.Faultless
outcome_of (Err fault) = outcomes.Faulty (founds.File fault)

-- the outcome for an order or a form: `Faultless`, or the first fault that can be found without a machine
abbrev pub answer_outcome : {A : Type 0} → Result A MessageFault → Outcome
answer_outcome (Ok read) = outcomes.Faultless
answer_outcome (Err found) = outcomes.Faulty (founds.Message found.fault)

-- the outcome for an order or a form
abbrev pub message_outcome : List ℕ → Outcome
message_outcome bytes =
    if is_form bytes then answer_outcome (form_answer bytes) else answer_outcome (order_start bytes)

-- the outcome for a file that isn't a document; the first argument says whether the file is a message (an order or a
-- form)
abbrev pub outcome_without : Bool → List ℕ → SheetFault → Outcome
outcome_without true bytes fault = message_outcome bytes
outcome_without false bytes fault = outcomes.Faulty (founds.File fault)

-- the outcome for a file; the second argument is the file's document, or the fault of a file that isn't a document
abbrev pub outcome_by : List ℕ → Result Members SheetFault → Outcome
outcome_by bytes (Ok document) = outcome_of (file_in document)
outcome_by bytes (Err fault) = outcome_without (is_message bytes) bytes fault

-- the outcome for a file
abbrev pub file_outcome : List ℕ → Outcome
file_outcome bytes = outcome_by bytes (document_of bytes)

-- The order or the form in a file that isn't a document. `None` if the file has a fault, or isn't a message. The first
-- argument says whether the file is a message (an order or a form).
abbrev pub message_without : Bool → List ℕ → Option KnownMessage
message_without true bytes = message_of bytes
message_without false bytes = None

-- The order or the form in a file. The second argument is the file's document, or the fault of a file that isn't a
-- document.
abbrev pub message_by : List ℕ → Result Members SheetFault → Option KnownMessage
message_by bytes (Ok document) = None
message_by bytes (Err fault) = message_without (is_message bytes) bytes

-- the order or the form in a file; `None` if the file has a fault, or isn't an order or a form
abbrev pub file_message : List ℕ → Option KnownMessage
file_message bytes = message_by bytes (document_of bytes)

-- the words for a file's content, after the file's name
unfoldable pub file_words : Language → List ℕ → File → List ℕ
file_words l name (files.Machine machine) = name ++ text_in l MACHINE_FILE ++ machine_words l machine
file_words l name (files.Sheet month) = name ++ text_in l KEY_SHEET ++ sheet_words l month

-- The text has the words for the file's content, the warnings about the document's keys, and then the warnings about
-- the file's days.
pub record Describes (l : Language) (name bytes : List ℕ) (document : Members) (file : File) (text : List ℕ)
    : Type 0 where
  pub keys : List ℕ
  pub days : List ℕ
  pub warn : AreKeyWarnings l name bytes document keys
  pub of_days : WarnsOfFile l name file days
  pub whole : text ≡ file_words l name file ++ (keys ++ days)

-- The text is the report on a file that is a document. If the document has no fault, the text has the words for the
-- file's content. Otherwise the text has the lines that name the faults.
abbrev pub IsDocumentReport : Language → List ℕ → List ℕ → Members → List ℕ → Type 0
IsDocumentReport l name bytes document text = MatchResult (file_in document)
    (λ file. Describes l name bytes document file text) (λ fault. NamesFault l name bytes document fault text)

-- the report on an order or a form
abbrev pub message_report : Language → List ℕ → List ℕ → List ℕ
message_report l name bytes = message_words l name bytes ++ group_lines l (message_of bytes)

-- The text is the report on a file that isn't a document. The second argument says whether the file is a message (an
-- order or a form).
abbrev pub IsOtherReport : Language → Bool → List ℕ → List ℕ → SheetFault → List ℕ → Type 0
IsOtherReport l true name bytes fault text = text ≡ message_report l name bytes
IsOtherReport l false name bytes fault text = SaysPlainly l name bytes fault text

-- The text is the report on the file called `name`, with the content `bytes`.
abbrev pub IsReport : Language → List ℕ → List ℕ → List ℕ → Type 0
IsReport l name bytes text = MatchResult (document_of bytes)
    (λ document. IsDocumentReport l name bytes document text)
    (λ fault. IsOtherReport l (is_message bytes) name bytes fault text)
