-- How the program ends: what it writes to standard error, and its exit status.
-- Test: tests/cases/curator-pages.toml, tests/cases/curator-files.toml
use Rattle.std.specs.Prelude.{decimal, ◌≡◌, ◌⊎◌, ℕ, List, [], ◌∷◌, ◌++◌, Option, Some, None, Result, Ok, Err}
use Rattle.std.specs.Prelude.{string_bytes}
use Rattle.std.specs.declared.io.ErrorKind.{ErrorKind}
use Rattle.std.specs.declared.io.ErrorKind.TheVariants.{OutOfMemory}
use Rattle.kd_host.specs.declared.file_fault.FileFault.TheVariants.{NoMemory}
use Rattle.kd_tables.specs.Ports.{Port}
use Rattle.kd_host.specs.Ending.{EndsWithLine}
use Rattle.kd_language.specs.declared.language.Language.{Language}
use Rattle.kd_language.specs.Language.{text_in}
use Rattle.kd_curator.specs.Blame.{remark_words}
use Rattle.kd_curator.specs.Files.{text_at}
use Rattle.kd_curator.specs.Refusals.{page_fault_text, refused_whole}
use Rattle.kd_curator.specs.declared.blame.Blame.{Blame}
use Rattle.kd_curator.specs.declared.fault.PageFault.TheVariants.{Unread}
use Rattle.kd_curator.specs.declared.fault.Refused.{Refused}
use Rattle.kd_curator.specs.declared.stop.Stop.{Stop}
use Rattle.kd_curator.specs.declared.stop.Stop.TheVariants as stops
use Rattle.kd_curator.specs.declared.texts.TheConstants as texts

-- the words for the day that a refusal names; empty if the refusal names no day
abbrev pub day_prefix : Language → Option ℕ → List ℕ
day_prefix l None = []
day_prefix l (Some day) = text_in l texts.DAY ++ decimal day ++ texts.DAY_END.now

-- the text of a refusal, without the remark on a file
abbrev pub refusal_text : Language → Refused → List ℕ
refusal_text l refused = day_prefix l refused.day ++ (text_in l texts.REFUSED ++ page_fault_text l refused.fault)

-- the end of a refusal's line: if there is a remark on a file, the remark and the file's name. `names` are the names of
-- the command's files.
abbrev pub refusal_end : Language → List (List ℕ) → Option Blame → List ℕ
refusal_end l names None = 10 ∷ []
refusal_end l names (Some blame) = remark_words l blame.remark ++ (text_at names blame.place ++ 10 ∷ [])

-- the line on standard error for a refusal, in language `l`; `names` are the names of the command's files
unfoldable pub refusal_line : Language → List (List ℕ) → Refused → List ℕ
refusal_line l names refused = refusal_text l refused ++ refusal_end l names refused.blame

-- The text on standard error: why the program stops. The text is empty if all went well. A refusal's text is in
-- language `l`. The text for a command line that means no command is part of the answer.
abbrev pub error_text : Language → List (List ℕ) → Result (Unit {0}) Stop → List ℕ
error_text l names (Ok done) = []
error_text l names (Err (stops.Usage text)) = string_bytes text
error_text l names (Err (stops.Refused refused)) = refusal_line l names refused

-- the exit status: 0 if all went well, 2 if the command line means no command, 1 for a refusal
abbrev pub status_of : Result (Unit {0}) Stop → ℕ
status_of (Ok done) = 0
status_of (Err (stops.Usage text)) = 2
status_of (Err (stops.Refused refused)) = 1

-- The program ends with the text and the exit status for `answer`. Standard error took the text or, if standard error
-- failed, a prefix of the text. The text is in language `l`. `names` are the names of the command's files.
abbrev pub EndsAs : Language → List (List ℕ) → Result (Unit {0}) Stop → Port → ℕ → Type 0
EndsAs l names answer errors status = EndsWithLine (error_text l names answer) (status_of answer) errors status

-- the answer's remark on a file, if there is one
abbrev pub blame_of : Result (Unit {0}) Stop → Option Blame
blame_of (Err (stops.Refused refused)) = refused.blame
blame_of _ = None

-- the program's answer, made from its command's answer; a refusal becomes a `Stop`
abbrev pub stop_after : Result (Unit {0}) Refused → Result (Unit {0}) Stop
stop_after (Ok done) = Ok done
stop_after (Err refused) = Err (stops.Refused refused)

-- the reason to stop if memory ran out before a file was read
abbrev pub memory_stop : Stop
memory_stop = stops.Refused (refused_whole (Unread NoMemory))

-- ---- Why the words of the command line can't be read.

-- The program stops with the message that a word of the command line isn't UTF-8. The message is in language `l`.
abbrev pub IsWordsText : Language → Stop → Type 0
IsWordsText l (stops.Usage text) = string_bytes text ≡ text_in l texts.NOT_UTF8
IsWordsText l _ = ⊥

-- Why the program stops if it can't read the words of the command line. The kind of the error says whether memory ran
-- out, or a word isn't UTF-8. If a word isn't UTF-8, memory may still run out for the message. The message is in
-- language `l`.
abbrev pub IsWordsStop : Language → ErrorKind → Stop → Type 0
IsWordsStop l OutOfMemory stop = stop ≡ memory_stop
IsWordsStop l _ stop = (stop ≡ memory_stop) ⊎ IsWordsText l stop
