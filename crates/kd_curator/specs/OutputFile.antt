-- The output file that the option `-o` names: the file is there exactly if the whole output was written.
-- Code: the command writes to a new file under another name. This file then gets the output file's name, or is removed.
-- Test: tests/new-files
use Rattle.std.specs.Prelude.{◌≡◌, ◌⊎◌, ℕ, Bool, true, false, List, [], ◌∷◌, ◌++◌, Option, Some, None, option_map}
use Rattle.std.specs.Prelude.{Result, Ok, Err}
use Rattle.kd_tables.specs.Ports.{Port}
use Rattle.kd_tables.specs.Refusals.{refusal_name}
use Rattle.kd_tables.specs.declared.refusal.Refusal.TheVariants as refusals
use Rattle.kd_host.specs.Ending.{EndsWithLine}
use Rattle.kd_host.specs.Files.{AskedName}
use Rattle.kd_new_file.specs.NewFiles.{AddsFile, FilesByName, IsWhyNotBegun, IsWhyUnnamed}
use Rattle.kd_new_file.specs.declared.new_file_fault.NewFileFault.{NewFileFault}
use Rattle.kd_new_file.specs.declared.new_file_fault.NewFileFault.TheVariants as new_files
use Rattle.kd_language.specs.declared.language.Language.{Language}
use Rattle.kd_language.specs.Language.{text_in}
use Rattle.kd_curator_command.specs.CommandLine.{IsCommandLineOf, NamedCommand, chosen_language, output_of}
use Rattle.kd_curator.specs.Ending.{EndsAs}
use Rattle.kd_curator.specs.Files.{names_of}
use Rattle.kd_curator.specs.Program.{HasEnded, IsRun, LacksCommand, at_first, at_last, is_whole}
use Rattle.kd_curator.specs.declared.stop.Stop.{Stop}
use Rattle.kd_curator.specs.declared.texts.TheConstants as texts

-- the words that say why there is no new file; the file's name stands after them
abbrev pub unwritten_words : Language → NewFileFault → List ℕ
unwritten_words l new_files.Taken = text_in l texts.REFUSED ++ text_in l texts.TAKEN
unwritten_words l new_files.Device =
    text_in l texts.REFUSED ++ (refusal_name refusals.Device ++ text_in l texts.UNWRITTEN)
unwritten_words l new_files.NoMemory =
    text_in l texts.REFUSED ++ (refusal_name refusals.NoMemory ++ text_in l texts.UNWRITTEN)

-- the line on standard error that says why there is no new file `name`, in language `l`
abbrev pub unwritten_line : Language → List ℕ → NewFileFault → List ℕ
unwritten_line l name fault = unwritten_words l fault ++ (name ++ 10 ∷ [])

-- The command's output went to a new file, which was empty before. `written` is this file before and after the
-- command. `answer` is the command's answer. `left` has the bytes that the file didn't take.
pub record IsRunToFile (l : Language) (words : List (List ℕ)) (known : Option (List ℕ → Option (List ℕ)))
    (asked : List AskedName) (before : Option FilesByName) (written errors : Port) (left : List ℕ)
    (answer : Result (Unit {0}) Stop) : Type 0 where
  pub empty : written.had ≡ option_map (λ files. []) before
  pub fresh : written.had_failed ≡ false
  pub run : IsRun l words known asked written (Unit {0}) errors left answer

-- Why there is no output file `name` after a new file was begun: either a write to the new file failed (`failed`), or
-- the new file, with the whole output, couldn't get the name `name`. `before` are the files before the call.
abbrev pub IsWhyUnwritten : Option FilesByName → List ℕ → Bool → Bool → NewFileFault → Type 0
IsWhyUnwritten before name true failed fault = IsWhyUnnamed before name fault
IsWhyUnwritten before name false failed fault = (failed ≡ true) × (fault ≡ new_files.Device)

-- How the program ends if the command line names the output file `name`. `names` are the names of the command's files.
-- `before` are all files before the call, `after` all files after the call.
-- - `NotBegun`: no new file could be made, for the reason `fault`, and no file was read.
-- - `Published`: the whole output was written, and is in the new file `name`.
-- - `Discarded`: the command stopped before the whole output was written, and no write failed.
-- - `Unwritten`: a write failed, or the file couldn't get its name, for the reason `fault`.
--
-- In all cases but `Published`, the files are as before. The text on standard error is in language `l`, unless the
-- command line asks for another language.
pub data EndsWithFile (l : Language) (words : List (List ℕ)) (known : Option (List ℕ → Option (List ℕ)))
    (asked : List AskedName) (before after : Option FilesByName) (name : List ℕ) (names : List (List ℕ)) (errors : Port)
    (status : ℕ) : Type 0 where
  NotBegun : (fault : NewFileFault) → IsWhyNotBegun before name fault → after ≡ before → asked ≡ []
      → EndsWithLine (unwritten_line (chosen_language l words) name fault) 1 errors status
      → EndsWithFile l words known asked before after name names errors status
  Published : (written : Port) (answer : Result (Unit {0}) Stop) (told : Option (List ℕ)) (failed : Bool)
      → IsRunToFile l words known asked before written (at_first errors told failed) [] answer
      → is_whole answer ≡ true → AddsFile before after name written.has
      → EndsAs (chosen_language l words) names answer (at_last errors told failed) status
      → EndsWithFile l words known asked before after name names errors status
  Discarded : (written : Port) (left : List ℕ) (answer : Result (Unit {0}) Stop) (told : Option (List ℕ)) (failed : Bool)
      → IsRunToFile l words known asked before written (at_first errors told failed) left answer
      → is_whole answer ≡ false → written.has_failed ≡ false → after ≡ before
      → EndsAs (chosen_language l words) names answer (at_last errors told failed) status
      → EndsWithFile l words known asked before after name names errors status
  Unwritten : (written : Port) (left : List ℕ) (answer : Result (Unit {0}) Stop) (told : Option (List ℕ)) (failed : Bool)
      → IsRunToFile l words known asked before written (at_first errors told failed) left answer
      → (fault : NewFileFault) → IsWhyUnwritten before name (is_whole answer) written.has_failed fault
      → after ≡ before → EndsWithLine (unwritten_line (chosen_language l words) name fault) 1 (at_last errors told failed) status
      → EndsWithFile l words known asked before after name names errors status

-- The command line names no output file, or means no command, or memory ran out. So the output goes to the sink.
abbrev pub GoesToSink : List (List ℕ) → List AskedName → Result (Unit {0}) Stop → Type 0
GoesToSink words asked answer = (output_of words ≡ None) ⊎ LacksCommand words asked answer

-- How the program ends if the output went to the sink.
abbrev pub EndsAtSink : Language → List (List ℕ) → Option (List ℕ → Option (List ℕ)) → List AskedName → (List ℕ → Port)
    → Type 0 → Port → ℕ → Type 0
EndsAtSink l words known asked sink Untouched errors status = HasEnded l words asked
    (λ told left answer. GoesToSink words asked answer × IsRun l words known asked (sink left) Untouched told left answer)
    errors status

-- How the program ends.
-- - `ToSink`: the output went to the sink, and no file was made.
-- - `ToFile`: the words name the output file `name`, and the sink is untouched.
pub data RunsTo (l : Language) (words : List (List ℕ)) (known : Option (List ℕ → Option (List ℕ)))
    (asked : List AskedName) (before after : Option FilesByName) (sink : List ℕ → Port) (Untouched : Type 0)
    (errors : Port) (status : ℕ) : Type 0 where
  ToSink : EndsAtSink l words known asked sink Untouched errors status → after ≡ before
      → RunsTo l words known asked before after sink Untouched errors status
  ToFile : (name : List ℕ) → output_of words ≡ Some name → (command : NamedCommand) → IsCommandLineOf words command
      → Untouched → EndsWithFile l words known asked before after name (names_of command) errors status
      → RunsTo l words known asked before after sink Untouched errors status

-- ---- What inner functions require and answer. No public contract cites these definitions.

-- There is a command line that means `command`.
abbrev pub IsMeantBySome : NamedCommand → Type 0
IsMeantBySome command = (words : List (List ℕ)) × IsCommandLineOf words command

-- The command line `words` means `command`. On a computer with the language `l`, the command line's language is
-- `its_language`.
pub record IsMeantIn (l : Language) (words : List (List ℕ)) (its_language : Language) (command : NamedCommand) : Type 0
  where
    pub said : IsCommandLineOf words command
    pub language : its_language ≡ chosen_language l words

-- How a command that wrote `bytes` to a new file changes the files. The first truth value,
-- `failed`, says whether a write failed. The second says whether the whole output was written. If
-- so, and if the result is `Ok`, there is a new file `name` with `bytes`. Otherwise, the files are
-- as before. A fault in the result says why there is no new file.
abbrev pub EndsFile : Option FilesByName → Option FilesByName → List ℕ → Option (List ℕ) → Bool → Bool
    → Result (Unit {0}) NewFileFault → Type 0
EndsFile before after name bytes failed true (Ok done) = AddsFile before after name bytes
EndsFile before after name bytes failed true (Err fault) = (after ≡ before) × IsWhyUnnamed before name fault
EndsFile before after name bytes failed false (Ok done) = (after ≡ before) × (failed ≡ false)
EndsFile before after name bytes failed false (Err fault) =
    (after ≡ before) × (failed ≡ true) × (fault ≡ new_files.Device)
