-- The file that the option `-o` names.
use Rattle.std.proofs.Common.{◌≡◌, ◌∙◌, ℕ, Bool, true, false, List, [], Option, Result, Ok, Err, IsTrue, inl, inr}
use Rattle.std.proofs.Common.{ap, refl, subst, sym, option_map}
use Rattle.std.specs.Io.KnownBytes.{append_known}
use Rattle.clap.specs.Words.{IsAmong, fault_of}
use Rattle.clap.specs.declared.error.kind.ErrorKind.{ErrorKind}
use Rattle.kd_tables.specs.Ports.{Port}
use Rattle.kd_host.specs.Ending.{EndsWithLine}
use Rattle.kd_host.specs.Files.{AskedName}
use Rattle.kd_new_file.specs.NewFiles.{AddsFile, FilesByName}
use Rattle.kd_new_file.specs.declared.new_file_fault.NewFileFault.{NewFileFault}
use Rattle.kd_language.specs.declared.language.Language.{Language}
use Rattle.kd_curator_command.specs.CommandLine.{IsNoCommandLine, chosen_language, curator_grammar}
use Rattle.kd_curator.specs.Ending.{EndsAs, stop_after}
use Rattle.kd_curator.specs.OutputFile.{Discarded, EndsFile, EndsWithFile, IsRunToFile, IsWhyUnwritten, Published, Unwritten, unwritten_line}
use Rattle.kd_curator.specs.Program.{AnswersAfter, Carried, CarriesOut, FileUnread, IsRun, LacksCommand, NoMemory, OtherWords}
use Rattle.kd_curator.specs.Program.{Shown}
use Rattle.kd_curator.specs.Program.{at_first, at_last, is_usage, is_whole}
use Rattle.kd_curator.specs.declared.stop.Stop.{Stop}
use Rattle.kd_curator.specs.declared.stop.Stop.TheVariants as stops
use Rattle.kd_curator.proofs.Passing.{none_gathered}

-- words in which clap finds a fault are no command line
pub no_line_among : (words : List (List ℕ)) (kind : ErrorKind) → IsAmong kind (fault_of curator_grammar words)
    → IsNoCommandLine words
no_line_among words kind among command says = subst (IsAmong kind) says.taken among

-- if no command is known, no file was asked for
pub lacking : (words : List (List ℕ)) (asked : List AskedName) (answer : Result (Unit {0}) Stop) → asked ≡ []
    → LacksCommand words [] answer → LacksCommand words asked answer
lacking words asked answer none lacks = (none, lacks.1)

-- a text that is written at once leaves nothing to pass on
pub other_carried : (l : Language) (words : List (List ℕ)) (known : Option (List ℕ → Option (List ℕ)))
    (asked : List AskedName) (had has : Option (List ℕ)) (had_failed has_failed : Bool) (errors : Port)
    (answer : Result (Unit {0}) Stop) → asked ≡ []
    → CarriesOut l words known []
    (record { had = had; has = has; had_failed = had_failed; has_failed = has_failed }) errors [] answer
    → CarriesOut l words known asked
    (record { had = had; has = append_known has []; had_failed = had_failed; has_failed = has_failed }) errors []
    answer
other_carried l words known asked had has had_failed has_failed errors answer none carried =
    let sink : Option (List ℕ) → Port =
    λ h. record { had = had; has = h; had_failed = had_failed; has_failed = has_failed } in
    subst (λ names. CarriesOut l words known names (sink (append_known has [])) errors [] answer) (sym none)
    (subst (λ h. CarriesOut l words known [] (sink h) errors [] answer) (sym (none_gathered has)) carried)

-- after all was written that the answer says, nothing is left to pass on
flushed : (whole : Bool) (left : List ℕ) (first answer : Result (Unit {0}) Stop) → is_whole first ≡ whole
    → AnswersAfter whole left first answer → is_whole answer ≡ true → left ≡ []
flushed true left first answer is (inl (same, none)) whole = none
flushed true left first answer is (inr (device, some)) whole =
    let wrong : false ≡ true = sym (ap is_whole device) ∙ whole in cc
flushed false left first answer is same whole =
    let wrong : false ≡ true = sym is ∙ sym (ap is_whole same) ∙ whole in cc

usage_not_whole : (answer : Result (Unit {0}) Stop) → IsTrue (is_usage answer) → is_whole answer ≡ true → ⊥
usage_not_whole (Ok done) usage whole = cc
usage_not_whole (Err (stops.Usage text)) usage whole = cc
usage_not_whole (Err (stops.Refused refused)) usage whole = cc

pub none_left : (l : Language) (words : List (List ℕ)) (known : Option (List ℕ → Option (List ℕ)))
    (asked : List AskedName) (sink errors : Port) (left : List ℕ) (answer : Result (Unit {0}) Stop)
    → CarriesOut l words known asked sink errors left answer → is_whole answer ≡ true → left ≡ []
none_left l words known asked sink errors left answer (Carried command says texts many knows asks told) whole =
    flushed (is_whole (stop_after told.told)) left (stop_after told.told) answer refl told.answers whole
none_left l words known asked sink errors left answer (Shown text kind among help none told alone) whole =
    flushed (is_whole (stop_after told.told)) left (stop_after told.told) answer refl told.answers whole
none_left l words known asked sink errors left answer
    (FileUnread command says fault place why knows asks last is alone) whole =
    let wrong : false ≡ true = sym (ap is_whole is) ∙ whole in cc
none_left l words known asked sink errors left answer (OtherWords none no_help nothing usage alone) whole =
    absurd (usage_not_whole answer usage whole)
none_left l words known asked sink errors left answer (NoMemory nothing is alone) whole =
    let wrong : false ≡ true = sym (ap is_whole is) ∙ whole in cc

module _ (l : Language) (words : List (List ℕ)) (known : Option (List ℕ → Option (List ℕ))) (asked : List AskedName)
    (before after : Option FilesByName) (name : List ℕ) (names : List (List ℕ)) (errors : Port) (status : ℕ)
    (told : Option (List ℕ)) (failed : Bool) (answer : Result (Unit {0}) Stop) (had has : Option (List ℕ)) (had_failed has_failed : Bool)
    (empty : had ≡ option_map (λ files. []) before) (fresh : had_failed ≡ false) (Untouched : Type 0) where
  -- the new file before and after, with bytes that it didn't take
  abbrev file : List ℕ → Port
  file left = record { had = had; has = append_known has left; had_failed = had_failed; has_failed = has_failed }

  abbrev Runs : List ℕ → Type 0
  Runs left = IsRun l words known asked (file left) Untouched (at_first errors told failed) left answer

  run_so : (left : List ℕ) → Runs left
      → IsRunToFile l words known asked before (file left) (at_first errors told failed) left answer
  run_so left run = record {
    empty = empty;
    fresh = fresh;
    run = record { carried = run.carried; untouched = λ stopped. tt; failed = run.failed };
  }

  well : (whole : Bool) → is_whole answer ≡ whole → EndsFile before after name has has_failed whole (Ok tt)
      → (left : List ℕ) → Runs left → EndsAs (chosen_language l words) names answer (at_last errors told failed) status
      → EndsWithFile l words known asked before after name names errors status
  well true whole adds left run ends =
      let none = none_left l words known asked (file left) (at_first errors told failed) left answer run.carried whole in
      Published (file []) answer told failed (run_so [] (subst Runs none run)) whole
      (subst (AddsFile before after name) (sym (none_gathered has)) adds) ends
  well false whole (same, fine) left run ends =
      Discarded (file left) left answer told failed (run_so left run) whole fine same ends

  badly : (whole : Bool) → is_whole answer ≡ whole → (fault : NewFileFault)
      → EndsFile before after name has has_failed whole (Err fault) → (left : List ℕ) → Runs left
      → EndsWithLine (unwritten_line (chosen_language l words) name fault) 1 (at_last errors told failed) status
      → EndsWithFile l words known asked before after name names errors status
  badly true whole fault (same, why) left run ends =
      Unwritten (file left) left answer told failed (run_so left run) fault
      (subst (λ all. IsWhyUnwritten before name all has_failed fault) (sym whole) why) same ends
  badly false whole fault (same, bad, device) left run ends =
      Unwritten (file left) left answer told failed (run_so left run) fault
      (subst (λ all. IsWhyUnwritten before name all has_failed fault) (sym whole) (bad, device)) same ends

  pub ends_well : EndsFile before after name has has_failed (is_whole answer) (Ok tt) → (left : List ℕ) → Runs left
      → EndsAs (chosen_language l words) names answer (at_last errors told failed) status
      → EndsWithFile l words known asked before after name names errors status
  ends_well ended left run ends = well (is_whole answer) refl ended left run ends

  pub ends_badly : (fault : NewFileFault) → EndsFile before after name has has_failed (is_whole answer) (Err fault)
      → (left : List ℕ) → Runs left → EndsWithLine (unwritten_line (chosen_language l words) name fault) 1 (at_last errors told failed) status
      → EndsWithFile l words known asked before after name names errors status
  ends_badly fault ended left run ends = badly (is_whole answer) refl fault ended left run ends
