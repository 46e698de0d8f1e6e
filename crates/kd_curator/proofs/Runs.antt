-- How a command line is carried out.
use Rattle.std.proofs.Common.{◌≡◌, ◌||◌, ◌≤◌, ℕ, Bool, true, false, List, [], IsErr, IsTrue, Option, Some, None, Result, Ok}
use Rattle.std.proofs.Common.{Err}
use Rattle.std.proofs.Common.{OnErr, inl, refl, arith, ap, subst, sym, ◌∙◌}
use Rattle.clap.specs.Words.{Row, subcommand_of}
use Rattle.kd_tables.specs.declared.model.Model.{Model}
use Rattle.kd_curator_command.specs.CommandLine.{IsCommandLineOf, IsMeant, NamedCommand, curator_grammar}
use Rattle.kd_curator_command.specs.declared.command.Command.TheVariants as commands
use Rattle.kd_curator.specs.Notes.{IsLeftAlone}
use Rattle.kd_curator.specs.Program.{HasMonth}
use Rattle.kd_curator.specs.Ending.{stop_after}
use Rattle.kd_curator.specs.Program.{IsTold, IsAnswerAfterFlush, is_stopped_before_writing}
use Rattle.kd_curator.specs.Program.{is_stopped_by_device}
use Rattle.kd_curator.specs.Refusals.{comes_after_writing, has_written, is_device, is_device_fault, refused_device}
use Rattle.kd_curator.specs.declared.fault.PageFault.{PageFault}
use Rattle.kd_curator.specs.declared.fault.PageFault.TheVariants as faults
use Rattle.kd_curator.specs.Program.{AnswersAfter, is_whole}
use Rattle.kd_curator.specs.declared.fault.Refused.{Refused}
use Rattle.kd_curator.specs.declared.stop.Stop.{Stop}

nothing_left : (whole : Bool) (answer : Result (Unit {0}) Stop) → AnswersAfter whole [] answer answer
nothing_left true answer = inl (refl, refl)
nothing_left false answer = refl

ends_after : (told : Result (Unit {0}) Refused) → IsAnswerAfterFlush [] (stop_after told) (stop_after told)
ends_after told = nothing_left (is_whole (stop_after told)) (stop_after told)

-- the program's answer is a command's answer
pub told_so : (Does : Result (Unit {0}) Refused → Type 0) (told : Result (Unit {0}) Refused)
    (answer : Result (Unit {0}) Stop) → Does told → answer ≡ stop_after told → IsTold Does [] answer
told_so Does told answer does is =
    record { told = told; does = does; answers = subst (IsAnswerAfterFlush [] (stop_after told)) (sym is) (ends_after told) }

-- a command that stopped before it wrote anything left the sink as it was
pub stopped_so : {X : Type 0} (told : Result (Unit {0}) Refused) (answer : Result (Unit {0}) Stop)
    → answer ≡ stop_after told → (IsErr told → has_written told ≡ false → X) → IsTrue (is_stopped_before_writing answer)
    → X
stopped_so (Ok done) answer is holds stopped = absurd (cc)
stopped_so (Err refused) answer is holds stopped =
    holds refl (grind (arith, subst (λ a. IsTrue (is_stopped_before_writing a)) is stopped))

-- a command whose only error is a failed device hasn't stopped for another reason
pub only_device : {X : Type 0} (told : Result (Unit {0}) Refused) → OnErr told (told ≡ Err refused_device) → IsErr told
    → has_written told ≡ false → X
only_device (Ok done) device failed other = absurd (cc)
only_device (Err refused) device failed other =
    let same = ap has_written device in let wrong : true ≡ false = sym same ∙ other in cc

no_device : (fault : PageFault) → comes_after_writing fault ≡ false → is_device_fault fault ≡ false
no_device faults.Device wrong = let e : true ≡ false = wrong in cc
no_device _ other = refl

-- a command whose sink is untouched but for a failed device has written nothing
pub not_device : {X : Type 0} (told : Result (Unit {0}) Refused) → (IsErr told → is_device told ≡ false → X)
    → IsErr told → has_written told ≡ false → X
not_device (Ok done) holds failed other = absurd (cc)
not_device (Err refused) holds failed other = holds failed (no_device refused.fault other)

device_told : (told : Result (Unit {0}) Refused) → is_device told ≡ is_stopped_by_device (stop_after told)
device_told (Ok done) = refl
device_told (Err refused) = refl

-- the sink has failed if the command says so
pub device_so : (before after : Bool) (told : Result (Unit {0}) Refused) (answer : Result (Unit {0}) Stop)
    → answer ≡ stop_after told → after ≡ (before || is_device told) → after ≡ (before || is_stopped_by_device answer)
device_so before after told answer is failed =
    failed ∙ ap (λ b. before || b) (device_told told ∙ sym (ap is_stopped_by_device is))

-- nothing is told on standard error
pub left_alone : (had : Option (List ℕ)) (failed : Bool)
    → IsLeftAlone (record { had = had; has = had; had_failed = failed; has_failed = failed })
left_alone had failed = record { same = refl; failed = refl }

-- the number of days that the words ask for is that of a month
meant_month : (said : Option (List ℕ × List Row)) (model : Model) (days : ℕ)
    → IsMeant said (commands.EmptySheet model days) → days ≤ 31
meant_month None model days meant = absurd meant
meant_month (Some said) model days meant = let within = meant.month.within in omega (arith, within.last)

pub months_so : (words : List (List ℕ)) (command : NamedCommand) → IsCommandLineOf words command → HasMonth command
months_so words (commands.EmptySheet model days) says =
    meant_month (subcommand_of curator_grammar words) model days says.said
months_so words (commands.OnMachine d e f) says = tt
months_so words (commands.Message d e f g) says = tt
months_so words (commands.Orders d e f g) says = tt
months_so words (commands.TypingPage d) says = tt
months_so words (commands.Table d e) says = tt
months_so words (commands.Sheet d e) says = tt
months_so words (commands.Look e) says = tt
