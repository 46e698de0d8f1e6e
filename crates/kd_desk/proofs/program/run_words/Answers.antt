use Rattle.kd_command.specs.CommandLine.{files_of}
use Rattle.kd_desk.proofs.Prelude.{false, refl, true, unborrowed_command}
use Rattle.kd_desk.proofs.Runs.{asked_all, asked_for, asked_yet, done, unread}
use Rattle.kd_command.proofs.SaidCommands.{said_command}
use Rattle.kd_desk.proofs.program.run_words.Goals as goal

pub returns-in_err-command-2-clause-carried : goal.returns-in_err-command-2-clause-carried
returns-in_err-command-2-clause-carried g c =
    λ command says.
    unread _ _ _ _ _ _ _ (said_command _ _ _ c.in_ok-command.ensures.said says) _
    c.from_residual-in_err-command-2.ensures.1 c.in_err-command-2.ensures.read

pub returns-clause-carried : goal.returns-clause-carried
returns-clause-carried g c =
    λ command says.
    done _ _ _ _ _ _ _ (said_command _ _ _ c.in_ok-command.ensures.said says) _
    c.carry_out.ensures.does c.in_ok-command-2.ensures.read

pub returns-in_err-command-2-clause-asked : goal.returns-in_err-command-2-clause-asked
returns-in_err-command-2-clause-asked g c =
    λ command says.
    asked_yet (files_of command) _ _ _ c.from_residual-in_err-command-2.ensures.1
    (asked_for _ _ (said_command _ _ _ c.in_ok-command.ensures.said says) _ _ _ false
    c.requires refl c.in_err-command-2.ensures.asked)

pub returns-clause-asked : goal.returns-clause-asked
returns-clause-asked g c =
    λ command says.
    asked_all (files_of command) _ _ _ _ _ _ c.carry_out.ensures.does
    (asked_for _ _ (said_command _ _ _ c.in_ok-command.ensures.said says) _ _ _ true
    c.requires c.carry_out.ensures.asked c.in_ok-command-2.ensures.asked)

pub returns-in_err-command-2-clause-other_words : goal.returns-in_err-command-2-clause-other_words
returns-in_err-command-2-clause-other_words g c =
    λ none. absurd (none (unborrowed_command c.in_ok-command.command) c.in_ok-command.ensures.said)

pub returns-in_err-command-2-clause-none_asked : goal.returns-in_err-command-2-clause-none_asked
returns-in_err-command-2-clause-none_asked g c =
    λ none. absurd (none (unborrowed_command c.in_ok-command.command) c.in_ok-command.ensures.said)

pub returns-clause-other_words : goal.returns-clause-other_words
returns-clause-other_words g c =
    λ none. absurd (none (unborrowed_command c.in_ok-command.command) c.in_ok-command.ensures.said)

pub returns-clause-none_asked : goal.returns-clause-none_asked
returns-clause-none_asked g c =
    λ none. absurd (none (unborrowed_command c.in_ok-command.command) c.in_ok-command.ensures.said)
