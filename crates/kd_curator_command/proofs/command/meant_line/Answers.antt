use Rattle.kd_curator_command.proofs.Prelude.{refl, rules}
use Rattle.kd_curator_command.proofs.command.meant_line.Goals as goal

pub returns-in_err-command-clause-none : goal.returns-in_err-command-clause-none
returns-in_err-command-clause-none c = λ _ command is language has. c.in_err-command.ensures.none refl command is

pub returns-in_err-language-clause-none : goal.returns-in_err-language-clause-none
returns-in_err-language-clause-none c =
    λ _ command is language has. c.language_said.ensures.none (search rules) language has
