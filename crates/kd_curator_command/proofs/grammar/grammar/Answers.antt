unfoldable use Rattle.kd_curator_command.specs.CommandLine.{curator_grammar}
use Rattle.kd_curator_command.proofs.grammar.grammar.Goals as goal

pub returns : goal.returns
unfolding curator_grammar
returns c = c.with_commands.ensures _ c.program_grammar.ensures
