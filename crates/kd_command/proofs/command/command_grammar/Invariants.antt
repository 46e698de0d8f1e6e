use Rattle.kd_command.{proofs.Prelude.take, specs.Inner.IsMadeOf}
use Rattle.kd_command.proofs.command.command_grammar.Given as goal

abbrev pub invariant-loop-word_name : goal.invariant-loop-word_name
invariant-loop-word_name l = IsMadeOf l.command l.name (take l.word_name-index l.words)
