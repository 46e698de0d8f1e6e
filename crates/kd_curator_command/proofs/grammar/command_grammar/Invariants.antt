use Rattle.kd_curator_command.proofs.{Grammars.shape_with, Prelude.{take, IsMadeOf}}
use Rattle.kd_curator_command.proofs.grammar.command_grammar.Given as goal

abbrev pub invariant-loop-argument : goal.invariant-loop-argument
invariant-loop-argument l =
    IsMadeOf l.command (shape_with l.words.name.now (take l.argument-index l.words.arguments.now))
