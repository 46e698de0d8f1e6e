use Rattle.kd_curator_command.proofs.{Prelude.{ℕ, Bor, List, [], take}, Grammars.{first_shape, one_argument_more}}
use Rattle.std.proofs.lemmas.List.{take_more, take_all}
use Rattle.std.specs.Prelude.{get_or}
use Rattle.kd_curator_command.specs.declared.grammar.Argument.{Argument}
use Rattle.kd_curator_command.specs.declared.grammar.ArgumentSort.TheVariants.{Needed}
use Rattle.kd_curator_command.proofs.grammar.command_grammar.Goals as goal

pub loop-argument-init : goal.loop-argument-init
loop-argument-init c = first_shape _ _ _ c.new.ensures.app c.new.ensures.local c.about-command.ensures

pub loop-argument-preserved : goal.loop-argument-preserved
loop-argument-preserved c =
    let nothing : Bor (List ℕ) = record { ref_ptr = (0, 0); now = [] } in
    let none : Argument = record { name = nothing; sort = Needed; help = (nothing, nothing) } in
    let words = c.args.words.now in
    let place = c.loop-argument.argument-index in
    rw (take_more words.arguments.now place none c.loop-argument-test.true)
    (one_argument_more words.name.now (take place words.arguments.now) c.argument_of.result
    (get_or words.arguments.now place none) c.loop-argument.invariant c.argument_of.ensures.rule c.argument_of.ensures.local
    c.in_ok-command.ensures)

pub returns : goal.returns
returns c =
    rw (take_all c.loop-argument.argument-index c.args.words.now.arguments.now c.loop-argument-test.false)
    at c.loop-argument.invariant
