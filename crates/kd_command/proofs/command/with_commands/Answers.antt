use Rattle.kd_command.{proofs.Grammars.one_command_more, proofs.Prelude.{Bor, List, [], ℕ, ap, sym, ◌∙◌}}
use Rattle.kd_command.specs.Inner.{with_commands}
use Rattle.std.proofs.lemmas.{List.Sums.fold_more, List.take_all}
use Rattle.kd_command.proofs.command.with_commands.Goals as goal

pub loop-name-preserved : goal.loop-name-preserved
loop-name-preserved c =
    let none : Bor (List ℕ) × Bor (List (Bor (List ℕ))) =
    (record { ref_ptr = (0, 0); now = [] }, record { ref_ptr = (0, 0); now = [] }) in
    one_command_more c.loop-name.invariant c.in_ok-command.ensures c.in_ok-grammar.ensures
    ∙ sym (fold_more _ _ c.args.commands.now c.loop-name.name-index none c.loop-name-test.true)

pub returns : goal.returns
returns c = λ app is. rw (take_all c.loop-name.name-index c.args.commands.now c.loop-name-test.false)
    at c.loop-name.invariant ∙ ap (λ a. with_commands a c.args.commands.now) is
