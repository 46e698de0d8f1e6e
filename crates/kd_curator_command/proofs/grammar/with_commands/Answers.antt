use Rattle.kd_curator_command.{proofs.Grammars.one_command_more, proofs.Prelude.{Bor, List, [], ℕ, ap, sym, ◌∙◌}}
use Rattle.kd_curator_command.specs.CommandLine.{with_commands}
use Rattle.kd_curator_command.specs.declared.grammar.{CommandWords.CommandWords}
use Rattle.std.proofs.lemmas.{List.Sums.fold_more, List.take_all}
use Rattle.kd_curator_command.proofs.grammar.with_commands.Goals as goal

pub loop-words-preserved : goal.loop-words-preserved
loop-words-preserved c =
    let nothing : Bor (List ℕ) = record { ref_ptr = (0, 0); now = [] } in
    let none : CommandWords =
    record { name = nothing; about = (nothing, nothing); arguments = record { ref_ptr = (0, 0); now = [] } } in
    one_command_more c.loop-words.invariant c.in_ok-command.ensures c.in_ok-grammar.ensures
    ∙ sym (fold_more _ _ c.args.commands.now c.loop-words.words-index none c.loop-words-test.true)

pub returns : goal.returns
returns c = λ app is. rw (take_all c.loop-words.words-index c.args.commands.now c.loop-words-test.false)
    at c.loop-words.invariant ∙ ap (λ a. with_commands a c.args.commands.now) is
