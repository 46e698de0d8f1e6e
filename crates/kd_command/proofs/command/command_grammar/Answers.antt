use Rattle.kd_command.proofs.{Prelude.{ℕ, Bor, List, []}, Grammars.{first_word, one_word_more}}
use Rattle.std.proofs.lemmas.List.{take_more, take_all}
use Rattle.kd_command.proofs.command.command_grammar.Goals as goal

pub loop-word_name-init : goal.loop-word_name-init
loop-word_name-init c = first_word _ _ c.new.ensures.app c.new.ensures.local c.disable_help_flag-command.ensures

pub loop-word_name-preserved : goal.loop-word_name-preserved
loop-word_name-preserved c =
    let none : Bor (List ℕ) = record { ref_ptr = (0, 0); now = [] } in
    rw (take_more c.args.words.now c.loop-word_name.word_name-index none c.loop-word_name-test.true)
    (one_word_more _ _ c.loop-word_name.invariant c.new-in-loop-word_name.ensures.rule
    c.new-in-loop-word_name.ensures.optional.1 c.in_ok-command.ensures)

pub returns : goal.returns
returns c =
    rw (take_all c.loop-word_name.word_name-index c.args.words.now c.loop-word_name-test.false)
    at c.loop-word_name.invariant
