use Rattle.std.proofs.Common.{arith}
use Rattle.std.proofs.lemmas.Grind.{common_steps}
use Rattle.kd_form.proofs.Prelude.{err_is}
use Rattle.kd_lost.proofs.KeyLetters.{all_but, step_fails, step_goes}
use Rattle.kd_lost.proofs.copies.+push_key_letters.Goals as goal

pub returns-in_err-letter : goal.returns-in_err-letter
returns-in_err-letter t c =
    rw (err_is _ _ c.from_residual.ensures.1)
    (step_fails c.args.number c.args.start.now c.args.end.now c.one-item.result c.other-item.result _
    c.in-len1-up.len_at_least c.one-item.is c.in-len1-up-end.len_at_least c.other-item.is c.in_err-letter.ensures)

pub returns : goal.returns
returns t c =
    step_goes c.args.number c.args.start.now c.args.end.now c.one-item.result c.other-item.result c.in_ok-letter.letter
    c.args.letters.now.items c.push.new.self.items c.push_key_letters.new.letters.items c.push_key_letters.result
    c.in-len1-up.len_at_least c.one-item.is c.in-len1-up-end.len_at_least c.other-item.is c.in_ok-letter.ensures
    c.push.ensures.items
    (rw (all_but c.args.start.now 1, all_but c.args.end.now 1) at c.push_key_letters.ensures)

pub returns-2 : goal.returns-2
returns-2 t c = grind (arith, common_steps)

pub push-requires : goal.push-requires
push-requires t c = omega arith
