use Rattle.kd_lost.proofs.KeyLetters.{lost_everywhere, two_letters, one_letter}
use Rattle.kd_lost.proofs.copies.key_letter.Goals as goal

pub returns-in_default : goal.returns-in_default
returns-in_default c = lost_everywhere c.args.number c.args.copies.now c.in_default.ensures

pub returns-then-has_other : goal.returns-then-has_other
returns-then-has_other c =
    two_letters c.args.number c.args.copies.now c.in-Some.letter c.in-Some.ensures c.if-has_other.ensures.other

pub returns : goal.returns
returns c = one_letter c.args.number c.args.copies.now c.in-Some.letter c.in-Some.ensures c.if-has_other.ensures.none
