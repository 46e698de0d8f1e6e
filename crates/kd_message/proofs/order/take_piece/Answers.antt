use Rattle.std.proofs.Common.{arith, length-append}
use Rattle.std.proofs.lemmas.Grind.{common_steps}
use Rattle.kd_form.specs.PartMaking.{part_size}
use Rattle.kd_form.proofs.OrderSteps.{letters_few}
use Rattle.kd_message.proofs.Orders.{letters_more, piece_taken}
use Rattle.kd_message.proofs.order.take_piece.Goals as goal

pub returns-then-len-part_size-clause-piece : goal.returns-then-len-part_size-clause-piece
returns-then-len-part_size-clause-piece c =
    (piece_taken c.args.day.now c.args.text.now c.loop-index.letters.items c.loop-index.index
    (part_size c.args.day.now) c.loop-index.invariant.letters (grind (arith, common_steps))).0

pub returns-then-len-part_size-clause-rest : goal.returns-then-len-part_size-clause-rest
returns-then-len-part_size-clause-rest c =
    rw c.split_at.ensures.back
    (piece_taken c.args.day.now c.args.text.now c.loop-index.letters.items c.loop-index.index
    (part_size c.args.day.now) c.loop-index.invariant.letters (grind (arith, common_steps))).1

pub loop-index-preserved : goal.loop-index-preserved
loop-index-preserved c = record {
  letters = letters_more _ _ _ _ _ _ c.loop-index-test.true c.loop-index.invariant.letters
      (rw c.loop-index.invariant.for_space at c.push_letter.ensures);
  few = grind (arith, common_steps, letters_few, length-append);
  for_space = c.loop-index.invariant.for_space;
}
