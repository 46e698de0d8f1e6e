use Rattle.std.proofs.Common.{◌≡◌, ◌≤◌, length, take}
use Rattle.kd_form.specs.PartMaking.{part_size}
use Rattle.kd_form.specs.Sending.{space_letter, text_letters}
use Rattle.kd_message.proofs.order.take_piece.Given as goal

abbrev pub invariant-loop-index : goal.invariant-loop-index
invariant-loop-index l = record {
  letters : l.letters.items ≡ text_letters l.day (take l.index l.text);
  few : length l.letters.items ≤ part_size l.day;
  for_space : l.for_space ≡ space_letter l.day;
}
