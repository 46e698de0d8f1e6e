use Rattle.std.proofs.Common.{arith, length}
use Rattle.std.proofs.lemmas.Grind.{common_steps}
use Rattle.kd_lost.proofs.HeadingLetters.{letter_there}
use Rattle.kd_lost.proofs.heading_line.begins_apart.Goals as goal

pub split_at-requires : goal.split_at-requires
split_at-requires c = grind (arith, letter_there c.args.bytes.now (length c.args.front.now))

pub returns-then-right_signs-front : goal.returns-then-right_signs-front
returns-then-right_signs-front c = grind (arith, common_steps)
