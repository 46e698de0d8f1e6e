use Rattle.kd_card.proofs.OneCard.{to_z-of_z, ◌∙◌}
use Rattle.std.proofs.Common.{rules, w32}
use Rattle.kd_card.proofs.card_reader.read_sum.Goals as goal

pub returns : goal.returns
returns c =
    let sum = to_z-of_z w32 c.sum.result (search rules) ∙ c.sum.ensures in
    rw (c.format.ensures.text, sum) at c.read_value.ensures
