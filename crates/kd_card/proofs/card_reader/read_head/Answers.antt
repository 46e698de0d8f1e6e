use Rattle.std.proofs.Common.{arith}
use Rattle.kd_card.proofs.card_reader.read_head.Goals as goal

pub returns-in_err-day : goal.returns-in_err-day
returns-in_err-day c =
    rw c.from_residual.ensures
    (λ version day rest head. grind (arith, c.in_default.ensures day rest, c.in_err-day.ensures day rest))
