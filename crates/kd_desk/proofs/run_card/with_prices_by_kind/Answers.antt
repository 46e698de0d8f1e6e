use Rattle.kd_desk.proofs.Prelude.{arith}
use Rattle.kd_desk.proofs.run_card.with_prices_by_kind.Goals as goal

pub unwrap-requires : goal.unwrap-requires
unwrap-requires c = grind (arith, c.by_kind.ensures.some.1, c.alike_prices_are_equal.ensures)
