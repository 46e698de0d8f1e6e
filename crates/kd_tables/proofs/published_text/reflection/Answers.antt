use Rattle.kd_tables.proofs.Wirings.{reflection_moves, reflection_returns}
use Rattle.std.proofs.Common.{arith}
use Rattle.kd_tables.proofs.published_text.reflection.Goals as goal

pub returns-clause-own_inverse : goal.returns-clause-own_inverse
returns-clause-own_inverse c = grind (arith, reflection_returns, reflection_moves)

pub returns-clause-none_fixed : goal.returns-clause-none_fixed
returns-clause-none_fixed c = grind (arith, reflection_returns, reflection_moves)
