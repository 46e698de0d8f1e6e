use Rattle.std.proofs.Common.{arith}
use Rattle.std.proofs.lemmas.Grind.{elements}
use Rattle.kd_state.proofs.numbered_items.numbered_item.Goals as goal

pub returns : goal.returns
returns g c = grind (arith, elements)
