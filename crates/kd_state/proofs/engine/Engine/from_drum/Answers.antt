use Rattle.kd_state.proofs.Slots.{stand_on_wheels}
use Rattle.std.proofs.Common.{arith}
use Rattle.kd_state.proofs.engine.Engine.from_drum.Goals as goal

pub unwrap-requires : goal.unwrap-requires
unwrap-requires c = grind (arith, stand_on_wheels)
