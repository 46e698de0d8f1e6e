use Rattle.{kd_drum.specs.Counts.bars_met_by, std.proofs.Common.take, std.proofs.Common.◌≡◌}
use Rattle.kd_drum.proofs.counts.bars_met_by.Given as goal

abbrev pub invariant-loop-bar : goal.invariant-loop-bar
invariant-loop-bar l = l.met ≡ bars_met_by (take l.bar-index l.bars) l.wheels
