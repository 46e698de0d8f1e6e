use Rattle.std.proofs.Common.{length}
use Rattle.kd_typing.proofs.around.+around_all.Given as goal

abbrev pub decreases-around_all : goal.decreases-around_all
decreases-around_all l = length l.wheels.now
