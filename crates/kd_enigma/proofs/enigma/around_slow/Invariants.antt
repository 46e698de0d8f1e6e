use Rattle.{kd_enigma.specs.CurrentPath.around_wheels, std.proofs.Common.take, std.proofs.Common.◌≡◌}
use Rattle.kd_enigma.proofs.enigma.around_slow.Given as goal

abbrev pub invariant-loop-slot : goal.invariant-loop-slot
invariant-loop-slot g l = l.core ≡ around_wheels l.initial.core (take l.slot l.rotors) (take l.slot l.window)
