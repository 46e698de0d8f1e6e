use Rattle.std.proofs.Common.{arith}
use Rattle.kd_enigma.specs.Rotor.{rotor}
use Rattle.kd_typing.proofs.WaysAround.{inward_filled}
use Rattle.kd_typing.proofs.around.inward.Goals as goal

pub returns : goal.returns
returns c =
    inward_filled c.loop-key.row c.args.plugs (rotor c.args.seated.wheel c.args.seated.ring c.args.letter)
    c.loop-key.invariant.size c.requires.permutation.size (λ k lt. c.loop-key.invariant.each k (omega arith))
