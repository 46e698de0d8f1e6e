use Rattle.{kd_enigma.proofs.Maps.read_at, kd_enigma.specs.Rotor.rotor, kd_tables.specs.Permutation.followed_by}
use Rattle.{kd_tables.specs.Permutation.inverse, std.proofs.Common.arith}
use Rattle.kd_enigma.proofs.rotor.Rotor.enclose.Goals as goal

pub returns : goal.returns
returns c =
    let inside = c.self.inside in
    let turns = rotor inside.wheel inside.ring in
    let ways =
    read_at (λ window. (followed_by inside.board (turns window), followed_by (inverse (turns window)) inside.board))
    inside.ways c.args.window c.index.result c.index-self-index.result c.self.invariant c.index.ensures.value
    (omega arith) in
    grind arith
