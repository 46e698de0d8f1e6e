use Rattle.{kd_enigma.{proofs.Seats.AreMapsOf-path, specs.KeptMaps.key_of_parts}, std.proofs.Common.{arith, rules}}
use Rattle.kd_enigma.proofs.enigma.Enigma.turn_to.Goals as goal

pub invariant_of-self : goal.invariant_of-self
invariant_of-self g c =
    let inside = c.self.inside in
    let kept = c.self.invariant.1 in (
      grind arith,
      AreMapsOf-path (key_of_parts c.new-self-inside.result inside.rings inside.reflector inside.plugs)
          inside.rotors inside.reflecting c.around_slow-self-inside.result c.enclose-self-inside.result
          c.index-self.result c.index-window.result g.row.S c.index-window.result
          (grind (arith, kept)) kept.board kept.reflector (grind arith) (search rules) (search rules) (search rules)
          (search rules)
          (omega (arith, c.self.invariant.2)) c.index-self.is (grind arith) (grind arith),
      c.self.invariant.2,
      c.self.invariant.3,
    )
