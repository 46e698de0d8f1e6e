use Rattle.kd_enigma.proofs.{Seats.AreMapsOf-path, enigma.Enigma.step.Goals.{else-stands-stood, then-stands-stood}}
use Rattle.{kd_enigma.specs.CurrentPath.around_wheels, kd_enigma.specs.KeptMaps.{key_of_parts, slow_slots}}
use Rattle.{std.proofs.Common.{arith, rules, ◌≡◌}}
use Rattle.kd_step.proofs.LettersAfterStep.{slow_still}
use Rattle.kd_enigma.proofs.enigma.Enigma.step.Goals as goal

pub invariant_of-self : goal.invariant_of-self
invariant_of-self g c =
    let inside = c.self.inside in
    let kept = c.self.invariant.1 in
    let now = c.if-stands-stood.self-inside in
    let around_now = around_wheels inside.reflecting (slow_slots inside.rotors) (slow_slots c.step.new.self.window) in
    let stands : now ≡ record inside { stepper = c.step.new.self; slow_map = around_now } = elim
    c.if-stands-stood.branch [
      | then-stands-stood w ↦ grind arith
      | else-stands-stood w ↦ grind (arith, slow_still)
    ] in (
      grind arith,
      AreMapsOf-path (key_of_parts now.stepper now.rings now.reflector now.plugs) now.rotors now.reflecting now.slow_map
          c.enclose-self-inside.result c.index-self.result c.shown-right.result g.row.S 0
          (grind (arith, kept)) (grind (arith, kept)) (grind (arith, kept)) (grind arith)
          (search rules) (search rules) (search rules) c.shown-right.ensures.size
          (omega (arith, c.self.invariant.2)) c.index-self.is c.shown-right.ensures.value (grind arith),
      c.self.invariant.2,
      c.self.invariant.3,
    )
