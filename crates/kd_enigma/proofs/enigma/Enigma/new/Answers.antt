use Rattle.kd_enigma.proofs.{FilledArrays.each_made, Seats.IsSeatedAs, Seats.are_seats, Seats.AreMapsOf-path}
use Rattle.kd_enigma.proofs.{Ways.no_shift}
use Rattle.{kd_enigma.specs.KeptMaps.key_of_parts, std.proofs.Common.arith, std.proofs.Common.refl}
use Rattle.{std.proofs.Common.rules}
use Rattle.kd_enigma.proofs.enigma.Enigma.new.Goals as goal

pub invariant_of-result : goal.invariant_of-result
invariant_of-result g c =
    let key = c.key.inside in
    let made = c.from_fn-rotors.ensures.items in
    let sit = each_made made (IsSeatedAs key.plugs key.wheels key.rings)
    (λ slot s q lt called. (search rules, (search rules, search rules, search (rules, no_shift)))) in
    rw c.new.ensures (
      refl,
      AreMapsOf-path (key_of_parts (record { wheels = key.wheels; window = key.window }) key.rings key.reflector
          key.plugs)
          c.from_fn-rotors.result c.from_table-reflecting.result c.around_slow-slow_map.result c.enclose-path_map.result
          c.index-rotors.result c.index-window.result g.row.S c.index-window.result
          (are_seats key.plugs c.from_fn-rotors.result key.wheels key.rings (search rules) (search rules)
          (λ slot s lt. sit slot s (grind arith)))
          c.map-board.ensures.plugboard (grind arith) (grind arith) made.long (search rules) (search rules)
          (search rules)
          (omega (arith, c.requires.least)) c.index-rotors.is (grind arith) (grind arith),
      c.requires.least,
      c.requires.most,
    )
