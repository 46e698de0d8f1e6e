use Rattle.std.proofs.Common.{arith, ◌≡◌}
use Rattle.kd_typing.specs.RotorTable.{into_rows}
use Rattle.kd_typing.proofs.rotor_rows.RotorRows.draw_into.Goals as goal

pub returns : goal.returns
unfolding into_rows
returns g c =
    let all : c.loop-letter.letter ≡ 26 = omega arith in
    rw all at c.loop-letter.invariant
