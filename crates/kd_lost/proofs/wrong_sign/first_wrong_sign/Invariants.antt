use Rattle.std.proofs.Common.{◌≤◌, ◌+◌, take}
use Rattle.kd_lost.specs.WrongSign.{IsReadTo}
use Rattle.kd_lost.proofs.wrong_sign.first_wrong_sign.Given as goal

abbrev pub invariant-loop-index : goal.invariant-loop-index
invariant-loop-index l = IsReadTo (take l.index l.body) l.line l.letter
    × (l.line ≤ l.index + 2) × (l.letter ≤ l.index + 1)
