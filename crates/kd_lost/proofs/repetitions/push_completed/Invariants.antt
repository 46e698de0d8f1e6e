use Rattle.std.proofs.Common.{◌≡◌, ◌≤◌, ◌++◌, drop}
use Rattle.kd_lost.specs.Repetitions.{completed_from}
use Rattle.kd_lost.proofs.repetitions.push_completed.Given as goal

abbrev pub invariant-loop-byte : goal.invariant-loop-byte
invariant-loop-byte l = (l.place ≤ l.byte-index)
    × (l.fn.bytes.items ++ completed_from l.copies l.read l.shown 0 l.body
    ≡ l.bytes.items ++ completed_from l.copies l.read l.shown l.place (drop l.byte-index l.body))
