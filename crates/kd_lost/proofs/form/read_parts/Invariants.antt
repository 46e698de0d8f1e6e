use Rattle.std.proofs.Common.{◌≡◌, ◌≤◌, ◌+◌, ◌++◌, List, length, MatchOption, unwrap_or, option_map}
use Rattle.kd_lost.specs.DamagedForm.{AreReadOf, PlacedPart, completed_parts, damaged_parts_of, parts_cut, placed_from}
use Rattle.kd_lost.proofs.form.read_parts.Given as goal

abbrev pub invariant-loop-left : goal.invariant-loop-left
invariant-loop-left l = (length l.parts.items ≤ 255) × (done : List PlacedPart)
    × AreReadOf l.day (completed_parts l.copies 0 done) l.parts.items
    × MatchOption l.left (damaged_parts_of l.form ≡ done)
    (λ rest. (damaged_parts_of l.form ≡ done ++ placed_from l.line (parts_cut rest.now))
    × (l.line + length rest.now ≤ length l.form + 1))

abbrev pub decreases-loop-left : goal.decreases-loop-left
decreases-loop-left l = unwrap_or (option_map (λ rest. length rest.now + 1) l.left) 0
