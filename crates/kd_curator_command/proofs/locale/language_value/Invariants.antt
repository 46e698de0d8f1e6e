use Rattle.std.proofs.Common.{◌≡◌, length, map}
use Rattle.kd_curator_command.specs.Locale.{language_value}
use Rattle.kd_curator_command.proofs.locale.language_value.Given as goal

abbrev pub invariant-loop-left : goal.invariant-loop-left
invariant-loop-left g l =
    language_value (map g.S.AsStr.text l.words) ≡ language_value (map g.S.AsStr.text l.left)

abbrev pub decreases-loop-left : goal.decreases-loop-left
decreases-loop-left g l = length l.left
