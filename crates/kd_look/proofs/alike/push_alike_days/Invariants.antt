use Rattle.std.specs.String.{string_bytes}
use Rattle.kd_look.specs.Warnings.{WarnsOfDays}
use Rattle.kd_look.proofs.alike.push_alike_days.Given as goal

abbrev pub invariant-loop-number : goal.invariant-loop-number
invariant-loop-number l = WarnsOfDays l.wording.language l.name (string_bytes l.initial.lines)
    → WarnsOfDays l.wording.language l.name (string_bytes l.lines)
