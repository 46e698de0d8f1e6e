use Rattle.std.proofs.Common.{◌≡◌, map, take}
use Rattle.kd_slips.specs.Counts.{counts_of}
use Rattle.kd_spreadsheet.proofs.notes.taken.counts_of_days.Given as goal

abbrev pub invariant-loop-day : goal.invariant-loop-day
invariant-loop-day l = l.counts.items ≡ map counts_of (take l.day-index l.days)
