use Rattle.std.proofs.Common.{◌≡◌, arith}
use Rattle.std.proofs.lemmas.Str.Pattern.{split_once_first}
use Rattle.kd_curator_command.specs.Days.{both, days_named, range_named}
use Rattle.kd_curator_command.proofs.DaysNamed.{adds_both, adds_last, adds_none, days_named-single, days_named-first}
use Rattle.kd_curator_command.proofs.days.+add_ranges.Goals as goal

pub returns-in_err-add_range-in-Some : goal.returns-in_err-add_range-in-Some
returns-in_err-add_range-in-Some t c =
    grind (arith, split_once_first, adds_none, days_named-first, c.in_err-add_range-in-Some.ensures)

pub returns-in-None : goal.returns-in-None
returns-in-None t c = grind (arith, split_once_first, adds_last, days_named-single)

pub returns-in_ok-add_range-in-Some : goal.returns-in_ok-add_range-in-Some
returns-in_ok-add_range-in-Some t c =
    let parts : days_named c.args.text.now ≡ both (range_named c.in-Some.range.now) (days_named c.in-Some.ranges.now) =
    grind (arith, split_once_first, days_named-first) in
    rw parts (adds_both _ _ _ _ _ _ _ c.in_ok-add_range-in-Some.ensures c.add_ranges.ensures)
