use Rattle.std.proofs.Common.{arith}
use Rattle.kd_look.specs.GroupDays.{is_day_with, search_of}
use Rattle.kd_look.proofs.Groups.{filter-range-more}
use Rattle.kd_look.proofs.group_days.days_with.Goals as goal

pub loop-index-preserved : goal.loop-index-preserved
loop-index-preserved c =
    let more = filter-range-more (is_day_with (search_of c.args.search.now) c.args.group) 1 c.loop-index.index in
    grind (arith, more)
