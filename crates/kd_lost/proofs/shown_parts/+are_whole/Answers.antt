use Rattle.std.proofs.Common.{arith}
use Rattle.kd_lost.specs.ShownParts.{IsNumberWhole}
use Rattle.kd_lost.proofs.ShownParts.{number_missing, number_there}
use Rattle.kd_lost.proofs.shown_parts.+are_whole.Goals as goal

pub returns-then-is_number_whole : goal.returns-then-is_number_whole
returns-then-is_number_whole t c =
    number_there (IsNumberWhole c.args.parts.now) c.args.number c.args.count (omega (arith, c.if-count-eq0.false))
    c.is_number_whole.ensures c.if-is_number_whole.true c.are_whole.ensures

pub returns-else-is_number_whole : goal.returns-else-is_number_whole
returns-else-is_number_whole t c =
    number_missing (IsNumberWhole c.args.parts.now) c.args.number c.args.count (omega (arith, c.if-count-eq0.false))
    c.is_number_whole.ensures c.if-is_number_whole.false
