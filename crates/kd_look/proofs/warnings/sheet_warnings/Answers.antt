use Rattle.std.specs.String.{string_bytes}
use Rattle.kd_look.proofs.DayLines.{warns_of_none}
use Rattle.kd_look.proofs.warnings.sheet_warnings.Goals as goal

pub returns : goal.returns
returns c = record {
  alike = _;
  of_alike = c.in_ok-push_alike_days.ensures (warns_of_none c.args.wording.language c.args.name.now
      (string_bytes c.new-lines.result) c.new-lines.ensures.bytes);
  whole = c.in_ok-push_few_days.ensures;
}
