use Rattle.std.proofs.Common.{refl}
use Rattle.std.proofs.lemmas.Result.{IfOk-weaker}
use Rattle.std.specs.String.{string_bytes}
use Rattle.kd_look.proofs.DayLines.{warns_of_more}
use Rattle.kd_look.specs.Warnings.{day_line}
use Rattle.kd_look.proofs.day_lines.push_day_line.Goals as goal

pub returns : goal.returns
returns c = record {
  line = IfOk-weaker c.push_line.result _ _
      (λ _ added. (
        c.first_line.result.now,
        c.first_line.ensures.first,
        record {
          text = day_line c.args.language c.args.name.now c.first_line.result.now;
          fits = record { plain = c.first_line.ensures.plain; whole = refl };
          added = added;
        },
      )) c.push_line.ensures;
  warns = IfOk-weaker c.push_line.result _ _
      (λ _ added before. warns_of_more c.args.language c.args.name.now c.first_line.result.now
      (string_bytes c.args.lines.now) (string_bytes c.push_line.new.lines) c.first_line.ensures.plain added before)
      c.push_line.ensures;
}
