use Rattle.std.proofs.Common.{◌∙◌, rules}
use Rattle.kd_lost.specs.DamagedForm.{Respaced}
use Rattle.kd_lost.proofs.Counting.{stands_read}
use Rattle.kd_lost.proofs.form.read_as_meant.Goals as goal

pub returns-then-is_headed : goal.returns-then-is_headed
returns-then-is_headed c =
    let (h, headed) = c.if-is_headed.ensures.headed in
    stands_read c.args.day.now c.args.part.now h headed c.read_with_count.result c.read_with_count.ensures

pub returns : goal.returns
returns c =
    let read = c.in-Ok-read_with_count.ensures.0 in
    record {
      meant = c.as_slice-meant.result.now;
      is_meant = Respaced c.if-is_headed.ensures.unheaded (c.as_slice-meant.ensures.value ∙ c.in-Ok.ensures);
      as_meant = search rules;
      respaced = c.differs.ensures;
    }
