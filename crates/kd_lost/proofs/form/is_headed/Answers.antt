use Rattle.std.proofs.Common.{◌∙◌, sym}
use Rattle.kd_lost.specs.DamagedPart.{first_line}
use Rattle.kd_lost.proofs.Counting.{on_false, on_true}
use Rattle.kd_lost.proofs.Forms.{heading_read, no_heading_read}
use Rattle.kd_lost.proofs.form.is_headed.Goals as goal

pub returns-clause-headed : goal.returns-clause-headed
returns-clause-headed c =
    on_true c.is_some.result (λ is. heading_read c.args.day.now (first_line c.args.part.now) _
    c.read_damaged_part.ensures.numbers (sym c.is_some.ensures ∙ is))

pub returns-clause-unheaded : goal.returns-clause-unheaded
returns-clause-unheaded c =
    on_false c.is_some.result (λ off. no_heading_read c.args.day.now (first_line c.args.part.now) _
    c.read_damaged_part.ensures.numbers (sym c.is_some.ensures ∙ off))
