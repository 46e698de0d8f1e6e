use Rattle.kd_form.proofs.Headings.{IsOpenHeading-line}
use Rattle.kd_form.proofs.receiving.heading_reader.heading_of_open_line.Goals as goal

pub returns : goal.returns
returns c = λ part unbroken kept.
    IsOpenHeading-line c.args.day.now c.slots_of.result part c.args.line.now c.heading_of_line.result c.slots_of.ensures
    c.heading_of_line.ensures unbroken kept
