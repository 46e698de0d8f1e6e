use Rattle.kd_form.proofs.Headings.{IsEndedHeading-line}
use Rattle.kd_form.proofs.receiving.heading_reader.heading_of_ended_line.Goals as goal

pub returns : goal.returns
returns c = λ part unbroken kept.
    IsEndedHeading-line _ _ part _ _ _ c.slots_of.ensures c.without_return.ensures c.heading_of_line.ensures
    unbroken kept
