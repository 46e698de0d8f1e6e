use Rattle.kd_form.proofs.Lines.{line_on, sym, ◌∙◌}
use Rattle.kd_form.proofs.sending.pattern_line.+read_pattern_letters.Goals as goal

pub returns : goal.returns
returns t c =
    line_on _ _ _ _ _ _ _ _ _ _ c.in-Some.ensures.cases.0 c.in-Some-split_first.ensures.cases.0
    (sym c.take_marked_letter.ensures.fits ∙ c.if-not-take_marked_letter.false)
    c.if-not-take_marked_letter.ensures.taken c.read_pattern_letters.ensures
