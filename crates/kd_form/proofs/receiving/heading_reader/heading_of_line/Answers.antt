use Rattle.kd_form.proofs.Headings.{IsHeadingAnswer-words, ap, map}
use Rattle.kd_form.proofs.receiving.heading_reader.heading_of_line.Goals as goal

pub returns : goal.returns
returns c =
    IsHeadingAnswer-words _ _ _ _ _ _ c.slots_of.ensures c.in_ok-words.ensures
    (ap (map (λ word. word.now)) c.as_slice.ensures.value) c.heading_of_words.ensures
