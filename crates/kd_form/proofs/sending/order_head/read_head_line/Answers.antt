use Rattle.kd_form.proofs.{Lines.{err_is, keys_broken, keys_read, ◌∙◌}, OrderSteps.next_keys}
use Rattle.kd_form.proofs.sending.order_head.read_head_line.Goals as goal

pub returns-in_err-letters : goal.returns-in_err-letters
returns-in_err-letters c =
    rw (err_is _ _ c.from_residual.ensures.1)
    (next_keys _ _ _ _ (c.has_key_line_start.ensures.0 c.if-has_key_line_start.true) c.if-count-lt99.true
    (keys_broken _ _ _ (rw c.key_pattern.ensures.pattern at c.in_err-letters.ensures)))

pub returns-in_ok-letters : goal.returns-in_ok-letters
returns-in_ok-letters c =
    let read =
    keys_read _ _ c.in_ok-letters.letters.items c.keys_of_letters.result
    (rw c.key_pattern.ensures.pattern at c.in_ok-letters.ensures)
    (c.keys_of_letters.ensures.letters ∙ c.as_slice.ensures.value) c.keys_of_letters.ensures.keys in
    (read.0, read.1, c.if-count-lt99.true)
