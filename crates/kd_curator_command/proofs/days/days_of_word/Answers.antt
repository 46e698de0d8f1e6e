use Rattle.std.proofs.Common.{sym, ◌∙◌}
use Rattle.kd_curator_command.proofs.DaysNamed.{reads_days, reads_none, reads_twice}
use Rattle.kd_curator_command.proofs.days.days_of_word.Goals as goal

pub returns : goal.returns
returns c =
    reads_days _ _ tt (rw c.new-days.ensures at c.in_ok-add_ranges.ensures)
    (rw c.as_slice.ensures.value at (sym c.has_twice.ensures ∙ c.if-has_twice.false))

pub returns-then-has_twice : goal.returns-then-has_twice
returns-then-has_twice c = λ days are.
    reads_twice _ _ days tt (rw c.new-days.ensures at c.in_ok-add_ranges.ensures)
    (rw c.as_slice.ensures.value at (sym c.has_twice.ensures ∙ c.if-has_twice.true)) are

pub returns-in_err-add_ranges : goal.returns-in_err-add_ranges
returns-in_err-add_ranges c =
    rw c.from_residual.ensures
    (λ days are. reads_none _ c.add_ranges.new.days days (rw c.new-days.ensures at c.in_err-add_ranges.ensures) are)
