use Rattle.kd_state.proofs.Lines.{no_line_without_break, no_line_by_first}
use Rattle.kd_state.proofs.setting.list.split_setting.Goals as goal

pub returns-in_err-line : goal.returns-in_err-line
returns-in_err-line c = rw c.from_residual.ensures (no_line_without_break c.args.text.now c.in_err-line.ensures)

pub returns-in_err-from_line : goal.returns-in_err-from_line
returns-in_err-from_line c =
    rw c.from_residual-in_err-from_line.ensures
    (no_line_by_first c.args.text.now c.in_ok-line.line.now c.in_ok-line.rest.now c.in_ok-line.ensures
    c.in_err-from_line.ensures.value)
