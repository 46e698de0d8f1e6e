use Rattle.std.proofs.Common.{◌∷◌, ◌++◌, []}
use Rattle.kd_state.specs.Line.{list_text, setting_line}
use Rattle.kd_curator.proofs.Writings.{writes_second}
use Rattle.kd_curator.proofs.run_list.+put_lines.Goals as goal

pub returns-in_err-put_lines-clause-text : goal.returns-in_err-put_lines-clause-text
returns-in_err-put_lines-clause-text g t c =
    rw c.in-Some.ensures.cases.0 (writes_second _ _ _ (setting_line c.in-Some.setting.now ++ 10 ∷ [])
    (list_text c.in-Some.rest.now) _ _ c.from_residual-in_err-put_lines.ensures.1 c.in_ok-put_line.ensures.text.whole
    c.in_err-put_lines.ensures.text.front)
