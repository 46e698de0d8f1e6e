use Rattle.std.proofs.lemmas.Result.{IfOk-weaker}
use Rattle.kd_spreadsheet.proofs.Noting.{line_alone, line_first}
use Rattle.kd_spreadsheet.proofs.notes.note.+push_lines.Goals as goal

pub returns-in_ok-push_line-in-Some : goal.returns-in_ok-push_line-in-Some
returns-in_ok-push_line-in-Some t c =
    IfOk-weaker c.push_lines.result _ _ (λ done rest. line_first _ _ _ _ _ c.in_ok-push_line-in-Some.ensures rest)
    c.push_lines.ensures

pub returns-in-None : goal.returns-in-None
returns-in-None t c =
    IfOk-weaker c.push_line-in-None.result _ _ (λ done is. line_alone _ _ _ c.args.words.now is) c.push_line-in-None.ensures
