use Rattle.std.proofs.lemmas.Result.{IfOk-weaker}
use Rattle.kd_spreadsheet.proofs.Noting.{line_alone}
use Rattle.kd_spreadsheet.proofs.notes.note.push_due_words.Goals as goal

pub returns-then-is_due : goal.returns-then-is_due
returns-then-is_due c =
    IfOk-weaker c.push_line.result _ _ (λ done is. let has = line_alone _ _ _ _ is in (has.0, has.2, λ due. has.1))
    c.push_line.ensures
