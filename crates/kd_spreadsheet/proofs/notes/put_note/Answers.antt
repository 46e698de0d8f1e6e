use Rattle.kd_spreadsheet.proofs.Noting.{tells_whole}
use Rattle.kd_spreadsheet.proofs.Telling.{tells_text}
use Rattle.kd_spreadsheet.proofs.notes.put_note.Goals as goal

pub returns-clause-told : goal.returns-clause-told
returns-clause-told g c =
    tells_text _ _ _ _ c.args.note.now c.put_all.result c.put_all.ensures.text c.put_all.ensures.failed

pub returns-clause-text : goal.returns-clause-text
returns-clause-text g c =
    tells_whole _ _ _ _ c.args.note.now c.put_all.result c.put_all.ensures.text c.put_all.ensures.failed
