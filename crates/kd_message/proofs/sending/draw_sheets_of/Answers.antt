use Rattle.kd_message.proofs.SendPages.{keys_of_text, sheets_made}
use Rattle.kd_message.proofs.sending.draw_sheets_of.Goals as goal

pub draw_sheets-requires : goal.draw_sheets-requires
draw_sheets-requires g c =
    let (form, is) = c.requires in
    let (head, read) = c.read_head-text.ensures in
    rw c.keys.ensures (keys_of_text _ _ form head _ _ is read)

pub returns : goal.returns
returns g c = λ form is.
    let (head, read) = c.read_head-text.ensures in
    let (works, made, worked, are, draws) = rw c.keys.ensures at c.draw_sheets.ensures in
    (_, sheets_made _ _ _ _ _ form head _ _ works made is read worked are, draws)
