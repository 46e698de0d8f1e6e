use Rattle.std.proofs.Common.{[], ap, arith, length, refl}
use Rattle.kd_pictures.proofs.Drawings.{nothing_drawn}
use Rattle.kd_message.proofs.SendPages.{sheets_next}
use Rattle.kd_message.proofs.sending.+draw_part_sheets.Goals as goal

pub draw_part_sheets-requires : goal.draw_part_sheets-requires
draw_part_sheets-requires g t c κs within =
    let (next, part, parts) = c.in-Some.ensures in
    (omega (arith, ap length next.split), (within, rw (part, parts) next.rest))

pub returns-in-Some : goal.returns-in-Some
returns-in-Some g t c =
    let (next, part, parts) = c.in-Some.ensures in
    sheets_next _ _ _ _ _ _ c.work_of-work.result next.split next.cut
    (rw c.as_slice.ensures.value at c.work_of-work.ensures.work)
    (rw (c.name_in_place.ensures, c.sheet_to_send.ensures, c.model.ensures.value) at c.draw_part_sheet.ensures)
    (rw (part, parts) at c.draw_part_sheets.ensures)

pub returns-in_default : goal.returns-in_default
returns-in_default g t c =
    let none = c.in_default.ensures in
    ([], rw (none.0, none.1) refl, nothing_drawn)
