use Rattle.std.proofs.Common.{[], ap, arith, length, refl}
use Rattle.kd_pictures.proofs.Drawings.{nothing_drawn}
use Rattle.kd_message.proofs.SendPages.{parts_next}
use Rattle.kd_message.proofs.sending.+draw_form_parts.Goals as goal

pub draw_made_part-requires-clause-suits : goal.draw_made_part-requires-clause-suits
draw_made_part-requires-clause-suits g t c = rw c.part_name.ensures c.in-Some.ensures.0.suits

pub draw_form_parts-requires : goal.draw_form_parts-requires
draw_form_parts-requires g t c κs within =
    let (next, part, parts) = c.in-Some.ensures in
    (omega (arith, ap length next.split), (within, rw (part, parts) next.rest))

pub returns-in-Some : goal.returns-in-Some
returns-in-Some g t c =
    let (next, part, parts) = c.in-Some.ensures in
    parts_next _ _ _ _ _ next.split next.cut
    (rw (c.part_name.ensures, c.as_slice.ensures.value) at c.draw_made_part.ensures)
    (rw (part, parts) at c.draw_form_parts.ensures)

pub returns-in_default : goal.returns-in_default
returns-in_default g t c =
    let none = c.in_default.ensures in
    ([], rw (none.0, none.1) refl, nothing_drawn)
