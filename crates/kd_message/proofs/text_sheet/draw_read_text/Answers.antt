use Rattle.kd_pictures.proofs.Drawings.{both, joined}
use Rattle.kd_message.specs.declared.texts.TheConstants.{TEXT_END}
use Rattle.kd_part_sheet.specs.PartSheet.{warnings_text}
use Rattle.kd_message.proofs.ReceivePages.{five_joined}
use Rattle.kd_message.specs.TextSheet.{group_requests, text_begin, text_letters, warnings_of}
unfoldable use Rattle.kd_message.specs.TextSheet.{read_text}
use Rattle.kd_message.proofs.text_sheet.draw_read_text.Goals as goal

pub returns : goal.returns
unfolding read_text
returns g c =
    let first = rw c.text_begin.ensures at c.draw.ensures in
    let letters = rw c.as_slice.ensures.value at c.draw_text_letters.ensures in
    let warnings = rw c.warnings_of.ensures at c.draw_warnings.ensures in
    joined (both (both (both first letters) c.draw-2.ensures) warnings) c.draw_group_requests.ensures
    (five_joined (text_begin c.args.page.name.model)
    (text_letters c.args.page.name.results c.args.day.now c.args.shown.now.letters.items)
    TEXT_END.now (warnings_text c.args.page.language c.args.page.sheet (warnings_of c.args.shown.now))
    (group_requests c.args.page.language c.args.page.name c.args.shown.now))
