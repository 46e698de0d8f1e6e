use Rattle.std.proofs.Common.{◌≡◌, ◌∙◌, ap}
use Rattle.kd_pictures.proofs.Drawings.{both}
use Rattle.kd_state.specs.TwoCiphers.{window_of}
use Rattle.kd_typing.specs.MachineRows.{rows_key}
use Rattle.kd_typing.specs.MachineTable.{shown_letters}
unfoldable use Rattle.kd_typing_page.specs.TypingPage.{typing_page}
use Rattle.kd_typing_page.proofs.Pages.{window_is}
use Rattle.kd_typing_page.proofs.page.draw_page.Goals as goal

pub returns : goal.returns
unfolding typing_page
returns g c =
    let window : shown_letters (rows_key c.args.rows.now) ≡ window_of c.args.machine.now =
    ap shown_letters c.requires ∙ window_is c.args.machine.now in
    let model = c.model-model.ensures in
    both (both (both (both (both (rw model at c.draw_page_head.ensures) c.draw_desk.ensures) c.draw_setting.ensures)
    (rw (window, model) at c.draw_data.ensures)) (rw c.requires at c.draw.ensures)) c.draw_script.ensures
