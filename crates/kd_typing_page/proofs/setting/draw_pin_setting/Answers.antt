use Rattle.std.proofs.Common.{◌≡◌, ◌∙◌, ap}
use Rattle.kd_pictures.proofs.Drawings.{both}
use Rattle.kd_state.specs.TwoCiphers.{window_of}
use Rattle.kd_typing.specs.MachineRows.{rows_key}
use Rattle.kd_typing.specs.MachineTable.{shown_letters}
unfoldable use Rattle.kd_typing_page.specs.Setting.{pin_setting}
use Rattle.kd_typing_page.proofs.Pages.{window_is}
use Rattle.kd_typing_page.proofs.setting.draw_pin_setting.Goals as goal

pub returns : goal.returns
unfolding pin_setting
returns g c =
    let window : shown_letters (rows_key c.args.rows.now) ≡ window_of c.args.machine.now =
    ap shown_letters c.requires ∙ window_is c.args.machine.now in
    both (both (both (both (both (both c.draw_in.ensures (rw window at c.draw_shown.ensures)) c.draw_in-2.ensures)
    c.draw_pins.ensures) c.draw_in-3.ensures) c.draw_bars.ensures) c.draw.ensures
