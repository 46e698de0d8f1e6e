use Rattle.std.proofs.Common.{◌≡◌, ◌∙◌}
use Rattle.kd_pictures.proofs.Drawings.{both}
use Rattle.kd_typing.specs.RotorTable.{rotor_table}
use Rattle.kd_typing.specs.TableText.{digits_text}
use Rattle.kd_typing.proofs.TableTexts.{rotor_text_is}
use Rattle.kd_typing.proofs.rotor_rows.RotorRows.draw.Goals as goal

pub returns : goal.returns
returns g c =
    let first : c.as_str.result.now ≡ digits_text (rotor_table c.args.self.now).steps =
    c.as_str.ensures.value ∙ c.steps_line.ensures in
    rw (rotor_text_is (rotor_table c.args.self.now))
    (both (both (rw first at c.draw.ensures) c.draw_into.ensures) c.draw_core.ensures)
