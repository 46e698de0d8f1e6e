use Rattle.std.proofs.Common.{map}
use Rattle.kd_pictures.proofs.Drawings.{joined}
use Rattle.std.specs.List.{range_with_len}
use Rattle.kd_typing.specs.PinTable.{acting_pins, pin_table}
use Rattle.kd_typing.specs.TableText.{pins_text}
use Rattle.kd_typing.proofs.TableTexts.{pin_text_is}
use Rattle.kd_typing.proofs.pin_rows.PinRows.draw.Goals as goal

pub returns : goal.returns
returns g c =
    let key = c.args.self.now in
    joined c.draw_wheels.ensures c.draw_rows.ensures
    (pin_text_is (pins_text (acting_pins key 1)) (map pins_text (map (acting_pins key) (range_with_len 2 5)))
    (pin_table key).rows)
