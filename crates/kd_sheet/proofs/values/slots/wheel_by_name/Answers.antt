use Rattle.kd_sheet.proofs.ReadBack.Described.KeyValues.{M4, box_of, find_named, wheel_found, wheel_text}
use Rattle.kd_sheet.proofs.values.slots.wheel_by_name.Goals as goal

pub returns : goal.returns
returns c = rw (← c.as_bytes.ensures.value) (find_named wheel_text (box_of M4) wheel_found _ _ c.from_text.ensures)
