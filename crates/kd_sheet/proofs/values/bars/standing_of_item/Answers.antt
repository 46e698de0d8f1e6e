use Rattle.kd_sheet.proofs.ReadBack.Described.KeyValues.{arith, standing_found}
use Rattle.kd_sheet.proofs.values.bars.standing_of_item.Goals as goal

pub returns : goal.returns
returns c = grind (arith, standing_found _ _ c.from_text.ensures.value c.from_text.ensures.before)
