use Rattle.kd_sheet.proofs.ReadBack.Described.KeyValues.{all_models, arith, find_named, model_found, model_in, model_text}
use Rattle.kd_sheet.proofs.values.model.model_in.Goals as goal

pub returns : goal.returns
unfolding model_in
returns c = grind (
  arith,
  find_named model_text all_models model_found _ _ c.from_text.ensures,
)
