use Rattle.kd_sheet.proofs.ReadBack.Described.KeyValues.Steps.{arith, list_of-items_of, the_lemmas}
use Rattle.kd_findings.proofs.judging.items_at.Goals as goal

pub returns : goal.returns
returns c = grind (arith, list_of-items_of, the_lemmas)
