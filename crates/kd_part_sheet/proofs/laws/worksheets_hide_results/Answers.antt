use Rattle.kd_part_sheet.proofs.Worksheets.{hide_results}
use Rattle.kd_part_sheet.proofs.laws.worksheets_hide_results.Goals as goal

pub returns : goal.returns
returns c = hide_results
