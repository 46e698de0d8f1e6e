use Rattle.std.proofs.Common.{arith}
use Rattle.std.proofs.lemmas.Grind.{common_steps}
use Rattle.kd_pictures.proofs.Drawings.{joined}
use Rattle.kd_printed_sheet.proofs.table_file.+draw_tables.Goals as goal

pub returns-in-len1-up : goal.returns-in-len1-up
returns-in-len1-up g t c =
    joined c.draw_tables_for.ensures c.draw_tables.ensures (grind (arith, common_steps))
