use Rattle.std.proofs.Common.{rules}
use Rattle.kd_pictures.proofs.Drawings.{writes_part}
use Rattle.kd_printed_sheet.proofs.Begun.{file_begins}
use Rattle.kd_printed_sheet.proofs.table_file.write_tables.Goals as goal

pub returns-then-failed-clause-text : goal.returns-then-failed-clause-text
returns-then-failed-clause-text g c = writes_part _ (file_begins c.args.language c.args.form _).1.1 c.draw_file.ensures (search rules)
