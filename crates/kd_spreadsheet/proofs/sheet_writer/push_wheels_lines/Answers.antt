use Rattle.std.proofs.{Common.{append_assoc, arith}, lemmas.List.append-nil}
use Rattle.kd_spreadsheet.proofs.sheet_writer.push_wheels_lines.Goals as goal

pub returns-clause-bytes : goal.returns-clause-bytes
returns-clause-bytes c = grind (arith, append_assoc, append-nil)
