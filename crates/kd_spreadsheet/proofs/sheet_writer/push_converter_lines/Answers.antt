use Rattle.std.proofs.{Common.{append_assoc, arith}, lemmas.List.append-nil}
use Rattle.kd_spreadsheet.proofs.sheet_writer.push_converter_lines.Goals as goal

pub returns : goal.returns
returns c = grind (arith, append_assoc, append-nil)
