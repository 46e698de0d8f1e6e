use Rattle.{kd_tables.specs.Text.letters_text, std.proofs.Common.{map, take, ◌≡◌}}
use Rattle.kd_spreadsheet.proofs.sheet_writer.window_text.Given as goal

abbrev pub invariant-loop-wheel : goal.invariant-loop-wheel
invariant-loop-wheel l = l.text.bytes ≡ letters_text (map (λ w. w.letter) (take l.wheel-index l.wheels))
