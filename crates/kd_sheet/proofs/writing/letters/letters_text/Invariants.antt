use Rattle.{kd_tables.specs.Text.letters_text, std.proofs.Common.{take, ◌≡◌}}
use Rattle.kd_sheet.proofs.writing.letters.letters_text.Given as goal

abbrev pub invariant-loop-letter : goal.invariant-loop-letter
invariant-loop-letter l = l.text.bytes ≡ letters_text (take l.letter-index l.letters)
