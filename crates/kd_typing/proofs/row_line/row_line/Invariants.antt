use Rattle.std.proofs.Common.{◌≡◌, ◌+◌, ◌∷◌, take}
use Rattle.arrayvec.specs.ArrayString.{array_string_len}
use Rattle.kd_tables.specs.Text.{letters_text}
use Rattle.kd_typing.proofs.row_line.row_line.Given as goal

abbrev pub invariant-loop-letter : goal.invariant-loop-letter
invariant-loop-letter l = record {
  bytes : l.text.bytes ≡ 10 ∷ letters_text (take l.letter-index l.row);
  len : array_string_len l.text ≡ l.letter-index + 1;
}
