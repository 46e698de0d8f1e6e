use Rattle.arrayvec.specs.ArrayString.{array_string_len}
use Rattle.kd_card.proofs.OneCard.{◌≡◌, ◌+◌, ◌*◌, ◌≤◌, ◌++◌, length, take, behind_spaces}
use Rattle.kd_card.proofs.card_writer.push_price_line.Given as goal

abbrev pub invariant-loop-price : goal.invariant-loop-price
invariant-loop-price g l = record {
  bytes : l.text.bytes ≡ l.fn.text.bytes ++ (l.word ++ behind_spaces (take l.price-index l.prices));
  len : array_string_len l.text ≤ array_string_len l.fn.text + length l.word + 7 * l.price-index;
}
