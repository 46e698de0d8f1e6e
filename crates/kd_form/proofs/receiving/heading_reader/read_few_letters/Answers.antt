use Rattle.kd_form.proofs.Headings.{arith, capital_at, take_all, length-map}
use Rattle.kd_form.proofs.receiving.heading_reader.read_few_letters.Goals as goal

pub returns-then-is_full : goal.returns-then-is_full
returns-then-is_full c = grind (arith, length-map)

pub returns-in_err-from_byte : goal.returns-in_err-from_byte
returns-in_err-from_byte c = grind (arith, capital_at)

pub returns : goal.returns
returns c = grind (arith, take_all)
