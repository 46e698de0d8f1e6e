use Rattle.kd_form.proofs.Prelude.{arith, common_steps, length-map}
use Rattle.kd_form.proofs.receiving.heading_reader.heading_of_words.Goals as goal

pub returns-in_default : goal.returns-in_default
returns-in_default c = grind (arith, length-map)

pub returns-then-not-is_word : goal.returns-then-not-is_word
returns-then-not-is_word c = grind arith

pub returns-in_err-part : goal.returns-in_err-part
returns-in_err-part c = grind arith

pub returns-in_err-count : goal.returns-in_err-count
returns-in_err-count c = grind arith

pub returns-in_err-indicator : goal.returns-in_err-indicator
returns-in_err-indicator c = grind (arith, common_steps)

pub returns : goal.returns
returns c = grind (arith, common_steps)
