use Rattle.kd_state.proofs.Prelude.{arith, cable_letters}
use Rattle.kd_tables.proofs.DistinctLetters.{IsDistinct-first_and_rest, IsDistinct-none}
use Rattle.kd_state.proofs.machine.cable.+have_no_letter_twice.Goals as goal

pub returns-in-empty : goal.returns-in-empty
returns-in-empty t c = grind (arith, IsDistinct-none cable_letters)

pub returns-then-are_new_and_distinct : goal.returns-then-are_new_and_distinct
returns-then-are_new_and_distinct t c = grind (arith, IsDistinct-first_and_rest cable_letters)

pub returns-else-are_new_and_distinct : goal.returns-else-are_new_and_distinct
returns-else-are_new_and_distinct t c = grind (arith, IsDistinct-first_and_rest cable_letters)
