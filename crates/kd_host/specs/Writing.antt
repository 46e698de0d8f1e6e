-- The answer of a call that writes a text.
-- Test: tests/refusals
use Rattle.std.specs.Prelude.{◌≡◌, ℕ, List, Result, Err, OnErr}
use Rattle.kd_tables.specs.Ports.{Port}
use Rattle.kd_tables.specs.Writing.{Writes}

-- Either the whole text was written, or only a prefix was written and the answer is `fault`.
pub record WritesText {Fault : Type 0} (fault : Fault) (text : List ℕ) (sink : Port)
    (answer : Result (Unit {0}) Fault) : Type 0 where
  pub written : Writes sink.had sink.has text answer
  pub device : OnErr answer (answer ≡ Err fault)
