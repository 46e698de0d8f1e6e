use Rattle.kd_state.proofs.Prelude.{IsReading, AllWithin}
use Rattle.kd_state.proofs.prover_facts.learn_readings.Given as goal

abbrev pub invariant-loop-row : goal.invariant-loop-row
invariant-loop-row l = AllWithin IsReading l.rows 0 l.row-index
