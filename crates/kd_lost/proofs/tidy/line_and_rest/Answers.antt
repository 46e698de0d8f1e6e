use Rattle.std.proofs.Common.{arith}
use Rattle.std.proofs.lemmas.Grind.{common_steps}
use Rattle.kd_lost.proofs.tidy.line_and_rest.Goals as goal

pub returns-then-byte-eq10-clause-line : goal.returns-then-byte-eq10-clause-line
returns-then-byte-eq10-clause-line c = grind (arith, common_steps)

pub returns-then-byte-eq10-clause-rest : goal.returns-then-byte-eq10-clause-rest
returns-then-byte-eq10-clause-rest c = grind (arith, common_steps)

pub loop-index-preserved : goal.loop-index-preserved
loop-index-preserved c = grind (arith, common_steps)

pub returns-clause-line : goal.returns-clause-line
returns-clause-line c = grind (arith, common_steps)

pub returns-clause-rest : goal.returns-clause-rest
returns-clause-rest c = grind (arith, common_steps)
