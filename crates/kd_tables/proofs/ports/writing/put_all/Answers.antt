use Rattle.kd_tables.proofs.SeveralPuts.{still_failed, takes_more}
use Rattle.std.proofs.Common.{arith}
use Rattle.std.proofs.lemmas.Grind.{common_steps}
use Rattle.kd_tables.proofs.ports.writing.put_all.Goals as goal

pub loop-done-preserved : goal.loop-done-preserved
loop-done-preserved g c = grind (arith, takes_more, still_failed)

pub returns-clause-text : goal.returns-clause-text
returns-clause-text g c = grind (arith, common_steps)
