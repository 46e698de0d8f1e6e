use Rattle.std.proofs.Common.{arith}
use Rattle.std.proofs.lemmas.Grind.{common_steps}
use Rattle.kd_tables.proofs.ports.memory_source.MemorySourceSource.get.Goals as goal

pub returns-clause-behind : goal.returns-clause-behind
returns-clause-behind c = grind (arith, common_steps)

pub returns-clause-bytes : goal.returns-clause-bytes
returns-clause-bytes c = grind (arith, common_steps)
