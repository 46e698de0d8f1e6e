use Rattle.std.proofs.Common.{arith, refl}
use Rattle.kd_tables.specs.declared.model.Model.TheVariants.{EnigmaI, M3, M4, M209}
use Rattle.kd_tables.proofs.laws.all_models_are_listed.Goals as goal

pub returns-clause-each : goal.returns-clause-each
returns-clause-each c EnigmaI = (0, omega arith, refl)
returns-clause-each c M3 = (1, omega arith, refl)
returns-clause-each c M4 = (2, omega arith, refl)
returns-clause-each c M209 = (3, omega arith, refl)
