use Rattle.kd_tables.proofs.Wirings.{wiring_permutes, reflector_permutes}
use Rattle.kd_tables.proofs.laws.tables_are_permutations.Goals as goal

pub returns-clause-wheels : goal.returns-clause-wheels
returns-clause-wheels c = wiring_permutes

pub returns-clause-reflectors : goal.returns-clause-reflectors
returns-clause-reflectors c = reflector_permutes
