use Rattle.{kd_drum.proofs.WheelsAfterLetters.count_alike, kd_drum.specs.Counts.bars_met_by, std.proofs.Common.arith}
use Rattle.std.proofs.lemmas.List.Sums.{count_by-le-length}
use Rattle.kd_drum.proofs.converter.Converter.met.Goals as goal

pub returns-clause-value : goal.returns-clause-value
returns-clause-value c = grind (arith, c.self.invariant.1.each, bars_met_by, count_alike)

pub returns-clause-most : goal.returns-clause-most
returns-clause-most c = grind (arith, c.self.invariant.1.each, count_by-le-length)
