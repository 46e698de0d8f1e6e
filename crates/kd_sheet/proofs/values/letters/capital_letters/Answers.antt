use Rattle.std.proofs.Common.{arith}
use Rattle.std.proofs.lemmas.Grind.{common_steps}
use Rattle.kd_sheet.proofs.values.letters.capital_letters.Goals as goal

pub loop-byte-preserved : goal.loop-byte-preserved
loop-byte-preserved g c = grind (arith, common_steps)

pub returns-clause-value : goal.returns-clause-value
returns-clause-value g c = grind (arith, common_steps)

pub returns-in_err-from_byte-clause-value : goal.returns-in_err-from_byte-clause-value
returns-in_err-from_byte-clause-value g c = grind (arith, common_steps)
