use Rattle.kd_form.proofs.Rules.{suited_at}
use Rattle.kd_form.proofs.Prelude.{arith, All-get_or}
use Rattle.kd_form.proofs.sending.part_writer.PartWriter.write_part.Goals as goal

pub make_part-text-requires-clause-keys : goal.make_part-text-requires-clause-keys
make_part-text-requires-clause-keys c = grind (arith, All-get_or, c.requires.keys)

pub make_part-text-requires-clause-suits : goal.make_part-text-requires-clause-suits
make_part-text-requires-clause-suits c = grind (arith, suited_at, c.requires.keys)
