use Rattle.kd_form.proofs.Prelude.{arith, length-map, take-append-le, take_all}
use Rattle.kd_form.proofs.typing.chunk_letters.type_chunk.Goals as goal

pub returns-clause-lights : goal.returns-clause-lights
returns-clause-lights c = grind (arith, length-map, take-append-le, take_all)
