use Rattle.kd_form.proofs.FormSteps.{body_more, refl}
use Rattle.kd_form.proofs.receiving.body_reader.PartBody.push.Goals as goal

pub returns-clause-body : goal.returns-clause-body
returns-clause-body c = λ s part body holds.
    body_more s c.args.self.now _ part body c.args.byte c.letter_of_byte.result refl c.letter_of_byte.ensures
    c.keep_letter.ensures c.keep_byte.ensures.ended
    c.keep_byte.ensures.longer c.requires holds
