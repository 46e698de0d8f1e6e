use Rattle.std.proofs.Common.{◌∙◌, ◌≤◌, arith, get_or, length, refl, sym}
use Rattle.std.proofs.lemmas.Grind.{common_steps}
use Rattle.std.proofs.lemmas.List.{get_or_default}
use Rattle.std.proofs.lemmas.Option.{slice_get_past}
use Rattle.kd_look.specs.Groups.{letters_of}
use Rattle.kd_look.proofs.Groups.{letter_at}
use Rattle.kd_look.proofs.message.groups.nth_letter.Goals as goal

pub returns-then-passed-number : goal.returns-then-passed-number
returns-then-passed-number c =
    let text = c.args.text.now in
    let index = c.loop-byte.byte-index in
    sym (letter_at text index c.args.number (get_or text index 0) c.in-Some.letter c.loop-byte-test.true
    (grind (arith, get_or_default)) (sym c.if-passed-number.true ∙ c.loop-byte.invariant.counted)
    c.in-Some.ensures.value (c.in-Some.ensures.exists.0 refl).1)

pub returns : goal.returns
returns c =
    let few : length (letters_of c.args.text.now) ≤ c.args.number = grind (arith, common_steps) in
    sym (slice_get_past (letters_of c.args.text.now) c.args.number few)
