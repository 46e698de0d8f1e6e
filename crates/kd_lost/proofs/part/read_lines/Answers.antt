use Rattle.std.proofs.Common.{◌∙◌, [], map, refl}
use Rattle.kd_state.specs.AnswerRules.{GoesOn, HasFault}
use Rattle.kd_lost.specs.DamagedPart.{filled_byte}
use Rattle.kd_form.proofs.Headings.{ended_heading}
use Rattle.kd_lost.proofs.Bytes.{letters_counted}
use Rattle.kd_lost.proofs.Parts.{unbroken_filled}
use Rattle.kd_lost.proofs.part.read_lines.Goals as goal

pub returns-in_default-clause-numbers : goal.returns-in_default-clause-numbers
returns-in_default-clause-numbers c =
    let filled = map filled_byte c.args.line.now in
    let unbroken = unbroken_filled c.args.line.now c.requires in
    let none = c.in_default.ensures filled unbroken (c.as_slice.ensures.value ∙ c.filled_line.ensures) in
    λ h there. none h [] (ended_heading c.args.day.now filled [] h unbroken there.is_heading there.text)

pub returns-in_default-clause-text : goal.returns-in_default-clause-text
returns-in_default-clause-text c =
    let filled = map filled_byte c.args.line.now in
    let unbroken = unbroken_filled c.args.line.now c.requires in
    let none = c.in_default.ensures filled unbroken (c.as_slice.ensures.value ∙ c.filled_line.ensures) in
    HasFault _ (
      (λ h there.
          none h [] (ended_heading c.args.day.now filled [] h unbroken there.is_heading there.text)),
      refl,
    ) refl

pub read_body_after-read-requires : goal.read_body_after-read-requires
read_body_after-read-requires c =
    (c.in-Some.ensures (map filled_byte c.args.line.now) (unbroken_filled c.args.line.now c.requires)
    (c.as_slice.ensures.value ∙ c.filled_line.ensures)).0

pub returns-in-Some-clause-numbers : goal.returns-in-Some-clause-numbers
returns-in-Some-clause-numbers c =
    let found =
    c.in-Some.ensures (map filled_byte c.args.line.now) (unbroken_filled c.args.line.now c.requires)
    (c.as_slice.ensures.value ∙ c.filled_line.ensures) in
    (c.in-Some.heading, record { is_heading = found.0; text = found.1 }, c.numbers_of.ensures)

pub returns-in-Some-clause-text : goal.returns-in-Some-clause-text
returns-in-Some-clause-text c =
    let found =
    c.in-Some.ensures (map filled_byte c.args.line.now) (unbroken_filled c.args.line.now c.requires)
    (c.as_slice.ensures.value ∙ c.filled_line.ensures) in
    GoesOn c.in-Some.heading (record { is_heading = found.0; text = found.1 }) c.read_body_after-read.ensures

pub returns-in_default-clause-came : goal.returns-in_default-clause-came
returns-in_default-clause-came c = c.letter_count.ensures.count ∙ letters_counted c.args.body.now

pub returns-in-Some-clause-came : goal.returns-in-Some-clause-came
returns-in-Some-clause-came c = c.letter_count.ensures.count ∙ letters_counted c.args.body.now

pub returns-in-Some-clause-heading : goal.returns-in-Some-clause-heading
returns-in-Some-clause-heading c = c.heading_signs.ensures

pub returns-in-Some-clause-body : goal.returns-in-Some-clause-body
returns-in-Some-clause-body c = c.body_letters.ensures

pub returns-in-Some-clause-wrong_sign : goal.returns-in-Some-clause-wrong_sign
returns-in-Some-clause-wrong_sign c = c.first_wrong_sign.ensures

pub returns-in-Some-clause-short_line : goal.returns-in-Some-clause-short_line
returns-in-Some-clause-short_line c = c.first_short_line.ensures

pub returns-in-Some-clause-short_group : goal.returns-in-Some-clause-short_group
returns-in-Some-clause-short_group c = c.first_short_group.ensures

pub returns-in_default-clause-heading : goal.returns-in_default-clause-heading
returns-in_default-clause-heading c = c.heading_signs.ensures

pub returns-in_default-clause-body : goal.returns-in_default-clause-body
returns-in_default-clause-body c = c.body_letters.ensures

pub returns-in_default-clause-wrong_sign : goal.returns-in_default-clause-wrong_sign
returns-in_default-clause-wrong_sign c = c.first_wrong_sign.ensures

pub returns-in_default-clause-short_line : goal.returns-in_default-clause-short_line
returns-in_default-clause-short_line c = c.first_short_line.ensures

pub returns-in_default-clause-short_group : goal.returns-in_default-clause-short_group
returns-in_default-clause-short_group c = c.first_short_group.ensures
