use Rattle.std.proofs.Common.{◌∙◌, ap, length, subst}
use Rattle.kd_lost.specs.DamagedPart.{body_letters}
use Rattle.kd_lost.specs.HeadingLine.{heading_signs}
use Rattle.kd_lost.specs.Lost.{received_letters}
use Rattle.kd_lost.specs.ShortGroup.{IsFirstShortGroup}
use Rattle.kd_lost.specs.ShortLine.{short_line}
use Rattle.kd_lost.specs.WrongSign.{IsFirstWrongSign}
use Rattle.kd_lost.proofs.PartShown.{answer_shown}
use Rattle.kd_lost.proofs.part.read_damaged_part.Goals as goal

pub returns-clause-numbers : goal.returns-clause-numbers
returns-clause-numbers c = rw c.line_and_body.ensures.line at c.read_lines-read.ensures.numbers

pub returns-clause-text : goal.returns-clause-text
returns-clause-text c =
    rw (c.line_and_body.ensures.line, c.line_and_body.ensures.body) at c.read_lines-read.ensures.text

pub returns-clause-shown : goal.returns-clause-shown
returns-clause-shown c =
    answer_shown c.args.day.now c.args.part.now c.read_lines-read.result.text
    (rw (c.line_and_body.ensures.line, c.line_and_body.ensures.body) at c.read_lines-read.ensures.text)

pub returns-clause-heading : goal.returns-clause-heading
returns-clause-heading c = c.read_lines-read.ensures.heading ∙ ap heading_signs c.line_and_body.ensures.line

pub returns-clause-came : goal.returns-clause-came
returns-clause-came c =
    c.read_lines-read.ensures.came ∙ ap (λ b. length (received_letters b)) c.line_and_body.ensures.body

pub returns-clause-body : goal.returns-clause-body
returns-clause-body c = c.read_lines-read.ensures.body ∙ ap body_letters c.line_and_body.ensures.body

pub returns-clause-group : goal.returns-clause-group
returns-clause-group c = c.read_lines-read.ensures.group

pub returns-clause-wrong_sign : goal.returns-clause-wrong_sign
returns-clause-wrong_sign c =
    subst (λ b. IsFirstWrongSign b c.read_lines-read.result.wrong_sign) c.line_and_body.ensures.body
    c.read_lines-read.ensures.wrong_sign

pub returns-clause-by_count : goal.returns-clause-by_count
returns-clause-by_count c = c.read_lines-read.ensures.by_count

pub returns-clause-short_line : goal.returns-clause-short_line
returns-clause-short_line c = c.read_lines-read.ensures.short_line ∙ ap short_line c.line_and_body.ensures.body

pub returns-clause-short_group : goal.returns-clause-short_group
returns-clause-short_group c =
    subst (λ b. IsFirstShortGroup b c.read_lines-read.result.short_group) c.line_and_body.ensures.body
    c.read_lines-read.ensures.short_group

pub returns-clause-as_it_stands : goal.returns-clause-as_it_stands
returns-clause-as_it_stands c = c.read_lines-read.ensures.as_it_stands

pub returns-clause-as_spelled : goal.returns-clause-as_spelled
returns-clause-as_spelled c = c.is_spelled.ensures

pub returns-clause-is_order : goal.returns-clause-is_order
returns-clause-is_order c = c.is_order.ensures

pub returns-clause-line : goal.returns-clause-line
returns-clause-line c = c.read_lines-read.ensures.line
