use Rattle.kd_tables.proofs.LineWords.{no_number, decimal-not_text, ok_part, only_number}
use Rattle.std.proofs.Common.{arith, sym, ◌∙◌}
use Rattle.kd_tables.proofs.line_words.wide_number_of_text.Goals as goal

pub returns-in_err-ok : goal.returns-in_err-ok
returns-in_err-ok c =
    rw c.from_residual.ensures
    (decimal-not_text c.args.text.now c.from_utf8.result _ _ c.from_utf8.ensures.cases
    (sym c.ok.ensures.value ∙ c.in_err-ok.was))

pub returns-in_err-number : goal.returns-in_err-number
returns-in_err-number c = grind (arith, ok_part, no_number)

pub returns : goal.returns
returns c =
    let text = ok_part c.from_utf8.result c.in_ok-ok.field-0 _ _ c.from_utf8.ensures.cases c.in_ok-ok.ensures.value in
    grind (arith, text, only_number c.args.text.now c.parse.result c.in_ok-number.number c.is_word.result)
