use Rattle.std.proofs.Common.{◌≡◌, ◌∙◌, sym, true, false, length, None, arith}
use Rattle.std.proofs.lemmas.Result.{IfOk-weaker}
use Rattle.kd_look.specs.Line.{is_too_long, line_of, line_so_far}
use Rattle.kd_look.proofs.Lines.{line_of-short, line_of-too_long, map-same}
use Rattle.kd_look.proofs.line.lines_of.Goals as goal

pub returns-then-is_too_long : goal.returns-then-is_too_long
returns-then-is_too_long c =
    let text = c.args.text.now in
    let long : is_too_long text ≡ true = grind (arith, c.is_too_long.ensures, c.if-is_too_long.true) in
    IfOk-weaker c.no_lines.result _ _ (λ lines is. is ∙ map-same (λ finding. None) (line_of text) c.args.findings.now
    (λ finding. sym (line_of-too_long text finding long))) c.no_lines.ensures

pub returns-else-is_too_long : goal.returns-else-is_too_long
returns-else-is_too_long c =
    let text = c.args.text.now in
    let short : is_too_long text ≡ false = grind (arith, c.is_too_long.ensures, c.if-is_too_long.false) in
    IfOk-weaker c.seek_lines.result _ _ (λ lines is. is ∙ map-same (line_so_far text (length text)) (line_of text)
    c.args.findings.now (λ finding. sym (line_of-short text finding short))) c.seek_lines.ensures
