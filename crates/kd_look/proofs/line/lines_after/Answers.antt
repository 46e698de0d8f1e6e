use Rattle.std.proofs.Common.{◌≡◌, ◌∙◌, ◌+◌, sym, true, false, take, arith}
use Rattle.std.proofs.lemmas.Result.{IfOk-weaker}
use Rattle.kd_look.specs.Line.{ends_line, line_in_text, line_so_far, or_line}
use Rattle.kd_look.proofs.Lines.{line_so_far-ends, line_so_far-stays, map-same}
use Rattle.kd_look.proofs.line.lines_after.Goals as goal

pub returns-then-ends_line : goal.returns-then-ends_line
returns-then-ends_line c =
    let text = c.args.text.now in
    let index = c.args.index in
    let ends : ends_line text index ≡ true = grind (arith, c.ends_line.ensures, c.if-ends_line.true) in
    IfOk-weaker c.lines_with.result _ _ (λ next is. is ∙ map-same
    (λ finding. or_line (line_so_far text index finding) (line_in_text (take (index + 1) text) c.args.line finding))
    (line_so_far text (index + 1)) c.args.findings.now
    (λ finding. sym (line_so_far-ends text index c.args.line finding ends c.requires.line)))
    (c.lines_with.ensures (line_so_far text index) c.requires.so_far)

pub returns-else-ends_line : goal.returns-else-ends_line
returns-else-ends_line c =
    let text = c.args.text.now in
    let index = c.args.index in
    let ends : ends_line text index ≡ false = grind (arith, c.ends_line.ensures, c.if-ends_line.false) in
    c.requires.so_far ∙ map-same (line_so_far text index) (line_so_far text (index + 1)) c.args.findings.now
    (λ finding. sym (line_so_far-stays text index finding ends))
