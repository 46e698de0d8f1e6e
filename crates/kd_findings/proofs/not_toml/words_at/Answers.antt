use Rattle.std.proofs.Common.{◌≡◌, ◌∙◌, refl, arith}
use Rattle.std.proofs.lemmas.Result.{IfOk-weaker}
use Rattle.toml.specs.Errors.{span_start}
use Rattle.kd_findings.specs.NotToml.{column_at, line_at}
use Rattle.kd_findings.proofs.not_toml.words_at.Goals as goal

pub returns : goal.returns
returns c =
    let bytes = c.args.bytes.now in
    let start = span_start c.args.error.now in
    let at : c.in-Some.span.start ≡ start = grind (arith, c.in-Some.ensures.range) in
    let line : c.place_after-place.result.line ≡ line_at bytes start =
    grind (arith, c.place_after-place.ensures.line, at) in
    let column : c.place_after-place.result.column ≡ column_at bytes start =
    grind (arith, c.place_after-place.ensures.column, at) in
    IfOk-weaker c.place_words.result _ _ (λ words is. record {
      reason = c.first_line.result.now;
      plain = c.first_line.ensures.plain;
      whole = is ∙ rw (line, column) refl;
    }) c.place_words.ensures
