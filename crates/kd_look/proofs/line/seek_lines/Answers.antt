use Rattle.std.proofs.Common.{◌∙◌, refl, sym, None, arith}
use Rattle.std.proofs.lemmas.Grind.{common_steps}
use Rattle.kd_look.specs.Line.{line_so_far}
use Rattle.kd_look.proofs.Lines.{line_so_far-zero, map-same}
use Rattle.kd_look.proofs.line.seek_lines.Goals as goal

pub loop-index-init : goal.loop-index-init
loop-index-init c =
    record {
      number = refl;
      so_far = c.in_ok-lines.ensures ∙ map-same (λ finding. None) (line_so_far c.args.text.now 0) c.args.findings.now
          (λ finding. sym (line_so_far-zero c.args.text.now finding));
    }

pub loop-index-preserved : goal.loop-index-preserved
loop-index-preserved c = grind (arith, common_steps)

pub returns : goal.returns
returns c = grind (arith, common_steps)
