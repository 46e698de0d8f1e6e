use Rattle.std.proofs.Common.{◌∙◌, ap, sym}
use Rattle.kd_lost.specs.DamagedPart.{body_of, first_line}
use Rattle.kd_lost.proofs.Parts.{lines_there, one_line}
use Rattle.kd_lost.proofs.part.line_and_body.Goals as goal

pub returns-in-Some : goal.returns-in-Some
returns-in-Some c =
    let first = c.in-Some.ensures in
    let there = lines_there _ c.in-Some.lines.1.now first.without in
    record {
      unbroken = first.without;
      line = sym (ap first_line first.joined ∙ there.0);
      body = sym (ap body_of first.joined ∙ there.1);
    }

pub returns-in-None : goal.returns-in-None
returns-in-None c =
    let there = one_line c.args.part.now c.in-None.ensures in
    record {
      unbroken = c.in-None.ensures;
      line = sym there.0;
      body = sym there.1;
    }
