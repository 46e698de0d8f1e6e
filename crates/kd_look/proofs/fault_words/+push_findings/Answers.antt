use Rattle.std.proofs.Common.{◌≤◌, length, arith}
use Rattle.std.proofs.lemmas.Result.{IfOk-weaker}
use Rattle.std.specs.String.{string_bytes}
use Rattle.kd_look.proofs.FaultLines.{AreFaultLines-then}
use Rattle.kd_look.proofs.fault_words.+push_findings.Goals as goal

pub returns-in_ok-push_finding-in-len1-up-len1-up : goal.returns-in_ok-push_finding-in-len1-up-len1-up
returns-in_ok-push_finding-in-len1-up-len1-up t c =
    let some : 1 ≤ length c.args.findings.now = first_of (omega arith, grind arith) in
    let l = c.args.wording.language in
    IfOk-weaker c.push_findings.result _ _
    (λ _ others. AreFaultLines-then l c.args.name.now c.args.findings.now c.args.lines.now c.finding-item.result _
    (string_bytes c.args.text.now) (string_bytes c.push_finding.new.text) (string_bytes c.push_findings.new.text)
    some c.finding-item.is c.in_ok-push_finding-in-len1-up-len1-up.ensures others)
    c.push_findings.ensures
