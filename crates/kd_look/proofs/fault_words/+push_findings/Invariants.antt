use Rattle.std.proofs.Common.{length}
use Rattle.kd_look.proofs.fault_words.+push_findings.Given as goal

abbrev pub decreases-push_findings : goal.decreases-push_findings
decreases-push_findings l = length l.findings.now
