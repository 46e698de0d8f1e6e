use Rattle.kd_look.proofs.Heads.{head_ends_agree, head_faults_agree}
use Rattle.kd_look.proofs.laws.heads_are_read_as_send_reads_them.Goals as goal

pub returns : goal.returns
returns c = record { faults = head_faults_agree; ends = head_ends_agree }
