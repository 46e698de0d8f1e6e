use Rattle.kd_desk.proofs.FewCables.{few_cables_serve_a_month}
use Rattle.kd_desk.proofs.laws.few_cables_serve_a_month.Goals as goal

pub returns : goal.returns
returns c = few_cables_serve_a_month
