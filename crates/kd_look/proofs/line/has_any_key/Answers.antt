use Rattle.kd_look.proofs.Lines.{has_any_key-counts}
use Rattle.kd_look.proofs.line.has_any_key.Goals as goal

pub returns : goal.returns
returns c = has_any_key-counts c.args.document.now.entries c.is_empty.result c.is_empty.ensures
