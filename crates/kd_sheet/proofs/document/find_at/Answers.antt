use Rattle.toml.proofs.Views.{table_get}
use Rattle.kd_sheet.proofs.document.find_at.Goals as goal

pub returns : goal.returns
returns c = rw (← c.name.ensures.value) (table_get c.get.result _ c.args.table.now.entries c.get.ensures.value)
