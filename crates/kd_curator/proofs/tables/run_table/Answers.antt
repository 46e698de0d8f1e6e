use Rattle.kd_host.proofs.Failing.{in_part, in_whole}
use Rattle.kd_curator.proofs.Answers.{on_found}
use Rattle.kd_curator.proofs.tables.run_table.Goals as goal

pub returns-in_err-write_tables-clause-tables : goal.returns-in_err-write_tables-clause-tables
returns-in_err-write_tables-clause-tables g c = on_found _ _ _ _ c.in_ok-sheet.ensures.found
    (in_part _ _ _ _ c.in_err-write_tables.ensures.text.front c.from_residual-in_err-write_tables.ensures.1)

pub returns-clause-tables : goal.returns-clause-tables
returns-clause-tables g c = on_found _ _ _ _ c.in_ok-sheet.ensures.found
    (in_whole _ _ _ c.in_ok-write_tables.ensures.text.whole)
