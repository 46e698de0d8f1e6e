use Rattle.kd_spreadsheet.proofs.OneTable.{tables_mean_one_list, tables_mean_or_are_refused}
use Rattle.kd_spreadsheet.proofs.laws.tables_mean_days_or_are_refused.Goals as goal

pub returns-clause-refused : goal.returns-clause-refused
returns-clause-refused c = tables_mean_or_are_refused

pub returns-clause-one : goal.returns-clause-one
returns-clause-one c = tables_mean_one_list
