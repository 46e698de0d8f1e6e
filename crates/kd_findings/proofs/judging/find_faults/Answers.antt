use Rattle.std.proofs.Common.{◌≡◌, ap, arith, false, true, ◌∙◌}
use Rattle.std.proofs.lemmas.Result.{IfOk-weaker}
use Rattle.toml.specs.View.{table_view}
use Rattle.kd_findings.specs.Faults.{first_fault}
use Rattle.kd_findings.specs.Kind.{is_machine_file}
use Rattle.kd_findings.proofs.FirstOfFile.{first_of_machine, first_of_sheet}
use Rattle.kd_findings.proofs.judging.find_faults.Goals as goal

pub returns-then-is_machine_file-clause-first : goal.returns-then-is_machine_file-clause-first
returns-then-is_machine_file-clause-first c =
    let is : is_machine_file (table_view c.args.document.now) ≡ true =
    grind (arith, c.is_machine_file.ensures, c.if-is_machine_file.true) in
    IfOk-weaker c.machine_faults.result _ _
    (λ list are. ap first_fault are ∙ first_of_machine _ is) c.machine_faults.ensures

pub returns-else-is_machine_file-clause-first : goal.returns-else-is_machine_file-clause-first
returns-else-is_machine_file-clause-first c =
    let other : is_machine_file (table_view c.args.document.now) ≡ false =
    grind (arith, c.is_machine_file.ensures, c.if-is_machine_file.false) in
    IfOk-weaker c.find_sheet_faults.result _ _
    (λ list are. first_of_sheet _ _ other are) c.find_sheet_faults.ensures
