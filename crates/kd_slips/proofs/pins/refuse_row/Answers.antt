use Rattle.std.proofs.Common.{◌≡◌, IfErr, Some, arith, subst}
use Rattle.kd_sheet.specs.declared.fault.SheetFault.TheVariants.{BadRow}
use Rattle.kd_slips.specs.Items.{HasFault}
use Rattle.kd_slips.proofs.Finding.{handed_on, of_row}
use Rattle.kd_slips.proofs.pins.refuse_row.Goals as goal

pub returns-in_default-clause-slip : goal.returns-in_default-clause-slip
returns-in_default-clause-slip c =
    let number = c.args.number in
    let same : c.from-place.result ≡ number = grind (arith, c.from-place.ensures) in
    subst (λ place. IfErr c.refuse_item.result (HasFault (BadRow number) (Some place))) same c.refuse_item.ensures.slip

pub returns-in_err-text-clause-refused : goal.returns-in_err-text-clause-refused
returns-in_err-text-clause-refused c = c.from_residual.ensures.0

pub returns-in_err-text-clause-slip : goal.returns-in_err-text-clause-slip
returns-in_err-text-clause-slip c =
    let number = c.args.number in
    let same : c.from-place.result ≡ number = grind (arith, c.from-place.ensures) in
    handed_on c.from_residual.result _ (HasFault (BadRow number) (Some number)) c.from_residual.ensures.1
    (of_row number c.from-place.result c.in_err-text.field-0.0 same c.in_err-text.ensures.slip)

pub returns : goal.returns
returns c =
    let number = c.args.number in
    let same : c.from-place.result ≡ number = grind (arith, c.from-place.ensures) in
    record {
      refused = c.refuse_item-2.ensures.refused;
      slip =
          subst (λ place. IfErr c.refuse_item-2.result (HasFault (BadRow number) (Some place))) same
          c.refuse_item-2.ensures.slip;
    }
