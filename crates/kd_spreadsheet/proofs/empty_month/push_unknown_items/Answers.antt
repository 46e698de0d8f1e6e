use Rattle.std.proofs.Common.{◌≡◌, ◌∙◌, ap, ◌++◌}
use Rattle.std.specs.Prelude.{replicate}
use Rattle.arrayvec.specs.ArrayString.{ArrayString}
use Rattle.kd_spreadsheet.specs.EmptySheet.{unknown_items_line}
use Rattle.kd_sheet.specs.MachineText.{key_line, array_text}
use Rattle.kd_spreadsheet.proofs.EmptyMonths.{map-replicate}
use Rattle.kd_spreadsheet.proofs.empty_month.push_unknown_items.Goals as goal

pub returns-clause-bytes : goal.returns-clause-bytes
unfolding unknown_items_line
returns-clause-bytes g c =
    let same : c.unwrap-item.result.bytes ≡ c.args.item.now = rw c.unwrap-item.ensures at c.from.ensures.ok in
    c.push_list_line.ensures.bytes
    ∙ ap (λ texts. c.args.text.now.bytes ++ key_line c.args.key (array_text texts))
    (map-replicate (λ (text : ArrayString). text.bytes) c.unwrap-item.result g.row.N ∙ ap (λ bytes. replicate g.row.N bytes) same)
