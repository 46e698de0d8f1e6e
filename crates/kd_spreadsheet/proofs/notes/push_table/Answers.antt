use Rattle.std.proofs.Common.{◌++◌, subst, sym}
use Rattle.std.proofs.lemmas.Result.{IfOk-weaker}
use Rattle.csv.specs.Records.{fields_of}
use Rattle.kd_spreadsheet.specs.Notes.{OfNothing, nothing_note, unread_note}
use Rattle.kd_options.specs.TableOptions.{texts_of}
use Rattle.kd_spreadsheet.specs.Table.{AreRows}
use Rattle.kd_spreadsheet.proofs.Noting.{of_text, two_parts}
use Rattle.kd_spreadsheet.proofs.ReadRows.{first_row, no_row}
use Rattle.kd_spreadsheet.proofs.notes.push_table.Goals as goal

pub returns-in_default : goal.returns-in_default
returns-in_default c =
    let l = c.args.wording.language in
    let table = c.args.table.now in
    let none = no_row c.in_ok-records.records.items (rw c.as_slice.ensures.value at c.in_default.len_below) in
    let are = subst (AreRows table) none c.in_ok-records.ensures in
    IfOk-weaker c.push_line.result _ _ (λ done told. of_text l (texts_of c.args.options.now) table (nothing_note l)
    c.args.note.now.items _ c.requires.empty told (OfNothing c.requires.quoted are))
    (rw (c.as_bytes.ensures.value, c.text.ensures) at c.push_line.ensures)

pub push_faults-requires-clause-columns : goal.push_faults-requires-clause-columns
push_faults-requires-clause-columns c = rw c.new-head.ensures c.of_head-columns.ensures

pub push_faults-requires-clause-are : goal.push_faults-requires-clause-are
push_faults-requires-clause-are c =
    let table = c.args.table.now in
    let first = first_row c.as_slice.result.now c.names-item.result c.in-len1-up.len_at_least c.names-item.is in
    let are = rw (sym c.as_slice.ensures.value) at c.in_ok-records.ensures in
    rw c.new-head.ensures (subst (AreRows table) first are)

pub returns : goal.returns
returns c =
    let l = c.args.wording.language in
    let names = fields_of c.names-item.result in
    let unread = rw c.new-head.ensures at c.in_ok-push_unread_note.ensures in
    let faults = rw c.new-head.ensures at c.push_faults.ensures in
    IfOk-weaker c.push_faults.result _ _ (λ done has. of_text l (texts_of c.args.options.now) c.args.table.now
    (unread_note l names ++ has.0) c.args.note.now.items _ c.requires.empty
    (two_parts _ _ _ (unread_note l names) has.0 unread has.1) has.2)
    faults
