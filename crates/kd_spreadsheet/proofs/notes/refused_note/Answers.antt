use Rattle.std.proofs.Common.{◌≡◌, false, arith}
use Rattle.std.proofs.lemmas.Grind.{common_steps}
use Rattle.kd_spreadsheet.specs.Notes.{OfQuotes, quotes_note}
use Rattle.kd_options.specs.TableOptions.{texts_of}
use Rattle.kd_spreadsheet.specs.Rows.{is_well_quoted}
use Rattle.kd_spreadsheet.proofs.Noting.{of_text}
use Rattle.kd_spreadsheet.proofs.notes.refused_note.Goals as goal

pub returns-then-not-is_well_quoted : goal.returns-then-not-is_well_quoted
returns-then-not-is_well_quoted c =
    let wrong : is_well_quoted c.args.table.now ≡ false = grind (arith, common_steps) in
    of_text c.args.wording.language (texts_of c.args.options.now) c.args.table.now
    (quotes_note c.args.wording.language) c.new-note.result.items _ c.new-note.ensures.items
    (rw (c.as_bytes.ensures.value, c.text.ensures) at c.in_ok-push_line.ensures) (OfQuotes wrong)
