use Rattle.std.proofs.Common.{◌∙◌, ◌||◌, Bool, sym}
use Rattle.kd_spreadsheet.specs.Cells.{has_text, is_optional}
use Rattle.kd_options.specs.TableOptions.{texts_of}
use Rattle.kd_spreadsheet.specs.declared.cell.Cell.{Cell}
use Rattle.kd_spreadsheet.specs.declared.cell.Cell.TheVariants as cells
use Rattle.kd_spreadsheet.proofs.ColumnsThere.{all_of_row}
use Rattle.kd_spreadsheet.proofs.cell.has_columns.Goals as goal

pub returns : goal.returns
returns c =
    let p : Cell → Bool = λ cell. is_optional cell || has_text (texts_of c.args.options.now) c.args.columns.now cell in
    all_of_row p cells.Day cells.Model _ _ c.has_each_column.result (sym c.has_column.ensures ∙ c.if-not-has_column.false)
    (sym c.has_column-2.ensures ∙ c.if-not-has_column-2.false) c.known_cells-known.ensures c.has_each_column.ensures
