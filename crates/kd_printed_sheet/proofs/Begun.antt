-- The whole file of the tables.
use Rattle.std.proofs.Common.{◌≡◌, ℕ, List, ◌∷◌, Option, refl}
use Rattle.kd_language.specs.declared.language.Language.{Language}
unfoldable use Rattle.kd_pictures.specs.FileHead.{file_head}
unfoldable use Rattle.kd_language.specs.Template.{filled}
use Rattle.kd_state.specs.SheetDay.{Day}
use Rattle.kd_options.specs.declared.table_form.TableForm.{TableForm}
use Rattle.kd_options.specs.declared.table_form.TableForm.TheVariants.{Csv, Page}
unfoldable use Rattle.kd_printed_sheet.specs.CsvTable.{csv_text}
use Rattle.kd_printed_sheet.specs.TableFile.{file_text}
unfoldable use Rattle.kd_printed_sheet.specs.TableFile.{page_text}

-- A file isn't empty: its first byte is `<`, or the first byte of the columns' names.
pub file_begins : (l : Language) (form : TableForm) (month : List (Option Day))
    → (byte : ℕ) × ((rest : List ℕ) × (file_text l form month ≡ byte ∷ rest))
unfolding page_text csv_text file_head filled
file_begins l Page month = (_, (_, refl))
file_begins l Csv month = (_, (_, refl))
