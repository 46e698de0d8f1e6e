-- The file with a sheet's tables: a page to print, or a CSV table for a spreadsheet.
use Rattle.std.specs.Prelude.{ℕ, Bool, if◌then◌else◌, List, [], ◌++◌, flat_map, Option}
use Rattle.kd_tables.specs.Tables.{all_models, by_family, family_of}
use Rattle.kd_tables.specs.declared.model.Model.{Model}
use Rattle.kd_state.specs.SheetDay.{Day}
use Rattle.kd_sheet.specs.Sheet.{day_of}
use Rattle.kd_language.specs.declared.language.Language.{Language}
use Rattle.kd_pictures.specs.declared.texts.TheConstants.{FOOT, MORE_STYLE, STYLE}
use Rattle.kd_pictures.specs.FileHead.{file_head}
use Rattle.kd_language.specs.Language.{text_in}
use Rattle.kd_printed_sheet.specs.declared.days.TheConstants.{DAYS}
use Rattle.kd_printed_sheet.specs.declared.texts.TheConstants.{NO_DAYS, TITLE, WIDE_BODY}
use Rattle.kd_options.specs.declared.table_form.TableForm.{TableForm}
use Rattle.kd_options.specs.declared.table_form.TableForm.TheVariants.{Csv, Page}
use Rattle.kd_printed_sheet.specs.CsvTable.{csv_text}
use Rattle.kd_printed_sheet.specs.Days.{has_days}
use Rattle.kd_printed_sheet.specs.KeyList.{key_list_of}
use Rattle.kd_printed_sheet.specs.MonthTable.{month_table}

-- the sentence for a month without days; empty if the month has days
abbrev pub no_days : Language → Bool → List ℕ
no_days l has_days = if has_days then [] else text_in l NO_DAYS

-- the tables for a model: one table of the days for a rotor machine, or a key list for each day of a Converter
unfoldable pub tables_for : Language → List (Option Day) → Model → List ℕ
tables_for l month model =
    by_family (month_table l model month) (flat_map (λ number. key_list_of l (day_of month number)) DAYS)
    (family_of model)

-- the HTML page with the tables of all days
unfoldable pub page_text : Language → List (Option Day) → List ℕ
page_text l month =
    file_head l ++ text_in l TITLE ++ STYLE.now ++ MORE_STYLE.now ++ WIDE_BODY.now ++ no_days l (has_days month)
    ++ flat_map (tables_for l month) all_models ++ FOOT.now

-- the file with the tables: a page in the language `l`, or a CSV table, which is the same in all languages
abbrev pub file_text : Language → TableForm → List (Option Day) → List ℕ
file_text l Page month = page_text l month
file_text l Csv month = csv_text month
