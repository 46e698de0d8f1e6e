-- The texts of the options `--model`, `--reflector` and `--window`, which replace blank or missing cells.
-- Test: tests/cases/curator-sheet.toml
use Rattle.std.specs.Prelude.{List, ℕ}
use Rattle.std.specs.Borrow.{Bor}
use Rattle.kd_options.specs.declared.table_options.TableOptions.{TableOptions}

-- The texts of the options `--model`, `--reflector` and `--window`. An empty text replaces no cell.
abbrev pub OptionTexts : Type 0
OptionTexts = TableOptions (List ℕ)

-- the texts of `options`: the code has references to texts, and the definitions have the texts themselves
abbrev pub texts_of : TableOptions (Bor (List ℕ)) → OptionTexts
texts_of options =
    record { model = options.model.now; reflector = options.reflector.now; window = options.window.now }
