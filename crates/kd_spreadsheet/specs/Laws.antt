-- This crate's laws about tables: no table is both accepted and refused, and no table has two meanings.
use Rattle.std.specs.Prelude.{◌≡◌, ℕ, List}
use Rattle.kd_state.specs.SheetDay.{Day}
use Rattle.kd_options.specs.TableOptions.{OptionTexts}
use Rattle.kd_spreadsheet.specs.Table.{IsRefusedTable, TableMeans}

-- If a table means days, it isn't refused.
abbrev pub MeansOrIsRefused : Type 0
MeansOrIsRefused = (options : OptionTexts) (table : List ℕ) (days : List Day) → TableMeans options table days
    → ¬ (IsRefusedTable options table)

-- No table means two different lists of days.
abbrev pub MeansOneList : Type 0
MeansOneList = (options : OptionTexts) (table : List ℕ) (one other : List Day) → TableMeans options table one
    → TableMeans options table other → one ≡ other
