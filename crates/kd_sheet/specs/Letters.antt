-- Texts of capital letters.
-- Test: tests/cases/desk-files.toml
use Rattle.std.specs.Prelude.{ℕ, nat_eq, Bool, ◌&&◌, List, length, Option, Some, None, Result, if◌then◌else◌}
use Rattle.std.specs.List.{list_all}
use Rattle.toml.specs.Data.{Members}
use Rattle.kd_tables.specs.Tables.{letters_of}
use Rattle.kd_tables.specs.Text.{is_capital}
use Rattle.kd_sheet.specs.Document.{read_at, from_text}
use Rattle.kd_sheet.specs.declared.key.Key.{Key}
use Rattle.kd_sheet.specs.declared.fault.SheetFault.{SheetFault}

-- The letters of `text`. `None` if a byte isn't a capital letter, or if `fits` is false for the number of letters.
abbrev pub capital_letters : (ℕ → Bool) → List ℕ → Option (List ℕ)
capital_letters fits text = if fits (length text) && list_all is_capital text then Some (letters_of text) else None

unfoldable pub letters_at : Key → ℕ → Members → Result (List ℕ) SheetFault
letters_at key count table = read_at key (from_text (capital_letters (nat_eq count))) table
