-- The warnings about a file: about a byte order mark, about the file's keys, and about a key sheet's days.
-- Test: tests/cases/curator-look.toml
use Rattle.std.specs.Prelude.{codes, ◌≡◌, ℕ, ◌++◌, ◌∷◌, ◌==◌, ◌&&◌, Bool, List, [], Option, flat_map, slice_index, if◌then◌else◌}
use Rattle.std.specs.List.{range_with_len}
use Rattle.std.specs.Option.{option_map_or}
use Rattle.toml.specs.Data.{Members}
use Rattle.kd_state.specs.SheetDay.{Day}
use Rattle.kd_sheet.specs.Sheet.{day_of}
use Rattle.kd_language.specs.Language.{text_in}
use Rattle.kd_language.specs.declared.language.Language.{Language}
use Rattle.kd_slips.specs.Counts.{counts_of, few_lines}
use Rattle.kd_slips.specs.declared.counts.DayCounts.{DayCounts}
use Rattle.kd_findings.specs.Texts.{ArePieces, IsInOneLine}
use Rattle.kd_findings.specs.Warnings.{AreWarnings}
use Rattle.kd_findings.specs.declared.texts.TheConstants.{WARNING}
use Rattle.kd_look.specs.declared.file.File.{File}
use Rattle.kd_look.specs.declared.file.File.TheVariants as files
use Rattle.kd_look.specs.declared.texts.TheConstants.{DAY_WARNING, MARK}

-- whether the bytes begin with the byte order mark of UTF-8
unfoldable pub has_mark : List ℕ → Bool
has_mark bytes = slice_index bytes 0 == 239 && slice_index bytes 1 == 187 && slice_index bytes 2 == 191

-- the warning about a file's byte order mark; empty if the file has none
unfoldable pub mark_words : Language → List ℕ → List ℕ → List ℕ
mark_words l name bytes = if has_mark bytes then name ++ text_in l MARK else []

-- The text has the warning about a byte order mark, if the file begins with one. Then it has the warnings about the
-- keys of the file's document.
pub record AreKeyWarnings (l : Language) (name bytes : List ℕ) (document : Members) (text : List ℕ) : Type 0 where
  pub lines : List ℕ
  pub told : AreWarnings l name document lines
  pub whole : text ≡ mark_words l name bytes ++ lines

-- a warning about days: the file's name, the words `DAY_WARNING`, and `words`
unfoldable pub day_line : Language → List ℕ → List ℕ → List ℕ
day_line l name words = name ++ text_in l DAY_WARNING ++ words ++ codes "\n"

-- The text is a warning about days, with the words `words`, which have no line end.
pub record IsDayLine (l : Language) (name words text : List ℕ) : Type 0 where
  pub plain : IsInOneLine words
  pub whole : text ≡ day_line l name words

-- The text consists of warnings about days.
pub record WarnsOfDays (l : Language) (name text : List ℕ) : Type 0 where
  pub words : List (List ℕ)
  pub are : ArePieces (IsDayLine l name) words text

-- how many pairs and how many groups the day `number` has, as a list with one item; empty if the sheet doesn't have
-- this day
abbrev pub counts_on : List (Option Day) → ℕ → List DayCounts
counts_on month number = option_map_or (λ day. counts_of day ∷ []) (day_of month number) []

-- how many pairs and how many groups each day of a sheet has, in the order of the days
abbrev pub counts_in : List (Option Day) → List DayCounts
counts_in month = flat_map (counts_on month) (range_with_len 1 31)

-- the warnings about days that have fewer pairs, or fewer groups, than another day of their model
unfoldable pub few_day_words : Language → List ℕ → List (Option Day) → List ℕ
few_day_words l name month = few_lines l (name ++ text_in l WARNING) (counts_in month)

-- The text has the warnings about a sheet's days. First come the warnings about days that differ only in their numbers.
-- Then come the warnings about days that have fewer pairs or groups than another day of their model.
pub record WarnsOfMonth (l : Language) (name : List ℕ) (month : List (Option Day)) (text : List ℕ) : Type 0 where
  pub alike : List ℕ
  pub of_alike : WarnsOfDays l name alike
  pub whole : text ≡ alike ++ few_day_words l name month

-- The text has the warnings about the days of a file. If the file isn't a key sheet, the text is empty.
abbrev pub WarnsOfFile : Language → List ℕ → File → List ℕ → Type 0
WarnsOfFile l name (files.Machine machine) text = text ≡ []
WarnsOfFile l name (files.Sheet month) text = WarnsOfMonth l name month text
