-- A key sheet in words: lines for the days of each model, and lines for the days without groups. Successive days share
-- a line, such as `M3: days 4 to 9`.
-- Test: tests/cases/curator-look.toml
use Rattle.std.specs.Prelude.{codes, ℕ, ◌+◌, ◌-◌, ◌==◌, ◌++◌, Bool, false, List, [], length, Option, decimal}
use Rattle.std.specs.Prelude.{if◌then◌else◌}
use Rattle.std.specs.List.{flat_map, range_with_len}
use Rattle.std.specs.Option.{option_map_or}
use Rattle.kd_tables.specs.Tables.{all_models, model_text}
use Rattle.kd_tables.specs.declared.model.Model.{Model}
use Rattle.kd_state.specs.SheetDay.{Day, rotor_day}
use Rattle.kd_sheet.specs.Sheet.{day_of, has_day_of}
use Rattle.kd_language.specs.Language.{text_in}
use Rattle.kd_language.specs.declared.language.Language.{Language}
use Rattle.kd_look.specs.declared.sheet_words.DaySort.{DaySort}
use Rattle.kd_look.specs.declared.sheet_words.DaySort.TheVariants as sorts
use Rattle.kd_look.specs.declared.texts.TheConstants.{DAY, FIRST_DAY, LAST_DAY, WITHOUT_GROUPS}

-- whether the day is a rotor machine's day without groups
abbrev pub lacks_groups : Day → Bool
lacks_groups day = option_map_or (λ values. length values.groups == 0) (rotor_day day) false

-- whether the sheet has the day `number`, and the day is of the sort `sort`
unfoldable pub has_day : List (Option Day) → DaySort → ℕ → Bool
has_day month (sorts.Of model) number = has_day_of model month number
has_day month sorts.WithoutGroups number = option_map_or lacks_groups (day_of month number) false

-- The words that day `number` adds to the lines for days of its sort, such as the line `M3: days 4 to 9`. There, day 4
-- adds `M3: days 4 to `, day 9 adds `9` and the line end, and the days between them add nothing. `before` and `after`
-- say whether the days before and after are of the same sort.
unfoldable pub day_words : Language → List ℕ → Bool → Bool → ℕ → List ℕ
day_words l title before after number =
    if before then (if after then [] else decimal number ++ codes "\n")
    else (if after then title ++ text_in l FIRST_DAY ++ decimal number ++ text_in l LAST_DAY
    else title ++ text_in l DAY ++ decimal number ++ codes "\n")

-- the words that day `number` of the sheet adds to the lines for the days of the sort `sort`; empty if the day isn't of
-- this sort
unfoldable pub numbered_day_words : Language → List (Option Day) → List ℕ → DaySort → ℕ → List ℕ
numbered_day_words l month title sort number =
    if has_day month sort number
    then day_words l title (has_day month sort (number - 1)) (has_day month sort (number + 1)) number else []

-- the lines for the days of the sort `sort`; each line begins with `title`
unfoldable pub sort_words : Language → List (Option Day) → List ℕ → DaySort → List ℕ
sort_words l month title sort = flat_map (numbered_day_words l month title sort) (range_with_len 1 31)

-- the lines for a model's days
abbrev pub model_words : Language → List (Option Day) → Model → List ℕ
model_words l month model = sort_words l month (model_text model) (sorts.Of model)

-- the words for a key sheet: the days of each model, and the days without groups
unfoldable pub sheet_words : Language → List (Option Day) → List ℕ
sheet_words l month =
    flat_map (model_words l month) all_models ++ sort_words l month (text_in l WITHOUT_GROUPS) sorts.WithoutGroups
