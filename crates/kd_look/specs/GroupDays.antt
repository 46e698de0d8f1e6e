-- The lines that say which days of key sheets have the groups of orders and forms. A day is named only if the message
-- can be for the day's machine.
-- Test: tests/cases/curator-look.toml
use Rattle.std.specs.Prelude.{ℕ, ◌==◌, ◌++◌, ◌&&◌, Bool, false, List, [], ◌∷◌, count_by, decimal, Option, Some, None}
use Rattle.std.specs.List.{enumerate_from, filter, flat_map, list_all, list_any, range_with_len}
use Rattle.std.specs.Option.{option_map_or}
use Rattle.kd_tables.specs.Tables.{slots_of}
use Rattle.kd_tables.specs.Text.{letters_text}
use Rattle.kd_tables.specs.declared.model.Model.{Model}
use Rattle.kd_state.specs.SheetDay.{Day, Pin, Rotor, day_model}
use Rattle.kd_sheet.specs.Sheet.{day_of}
use Rattle.kd_language.specs.Language.{text_in}
use Rattle.kd_language.specs.declared.language.Language.{Language}
use Rattle.kd_language.specs.Template.{filled}
use Rattle.kd_look.specs.Groups.{KnownMessage}
use Rattle.kd_look.specs.MissingDays.{KnownFile}
use Rattle.kd_look.specs.declared.file.File.{File}
use Rattle.kd_look.specs.declared.file.File.TheVariants as files
use Rattle.kd_look.specs.declared.group_days.Search.{Search}
use Rattle.kd_look.specs.declared.message.order_head.KeyLine.{KeyLine}
use Rattle.kd_look.specs.declared.message.order_head.KeyLine.TheVariants as lines
use Rattle.kd_look.specs.declared.texts.TheConstants as texts

-- A search for a message's groups in a key sheet. `name` and `sheet` are the names of the two files. `keys` says how
-- the message's keys are written, and `month` has the sheet's days.
pub record GroupSearch : Type 0 where
  pub name : List ℕ
  pub keys : KeyLine
  pub sheet : List ℕ
  pub month : List (Option Day)

-- the number of slots of a machine, from the form of its lines of keys; a Converter has no slots
abbrev pub key_slots : KeyLine → ℕ
key_slots lines.ThreeSlots = 3
key_slots lines.FourSlots = 4
key_slots lines.Converter = 0

-- whether a message can be for the model, if `keys` says how the message's keys are written
abbrev pub can_be_for : KeyLine → Model → Bool
can_be_for keys model = slots_of model == key_slots keys

-- how often `letter` is in `letters`
abbrev pub times : ℕ → List ℕ → ℕ
times letter letters = count_by (λ other. other == letter) letters

-- whether both lists have the same letters in any order: `ABC` and `CAB` do, but `AAB` and `ABB` don't
abbrev pub are_reordered : List ℕ → List ℕ → Bool
are_reordered group letters = list_all (λ letter. times letter group == times letter letters) (group ++ letters)

-- whether `letters` are the letters of one of the day's groups, in any order; a Converter's day has no groups
abbrev pub has_group : List ℕ → Day → Bool
has_group letters (Rotor values) = list_any (λ group. are_reordered group letters) values.groups
has_group letters (Pin values) = false

-- whether the day has the group, and is for a model that the message can be for
abbrev pub suits : GroupSearch → List ℕ → Day → Bool
suits search group day = can_be_for search.keys (day_model day) && has_group group day

-- whether the sheet has day `number`, and this day suits the message and the group
unfoldable pub is_day_with : GroupSearch → List ℕ → ℕ → Bool
is_day_with search group number = option_map_or (suits search group) (day_of search.month number) false

-- the numbers of the sheet's days that suit the message and the group, in ascending order
abbrev pub days_with : GroupSearch → List ℕ → List ℕ
days_with search group = filter (is_day_with search group) (range_with_len 1 31)

-- the line that says that the group of part `part` belongs to day `day`; `group` is the group in capital letters
unfoldable pub group_day_line : Language → GroupSearch → ℕ → List ℕ → ℕ → List ℕ
group_day_line l search part group day =
    filled (text_in l texts.GROUP_DAY) (search.name ∷ decimal part ∷ group ∷ decimal day ∷ search.sheet ∷ [])

-- The warning that the group of part `part` belongs to no day of the sheet. Only days for the message's machine count.
-- `group` is the group in capital letters.
unfoldable pub no_group_line : Language → GroupSearch → ℕ → List ℕ → List ℕ
no_group_line l search part group =
    filled (text_in l texts.NO_GROUP) (search.name ∷ decimal part ∷ search.sheet ∷ group ∷ [])

-- A line for each day in the list of the days that have the group. If this list is empty, the warning that no day has
-- the group. `group` is the group in capital letters.
abbrev pub lines_for : Language → GroupSearch → ℕ → List ℕ → List ℕ → List ℕ
lines_for l search part group [] = no_group_line l search part group
lines_for l search part group (day ∷ days) = flat_map (group_day_line l search part group) (day ∷ days)

-- the lines that say which days of the sheet have the group of part `part`
unfoldable pub part_lines : Language → GroupSearch → ℕ → List ℕ → List ℕ
part_lines l search part group = lines_for l search part (letters_text group) (days_with search group)

-- the lines about several parts' groups; the first group belongs to part `part`, the second to part `part` + 1
abbrev pub parts_lines : Language → GroupSearch → ℕ → List (List ℕ) → List ℕ
parts_lines l search part groups =
    flat_map (λ numbered. part_lines l search numbered.0 numbered.1) (enumerate_from part groups)

-- the days of a key sheet; `None` if the file isn't a key sheet
abbrev pub month_in : Option File → Option (List (Option Day))
month_in (Some (files.Sheet month)) = Some month
month_in (Some (files.Machine machine)) = None
month_in None = None

-- the lines that say which days of the file `sheet` have the message's groups; empty if this file isn't a key sheet
abbrev pub sheet_lines : Language → List ℕ → KnownMessage → KnownFile → List ℕ
sheet_lines l name message sheet = option_map_or (λ month.
    parts_lines l (record { name = name; keys = message.keys; sheet = sheet.name; month = month }) 1 message.groups)
    (month_in sheet.file) []

-- the lines that say which days of the key sheets have the groups of `read`; empty if `read` isn't a faultless message
abbrev pub message_lines : Language → List KnownFile → KnownFile → List ℕ
message_lines l all read = option_map_or (λ message. flat_map (sheet_lines l read.name message) all) read.message []

-- the lines that say which days of the key sheets have the groups of all orders and forms
abbrev pub group_day_words : Language → List KnownFile → List ℕ
group_day_words l all = flat_map (message_lines l all) all

-- ---- Borrowed names and sheets. No public contract cites this definition.

-- a search, with plain values in place of borrowed ones
abbrev pub search_of : Search → GroupSearch
search_of search =
    record { name = search.name.now; keys = search.keys; sheet = search.sheet.now; month = search.month.now }
