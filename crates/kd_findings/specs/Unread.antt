-- The keys of a machine file or a key sheet that the desk doesn't know, and so doesn't read.
-- Test: tests/cases/curator-look.toml
use Rattle.std.specs.Prelude.{ℕ, Bool, not, List, [], ◌∷◌, ◌++◌, length, map, Option, Some, None, bytes_eq}
use Rattle.std.specs.Prelude.{if◌then◌else◌}
use Rattle.std.specs.List.{filter, flat_map, list_any, range_with_len}
use Rattle.std.specs.Option.{option_map_or}
use Rattle.std.specs.Result.{result_ok}
use Rattle.toml.specs.Data.{Data, Members, no_members, member, as_table}
use Rattle.kd_tables.specs.Tables.{by_family, family_of}
use Rattle.kd_tables.specs.declared.model.Model.{Model}
use Rattle.kd_state.specs.SameParts.{numbered_item}
use Rattle.kd_sheet.specs.Key.{key_name}
use Rattle.kd_sheet.specs.MachineFile.{model_in}
use Rattle.kd_sheet.specs.declared.key.Key.{Key}
use Rattle.kd_sheet.specs.declared.key.Key.TheVariants as keys
use Rattle.kd_findings.specs.Kind.{entries_of, is_machine_file}
use Rattle.kd_findings.specs.SheetFaults.{number_in}
use Rattle.kd_findings.specs.declared.unread.Unread.{Unread}

-- An unread key. `name` is the key's name. `entry` is the number of the key sheet's entry that has the key, counted
-- from 1. For a key at the top of the file, `entry` is `None`. `day` is the entry's day, if it is known.
pub record UnreadKey : Type 0 where
  pub entry : Option ℕ
  pub day : Option ℕ
  pub name : List ℕ

-- the keys of a rotor machine's file
abbrev pub rotor_file_keys : List Key
rotor_file_keys =
    keys.Version ∷ keys.Model ∷ keys.Reflector ∷ keys.Slots ∷ keys.Rings ∷ keys.Letters ∷ keys.Cables ∷ []

-- the keys of a Converter's file
abbrev pub pin_file_keys : List Key
pin_file_keys = keys.Version ∷ keys.Model ∷ keys.Letters ∷ keys.Pins ∷ keys.Bars ∷ []

-- the keys of machine files for a model; if the model isn't known, the keys of all machine files
abbrev pub file_keys : Option Model → List Key
file_keys (Some model) = by_family rotor_file_keys pin_file_keys (family_of model)
file_keys None = rotor_file_keys ++ pin_file_keys

-- the keys of a rotor machine's day
abbrev pub rotor_day_keys : List Key
rotor_day_keys =
    keys.Day ∷ keys.Model ∷ keys.Reflector ∷ keys.Wheels ∷ keys.Rings ∷ keys.Window ∷ keys.Plugs ∷ keys.Groups ∷ []

-- the keys of a Converter's day
abbrev pub pin_day_keys : List Key
pin_day_keys = keys.Day ∷ keys.Model ∷ keys.Rows ∷ keys.Pins ∷ keys.Window ∷ keys.List ∷ []

-- the keys of entries for a model; if the model isn't known, the keys of all entries
abbrev pub day_keys : Option Model → List Key
day_keys (Some model) = by_family rotor_day_keys pin_day_keys (family_of model)
day_keys None = rotor_day_keys ++ pin_day_keys

-- whether one of the keys `known` has the name `name`
abbrev pub is_name_of : List Key → List ℕ → Bool
is_name_of known name = list_any (λ key. bytes_eq (key_name key) name) known

-- the names of all keys of a table
abbrev pub names_in : Members → List (List ℕ)
names_in no_members = []
names_in (member name value rest) = name ∷ names_in rest

-- the keys of `table` that aren't among the keys `known`; `entry` is the number of the table's entry, and `day` its day
unfoldable pub unread_in : Option ℕ → Option ℕ → List Key → Members → List UnreadKey
unread_in entry day known table = map (λ name. record { entry = entry; day = day; name = name })
    (filter (λ name. not (is_name_of known name)) (names_in table))

-- the unread keys of an entry; empty if the entry isn't a table
unfoldable pub unread_in_entry : ℕ → Data → List UnreadKey
unread_in_entry number item = option_map_or (λ table.
    unread_in (Some number) (result_ok (number_in table)) (day_keys (result_ok (model_in table))) table) (as_table item) []

-- the unread keys of all entries
abbrev pub unread_in_entries : List Data → List UnreadKey
unread_in_entries items = flat_map (λ number. option_map_or (unread_in_entry number) (numbered_item items number) [])
    (range_with_len 1 (length items))

-- The known keys of a document without the array `day`. In a machine file, the keys of the file's model are known. In
-- any other document, the keys of all machine files and of all days are known. Such a document may be a key sheet that
-- lacks its first line `[[day]]`, and so has a day's keys at the top.
abbrev pub top_keys : Members → List Key
top_keys document = if is_machine_file document then file_keys (result_ok (model_in document))
    else rotor_file_keys ++ pin_file_keys ++ rotor_day_keys ++ pin_day_keys

-- The unread keys of a document. In a key sheet, only `day` is known at the top.
unfoldable pub unread_keys : Members → List UnreadKey
unread_keys document = option_map_or
    (λ items. unread_in None None (keys.Day ∷ []) document ++ unread_in_entries items) (entries_of document)
    (unread_in None None (top_keys document) document)

-- ---- What inner functions answer. No public contract cites these definitions.

-- the unread key `found`, with the key's name as a list of bytes
abbrev pub unread_key : Unread → UnreadKey
unread_key found = record { entry = found.entry; day = found.day; name = found.name.now }

abbrev pub unread_of : List Unread → List UnreadKey
unread_of list = map unread_key list
