-- Which documents are machine files, and which are key sheets. Their keys at the top decide, not the file's name. The
-- first rule that fits is the one that holds:
--
-- - A document with the array `day` is a key sheet.
-- - A document with the key `version` is a machine file.
-- - A document with the key `day` is a key sheet. Its `day` has the wrong type, such as `[day]`.
-- - A document with the key `model` is a machine file.
-- - Any other document may be either. It may be a key sheet without its lines `[[day]]`, or a machine file without
--   `version` and `model`. `look` says that it can't tell which.
--
-- Source: `docs/FORMATS.md`. Test: tests/cases/curator-look.toml
use Rattle.std.specs.Prelude.{◌&&◌, ◌||◌, Bool, not, is_some, List, Option}
use Rattle.std.specs.Option.{option_and_then}
use Rattle.toml.specs.Data.{Data, Members, get_member}
use Rattle.kd_sheet.specs.Document.{as_items}
use Rattle.kd_sheet.specs.Key.{key_name}
use Rattle.kd_sheet.specs.declared.key.Key.{Key}
use Rattle.kd_sheet.specs.declared.key.Key.TheVariants as keys

-- the items of the array `day`; `None` if the document has no such array
abbrev pub entries_of : Members → Option (List Data)
entries_of document = option_and_then as_items (get_member (key_name keys.Day) document)

-- whether the document has the key
abbrev pub is_given : Key → Members → Bool
is_given key document = is_some (get_member (key_name key) document)

-- whether the document is a machine file
unfoldable pub is_machine_file : Members → Bool
is_machine_file document = not (is_some (entries_of document))
    && (is_given keys.Version document || (is_given keys.Model document && not (is_given keys.Day document)))
