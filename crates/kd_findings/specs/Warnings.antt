-- The warnings about a machine file or a key sheet. There is a line for each unread key. There is also a line for each
-- cable with two capital letters in falling order, such as `BA`. The desk writes this cable as `AB`.
-- Test: tests/cases/curator-look.toml
use Rattle.std.specs.Prelude.{◌≡◌, ℕ, ◌++◌, ◌&&◌, nat_le, nat_lt, Bool, List, [], ◌∷◌, Option}
use Rattle.std.specs.Prelude.{if◌then◌else◌}
use Rattle.std.specs.List.{flat_map}
use Rattle.std.specs.Option.{option_and_then, option_map_or}
use Rattle.std.specs.Result.{result_ok}
use Rattle.toml.specs.Data.{Data, Members, get_member, as_str}
use Rattle.kd_tables.specs.Tables.{by_family, family_of}
use Rattle.kd_tables.specs.declared.model.Model.{Model}
use Rattle.kd_sheet.specs.Document.{as_items}
use Rattle.kd_sheet.specs.Key.{key_name}
use Rattle.kd_sheet.specs.MachineFile.{model_in}
use Rattle.kd_sheet.specs.declared.key.Key.TheVariants as keys
use Rattle.kd_language.specs.declared.language.Language.{Language}
use Rattle.kd_language.specs.Language.{text_in}
use Rattle.kd_language.specs.Template.{filled}
use Rattle.kd_slips.specs.Shown.{shown_text}
use Rattle.kd_findings.specs.Kind.{is_machine_file}
use Rattle.kd_findings.specs.Texts.{ArePieces, IsInOneLine, entry_words}
use Rattle.kd_findings.specs.Unread.{UnreadKey, unread_keys}
use Rattle.kd_findings.specs.declared.texts.TheConstants.{CABLE_ORDER, UNREAD, WARNING}

-- the start of a warning: the file's name and, for a key in an entry, the entry's day or number
unfoldable pub warning_start : Language → List ℕ → Option ℕ → Option ℕ → List ℕ
warning_start l name day entry = name ++ entry_words l day entry ++ text_in l WARNING

-- the warning about an unread key: the file's name, the key, and advice
unfoldable pub unread_line : Language → List ℕ → UnreadKey → List ℕ → List ℕ
unread_line l name key advice =
    warning_start l name key.day key.entry ++ filled (text_in l UNREAD) (shown_text l key.name ∷ advice ∷ [])

-- `text` is the warning about the unread key `key` of the file `name`. The warning may end with advice, such as a known
-- key to write instead.
pub record TellsUnread (l : Language) (name : List ℕ) (key : UnreadKey) (text : List ℕ) : Type 0 where
  pub advice : List ℕ
  pub plain : IsInOneLine advice
  pub whole : text ≡ unread_line l name key advice

-- whether the byte is a capital letter
abbrev pub is_capital : ℕ → Bool
is_capital byte = nat_le 65 byte && nat_le byte 90

-- the warning about a cable of two capital letters in falling order, such as `BA`; empty for any other cable
unfoldable pub order_line : Language → List ℕ → List ℕ → List ℕ
order_line l name (one ∷ other ∷ []) =
    if is_capital one && is_capital other && nat_lt other one
    then name ++ text_in l WARNING ++ filled (text_in l CABLE_ORDER) ((one ∷ other ∷ []) ∷ (other ∷ one ∷ []) ∷ [])
    else []
order_line l name cable = []

-- the warning about a cable; empty if the cable isn't a text
abbrev pub cable_line : Language → List ℕ → Data → List ℕ
cable_line l name item = option_map_or (order_line l name) (as_str item) []

-- the warnings about the cables in the array at the key `cables`
unfoldable pub cable_lines : Language → List ℕ → Members → List ℕ
cable_lines l name document = option_map_or (flat_map (cable_line l name))
    (option_and_then as_items (get_member (key_name keys.Cables) document)) []

-- the warnings about the cables in a machine file for this model; a Converter has no cables
abbrev pub model_lines : Language → List ℕ → Members → Model → List ℕ
model_lines l name document model = by_family (cable_lines l name document) [] (family_of model)

-- The warnings about the cables of a document. Empty if the document isn't a machine file, or the file's model isn't
-- known.
unfoldable pub order_lines : Language → List ℕ → Members → List ℕ
order_lines l name document = if is_machine_file document
    then option_map_or (model_lines l name document) (result_ok (model_in document)) [] else []

-- `text` has exactly one warning for each unread key of the document. Then it has a warning for each cable with two
-- capital letters in falling order, such as `BA`.
pub record AreWarnings (l : Language) (name : List ℕ) (document : Members) (text : List ℕ) : Type 0 where
  pub unread : List ℕ
  pub told : ArePieces (TellsUnread l name) (unread_keys document) unread
  pub whole : text ≡ unread ++ order_lines l name document
