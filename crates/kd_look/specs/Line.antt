-- The number of the line in which a value of a file stands: the first line up to whose end the file is a document with
-- this value. A missing array `day` gets the line of the file's first key.
-- Code: the document is parsed up to the end of each line in turn, once for all faults.
-- Test: tests/cases/curator-look.toml
use Rattle.std.specs.Prelude.{ℕ, ◌+◌, ◌==◌, ◌||◌, ◌&&◌, nat_lt, Bool, true, false, List, find, length, take, count_by}
use Rattle.std.specs.Prelude.{slice_index, Option, Some, None, is_some, option_map, if◌then◌else◌}
use Rattle.std.specs.List.{range_with_len}
use Rattle.std.specs.Option.{option_and_then, option_map_or}
use Rattle.std.specs.Result.{result_ok}
use Rattle.toml.specs.Data.{Data, Members, member, no_members, as_table}
use Rattle.kd_state.specs.SameParts.{numbered_item}
use Rattle.kd_sheet.specs.Document.{document_of}
use Rattle.kd_sheet.specs.declared.key.Key.{Key}
use Rattle.kd_sheet.specs.declared.key.Key.TheVariants as keys
use Rattle.kd_sheet.specs.declared.fault.SheetFault.{SheetFault}
use Rattle.kd_sheet.specs.declared.fault.SheetFault.TheVariants.{Missing}
use Rattle.kd_findings.specs.NotToml.{line_at}
use Rattle.kd_findings.specs.Kind.{entries_of, is_given}
use Rattle.kd_findings.specs.declared.findings.Finding.{Finding}
use Rattle.kd_findings.specs.declared.key_place.KeyPlace.{KeyPlace}
use Rattle.kd_look.specs.declared.line.Sought.{Sought}
use Rattle.kd_look.specs.declared.line.Sought.TheVariants as soughts

-- item number `entry` of `items`, counted from 1; `None` if this item is missing, or isn't a table
abbrev pub entry_of : List Data → ℕ → Option Members
entry_of items entry = option_and_then as_table (numbered_item items entry)

-- the table in which to look for a value: `document` itself or, if there is a number `entry`, item `entry` of the
-- document's array `day`
unfoldable pub table_at : Members → Option ℕ → Option Members
table_at document None = Some document
table_at document (Some entry) = option_and_then (λ items. entry_of items entry) (entries_of document)

-- whether the document has any key
abbrev pub has_any_key : Members → Bool
has_any_key no_members = false
has_any_key (member name value rest) = true

-- Whether the document has the entry or the key to look for. For `AnyKey`, whether it has any key.
unfoldable pub has_value : Sought → Members → Bool
has_value (soughts.Entry entry) document = is_some (table_at document (Some entry))
has_value (soughts.Key entry key) document = option_map_or (is_given key) (table_at document entry) false
has_value soughts.AnyKey document = has_any_key document

-- whether the text is a document with the entry or key `sought`
abbrev pub reads_value : Sought → List ℕ → Bool
reads_value sought text = option_map_or (has_value sought) (result_ok (document_of text)) false

-- whether a line ends after the byte at `index`: the byte is LF, or the text's last byte
abbrev pub ends_line : List ℕ → ℕ → Bool
ends_line text index = slice_index text index == 10 || index + 1 == length text

-- Whether a line ends after the byte at `index`, and `text` up to this byte is a document with the entry or key
-- `sought`.
unfoldable pub has_value_at : List ℕ → Sought → ℕ → Bool
has_value_at text sought index = ends_line text index && reads_value sought (take (index + 1) text)

-- The line of the entry or key `sought`: the first line up to whose end `text` is a document with this entry or key.
-- Only lines that end before the byte at index `end` are tried.
abbrev pub line_before : List ℕ → ℕ → Sought → Option ℕ
line_before text end sought = option_map (line_at text) (find (has_value_at text sought) (range_with_len 0 end))

-- Whether the text has more than 65,536 bytes, or more than 2,048 line ends. In such a text, faults get no line
-- numbers.
abbrev pub is_too_long : List ℕ → Bool
is_too_long text = nat_lt 65536 (length text) || nat_lt 2048 (count_by (λ byte. byte == 10) text)

-- The line of the entry or key `sought`: the first line up to whose end `text` is a document with this entry or key.
-- `None` if there is no such line, or `text` is too long.
abbrev pub line_number : List ℕ → Sought → Option ℕ
line_number text sought = if is_too_long text then None else line_before text (length text) sought

-- What to look for if a key is missing:
-- - in an entry: the entry itself
-- - in the document, if the key is `day`: any key of the document
-- - in the document, if the key isn't `day`: nothing (`None`)
abbrev pub sought_without : Option ℕ → Key → Option Sought
sought_without (Some entry) key = Some (soughts.Entry entry)
sought_without None keys.Day = Some soughts.AnyKey
sought_without None key = None

-- what to look for to find the line of a fault: an entry or a key
abbrev pub sought_for : KeyPlace → SheetFault → Option Sought
sought_for place (Missing key) = sought_without place.entry key
sought_for place fault = Some (soughts.Key place.entry place.key)

-- the number of a fault's line in the file; `None` if it can't be found
unfoldable pub line_of_fault : List ℕ → KeyPlace → SheetFault → Option ℕ
line_of_fault text place fault = option_and_then (line_number text) (sought_for place fault)

-- ---- Lines that are found one after another. No public contract cites these definitions.

-- the line of a finding; a finding is a fault and its place
abbrev pub line_of : List ℕ → Finding → Option ℕ
line_of text finding = line_of_fault text finding.place finding.fault

-- the line of `finding`; `None` if this line doesn't end before the byte at index `end`
unfoldable pub line_so_far : List ℕ → ℕ → Finding → Option ℕ
line_so_far text end finding = option_and_then (line_before text end) (sought_for finding.place finding.fault)

-- If the first argument is a number, this number. Otherwise the second argument, `later`.
abbrev pub or_line : Option ℕ → Option ℕ → Option ℕ
or_line (Some line) later = Some line
or_line None later = later

-- `line` if the document has the entry or key that shows the line of `finding`; otherwise `None`
unfoldable pub line_in : Members → ℕ → Finding → Option ℕ
line_in document line finding =
    option_and_then (λ sought. if has_value sought document then Some line else None)
    (sought_for finding.place finding.fault)

-- `line` if the text is a document with the entry or key that shows the line of `finding`; otherwise `None`
abbrev pub line_in_text : List ℕ → ℕ → Finding → Option ℕ
line_in_text text line finding =
    option_and_then (λ document. line_in document line finding) (result_ok (document_of text))
