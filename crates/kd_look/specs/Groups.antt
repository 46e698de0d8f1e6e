-- The groups of an order or a form. From a part's group, the receiver knows the day that the part is for. Two filler
-- letters stand before the group. In an order, fillers and group end the part's line of keys. In a form, they begin the
-- part's body. Indexes are counted from 0.
-- Test: tests/cases/curator-look.toml
use Rattle.std.specs.Prelude.{ℕ, ◌+◌, ◌-◌, ◌==◌, ◌++◌, nat_eq, decimal, false, List, [], ◌∷◌, drop, length, map, take}
use Rattle.std.specs.Prelude.{Option, Some, None, Result, Ok, Err, if◌then◌else◌}
use Rattle.std.specs.List.{enumerate_from, filter, flat_map, position, range_with_len}
use Rattle.std.specs.Option.{option_map_or, option_to_list}
use Rattle.kd_tables.specs.Text.{is_capital, letters_text}
use Rattle.kd_language.specs.Language.{text_in}
use Rattle.kd_language.specs.declared.language.Language.{Language}
use Rattle.kd_language.specs.Template.{filled}
use Rattle.kd_findings.specs.NotToml.{column_at}
use Rattle.kd_look.specs.Form.{form_answer, heading_follows}
use Rattle.kd_look.specs.Order.{order_start}
use Rattle.kd_look.specs.OrderHead.{key_line_of}
use Rattle.kd_look.specs.MessageWords.{is_form}
use Rattle.kd_look.specs.declared.message.fault.MessageFault.{MessageFault}
use Rattle.kd_look.specs.declared.message.form_heading.FormHeading.{FormHeading}
use Rattle.kd_look.specs.declared.message.order_head.KeyLine.{KeyLine}
use Rattle.kd_look.specs.declared.message.order_head.KeyLine.TheVariants as lines
use Rattle.kd_look.specs.declared.texts.TheConstants.{GROUP}

-- An order or a form without a fault: how its keys are written, and the groups of its parts, in the order of the parts.
pub record KnownMessage : Type 0 where
  pub keys : KeyLine
  pub groups : List (List ℕ)

-- the capital letters of a text, where A is 0; other signs are left out
abbrev pub letters_of : List ℕ → List ℕ
letters_of text = map (λ byte. byte - 65) (filter is_capital text)

-- the letters; `None` if there aren't exactly three
abbrev pub three_letters : List ℕ → Option (List ℕ)
three_letters letters = if length letters == 3 then Some letters else None

-- the group of a text: its letters 3 to 5, after two fillers; `None` if the text has fewer than five letters
abbrev pub group_of : List ℕ → Option (List ℕ)
group_of text = three_letters (take 3 (drop 2 (letters_of text)))

-- the column of the first filler in a line of keys; a Converter's line of keys has no fillers
abbrev pub filler_column : KeyLine → Option ℕ
filler_column lines.ThreeSlots = Some 14
filler_column lines.FourSlots = Some 16
filler_column lines.Converter = None

-- a list with the group after the two fillers that begin at `index`; empty if no fillers begin there
abbrev pub order_group : List ℕ → KeyLine → ℕ → List (List ℕ)
order_group text keys index =
    if option_map_or (nat_eq (column_at text index)) (filler_column keys) false
    then option_to_list (group_of (drop index text)) else []

-- the groups in the lines of keys, which end before `start`
abbrev pub order_groups : List ℕ → KeyLine → ℕ → List (List ℕ)
order_groups text keys start = flat_map (order_group text keys) (range_with_len 0 start)

-- the text after its first line; empty if the text has no line end
abbrev pub after_line : List ℕ → List ℕ
after_line text = option_map_or (λ place. drop (place + 1) text) (position (λ byte. byte == 10) text) []

-- The group of the part whose heading begins at `index`, as a list with one item. The group is in the body: without a
-- fault, a body has at least six letters.
abbrev pub part_group : List ℕ → ℕ → List (List ℕ)
part_group text index = option_to_list (group_of (after_line (drop index text)))

-- the group of the part whose heading follows the line end at `index`; empty if no heading follows
abbrev pub next_group : List ℕ → ℕ → List (List ℕ)
next_group text index = if heading_follows text index then part_group text (index + 1) else []

-- the groups of a form for a rotor machine
abbrev pub rotor_form_groups : List ℕ → List (List ℕ)
rotor_form_groups text = part_group text 0 ++ flat_map (next_group text) (range_with_len 0 (length text))

-- the groups of a form; a Converter's form has no groups
abbrev pub form_groups : List ℕ → KeyLine → List (List ℕ)
form_groups text lines.Converter = []
form_groups text keys = rotor_form_groups text

-- The message in the form `text`, or `None` if the form has a fault. The second argument is the result of reading the
-- form.
abbrev pub form_message : List ℕ → Result FormHeading MessageFault → Option KnownMessage
form_message text (Ok first) = Some (record { keys = first.keys; groups = form_groups text first.keys })
form_message text (Err fault) = None

-- The message in the order `text`, or `None` if the order has a fault. The second argument is the result of reading the
-- order.
abbrev pub order_message : List ℕ → Result ℕ MessageFault → Option KnownMessage
order_message text (Ok start) =
    Some (record { keys = key_line_of text; groups = order_groups text (key_line_of text) start })
order_message text (Err fault) = None

-- the order or the form `text`; `None` if it has a fault
abbrev pub message_of : List ℕ → Option KnownMessage
message_of text = if is_form text then form_message text (form_answer text) else order_message text (order_start text)

-- the line about the group of part `part`
unfoldable pub group_line : Language → ℕ → List ℕ → List ℕ
group_line l part group = filled (text_in l GROUP) (decimal part ∷ letters_text group ∷ [])

-- the lines about several parts' groups; the first group belongs to part `part`, the second to part `part` + 1
abbrev pub numbered_lines : Language → ℕ → List (List ℕ) → List ℕ
numbered_lines l part groups = flat_map (λ numbered. group_line l numbered.0 numbered.1) (enumerate_from part groups)

-- the lines about the groups of a message; empty if the message has a fault
abbrev pub group_lines : Language → Option KnownMessage → List ℕ
group_lines l message = option_map_or (λ known. numbered_lines l 1 known.groups) message []
