-- How an order becomes a form, or is refused for its first fault. Parts and bytes are counted from 1.
use Rattle.std.specs.Prelude.{◌≡◌, ◌≢◌, ℕ, ◌+◌, ◌-◌, ◌≤◌, ◌==◌, List, [], ◌∷◌, ◌++◌, length, filter_map, Ok, Err}
use Rattle.std.specs.Prelude.{IsTrue, Option, Some, None, if◌then◌else◌}
use Rattle.std.specs.Int.{div_ceil}
use Rattle.kd_tables.specs.Text.{is_capital, is_text_byte}
use Rattle.kd_state.specs.AnswerRules.{AnswerRule, ◌>>=◌, Yields, Demands, FindsAlways}
use Rattle.kd_state.specs.SheetDay.{Day, Rotor, Pin}
use Rattle.kd_form.specs.declared.fault.FormFault.{FormFault}
use Rattle.kd_form.specs.declared.fault.FormFault.TheVariants.{BadByte, EmptyText, PartKeys}
use Rattle.kd_form.specs.declared.keys.Keys.{Keys}
use Rattle.kd_form.specs.InTurn.{InTurn}
use Rattle.kd_form.specs.Part.{pieces}
use Rattle.kd_form.specs.PartMaking.{IsKeysAnswer, IsPartTextMade, part_size}
use Rattle.kd_form.specs.Order.{IsOrder, IsOrderHeadFault}

-- ---- The letters that an order's text gives, and how many parts they need.
-- Test: tests/cases/desk-messages.toml

-- the letter that is sent for a space: Z on the Converter M-209, no letter on a rotor machine
abbrev pub space_letter : Day → Option ℕ
space_letter (Rotor s) = None
space_letter (Pin s) = Some 25

-- the letter that a byte gives: a capital letter gives itself, a space gives `for_space`, and other bytes give no
-- letter
abbrev pub letter_of_byte : Option ℕ → ℕ → Option ℕ
letter_of_byte for_space byte = if is_capital byte then Some (byte - 65) else if byte == 32 then for_space else None

-- the letters that the bytes of `text` give, by the rule `letter_of_byte`
abbrev pub letters_from : Option ℕ → List ℕ → List ℕ
letters_from for_space text = filter_map (letter_of_byte for_space) text

-- the letters of an order's text
abbrev pub text_letters : Day → List ℕ → List ℕ
text_letters s text = letters_from (space_letter s) text

-- The result of testing whether the byte at `position` is allowed in a text.
abbrev pub IsByteAnswer : ℕ → ℕ → AnswerRule FormFault (Unit {0})
IsByteAnswer position byte = Demands (IsTrue (is_text_byte byte)) (BadByte position)

-- The result of testing whether each byte of `text` is allowed in a text. `position` is the position of the first byte
-- of `text`.
abbrev pub IsBytesAnswer : ℕ → List ℕ → AnswerRule FormFault (Unit {0})
IsBytesAnswer position text = InTurn IsByteAnswer position text

-- the number of parts for a text of `letters` letters
abbrev pub parts_needed : Day → ℕ → ℕ
parts_needed s letters = div_ceil letters (part_size s)

-- ---- The form that a text becomes.
-- Test: long_texts_are_sent_and_received

-- `bytes` are successive parts of a form that has `parts` parts, from part number `part` on. Each part is made from its
-- own piece of the text, with its own keys.
abbrev pub ArePartTextsMade : Day → ℕ → ℕ → List Keys → List (List ℕ) → List ℕ → Type 0
ArePartTextsMade s part parts [] [] bytes = bytes ≡ []
ArePartTextsMade s part parts (k ∷ keys) (piece ∷ pieces) bytes =
    (one more : List ℕ) × IsPartTextMade s part parts k piece one × ArePartTextsMade s (part + 1) parts keys pieces more
    × (bytes ≡ one ++ more)
ArePartTextsMade s part parts [] (piece ∷ pieces) bytes = ⊥
ArePartTextsMade s part parts (k ∷ keys) [] bytes = ⊥

-- The result of making a form from an order's keys and its text's letters: the form, or a fault. The text must have at
-- least one letter, and must need as many parts as there are lines of keys. In the form, all parts but the last are
-- full.
abbrev pub IsMadeAnswer : Day → List Keys → List ℕ → AnswerRule FormFault (List ℕ)
IsMadeAnswer s keys letters = do
  _ ← Demands (letters ≢ []) EmptyText
  _ ← Demands (parts_needed s (length letters) ≡ length keys) (PartKeys (parts_needed s (length letters)) (length keys))
  FindsAlways (ArePartTextsMade s 1 (length keys) keys (pieces (part_size s) letters))

-- ---- The result of reading an order: its form, or its first fault.
-- Test: tests/cases/desk-messages.toml

-- An order cut in two: its head and its text. The head has a line for each of `keys`.
pub record OrderParts : Type 0 where
  pub keys : List Keys
  pub head : List ℕ
  pub text : List ℕ

-- The result of cutting an order into head and text. If the head isn't complete, the fault is `BadByte`;
-- `IsOrderHeadFault` defines the fault's position.
abbrev pub IsDividedAnswer : Day → List ℕ → AnswerRule FormFault OrderParts
IsDividedAnswer s order (Ok parts) = IsOrder s order parts.keys parts.head parts.text
IsDividedAnswer s order (Err fault) = (position : ℕ) × IsOrderHeadFault s order position × (fault ≡ BadByte position)

-- The result of reading an order up to its text. The order must have a complete head, and each part's keys must suit
-- the day.
abbrev pub IsHeadAnswer : Day → List ℕ → AnswerRule FormFault OrderParts
IsHeadAnswer s order = do
  parts ← IsDividedAnswer s order
  _ ← InTurn (IsKeysAnswer s) 1 parts.keys
  Yields parts

-- The result of reading the bytes of an order. The head must be right, as in `IsHeadAnswer`. Each byte of the text must
-- be a capital letter, a space, CR or LF.
abbrev pub IsReadAnswer : Day → List ℕ → AnswerRule FormFault OrderParts
IsReadAnswer s order = do
  parts ← IsHeadAnswer s order
  _ ← IsBytesAnswer (length parts.head + 1) parts.text
  Yields parts

-- The result of enciphering a whole order: its form, or its first fault.
abbrev pub IsOrderAnswer : Day → List ℕ → AnswerRule FormFault (List ℕ)
IsOrderAnswer s order = do
  parts ← IsReadAnswer s order
  IsMadeAnswer s parts.keys (text_letters s parts.text)

-- `form` is the form of the order `order`.
abbrev pub IsFormOf : Day → List ℕ → List ℕ → Type 0
IsFormOf s order form = IsOrderAnswer s order (Ok form)

-- `fault` is the order's first fault.
abbrev pub IsSendFault : Day → List ℕ → FormFault → Type 0
IsSendFault s order fault = IsOrderAnswer s order (Err fault)

-- The order has `fault`, which is found while the order's bytes are read. So no further bytes can change the fault. If
-- `fault` is `BadByte`, it names a byte that the order has, not a byte that is missing at its end.
pub record IsOrderFaultForGood (s : Day) (order : List ℕ) (fault : FormFault) : Type 0 where
  pub found : IsReadAnswer s order (Err fault)
  pub inside : (position : ℕ) → fault ≡ BadByte position → position ≤ length order
