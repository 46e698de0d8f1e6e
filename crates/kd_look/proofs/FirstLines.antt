-- The first line of an order that `send` takes, and of a form that `receive` takes.
use Rattle.std.proofs.Common.{◌≡◌, ◌≢◌, ◌∙◌, ℕ, ◌<◌, List, [], ◌∷◌, ◌++◌, Ok, ap, append_assoc, arith}
use Rattle.std.proofs.Common.{codes, drop, inl, inr, length, refl, subst}
use Rattle.kd_tables.specs.LineWords.{line_of}
use Rattle.kd_tables.specs.Text.{letters_text}
use Rattle.kd_state.specs.AnswerRules.{GoesOn, HasFault}
use Rattle.kd_state.specs.SheetDay.{Day, Pin, Rotor}
use Rattle.kd_form.specs.declared.heading.{Heading.Heading}
use Rattle.kd_form.specs.declared.keys.Keys.{Keys}
use Rattle.kd_form.specs.declared.keys.Keys.TheVariants as kinds
use Rattle.kd_form.specs.declared.keys.RotorKeys.{RotorKeys}
use Rattle.kd_form.specs.FormParts.{cut_at_headings}
use Rattle.kd_form.specs.FormText.{IsTextOf}
use Rattle.kd_form.specs.Keys.{AreKeys, key_words}
use Rattle.kd_form.specs.Order.{BeginsWithKeys, IsLineWithEnd, IsOrder}
use Rattle.kd_form.specs.PartMaking.{part_size}
use Rattle.kd_form.specs.PartReading.{HasHeading, IsContentAnswer, IsPartAnswer, PartContent, PartStart, ReadPart}
use Rattle.kd_form.specs.Sending.{IsFormOf, IsHeadAnswer, IsMadeAnswer, IsReadAnswer, OrderParts, text_letters}
use Rattle.kd_form.proofs.MadeParts.{more_pieces}
use Rattle.kd_look.proofs.PartsCut.{cut_of, first_end, to_text}

-- -------- orders

-- The order begins with the text of a line of keys for the day. `rest` follows it.
pub record IsFirstKeyLine (s : Day) (order : List ℕ) : Type 0 where
  pub keys : Keys
  pub rest : List ℕ
  pub are : AreKeys s keys
  pub joined : order ≡ line_of (key_words keys) ++ rest

-- the words of a line of keys after its first word of letters
abbrev pub other_words : RotorKeys → List ℕ
other_words k = line_of (letters_text k.message_key ∷ letters_text k.fillers ∷ letters_text k.group ∷ [])

-- the bytes of a line of keys, word by word
pub rotor_line : (k : RotorKeys) (rest : List ℕ) → line_of (key_words (kinds.Rotor k)) ++ rest
    ≡ codes "PART " ++ (letters_text k.ground_setting ++ 32 ∷ (other_words k ++ rest))
rotor_line k rest = ap (λ l. codes "PART " ++ l) (append_assoc (letters_text k.ground_setting) (32 ∷ other_words k) rest)

head_order : (s : Day) (order : List ℕ) (parts : OrderParts) → IsHeadAnswer s order (Ok parts)
    → IsOrder s order parts.keys parts.head parts.text
head_order s order parts (HasFault fault found is) = absurd (cc)
head_order s order parts (GoesOn other is (HasFault fault found same)) = absurd (cc)
head_order s order parts (GoesOn other is (GoesOn done suited same)) =
    let equal : other ≡ parts = cc in
    subst (λ (p : OrderParts). IsOrder s order p.keys p.head p.text) equal is

read_order : (s : Day) (order : List ℕ) (parts : OrderParts) → IsReadAnswer s order (Ok parts)
    → IsOrder s order parts.keys parts.head parts.text
read_order s order parts (HasFault fault found is) = absurd (cc)
read_order s order parts (GoesOn other is (HasFault fault found same)) = absurd (cc)
read_order s order parts (GoesOn other is (GoesOn done allowed same)) =
    let equal : other ≡ parts = cc in
    subst (λ (p : OrderParts). IsOrder s order p.keys p.head p.text) equal (head_order s order other is)

some_size : (s : Day) → 0 < part_size s
some_size (Rotor day) = omega arith
some_size (Pin day) = omega arith

some_letters : (letters : List ℕ) → letters ≢ [] → 0 < length letters
some_letters [] some = absurd (some refl)
some_letters (letter ∷ letters) some = omega arith

-- an order that `send` takes has keys
some_keys : (s : Day) (keys : List Keys) (letters form : List ℕ) → IsMadeAnswer s keys letters (Ok form)
    → 0 < length keys
some_keys s keys letters form (HasFault fault found is) = absurd (cc)
some_keys s keys letters form (GoesOn done some (HasFault fault found is)) = absurd (cc)
some_keys s keys letters form (GoesOn done some (GoesOn counted needed made)) =
    let pieces = more_pieces (part_size s) (length letters) (some_size s) (some_letters letters some) in
    omega (arith, needed, pieces)

keyed_text : (text line rest last : List ℕ) → IsLineWithEnd text line
    → (more : List ℕ) × ((line ++ rest) ++ last ≡ text ++ more)
keyed_text text line rest last (inl ended) = (
  10 ∷ (rest ++ last),
  append_assoc line rest last ∙ ap (λ l. l ++ (rest ++ last)) ended ∙ append_assoc text (10 ∷ []) (rest ++ last),
)
keyed_text text line rest last (inr ended) = (
  13 ∷ 10 ∷ (rest ++ last),
  append_assoc line rest last ∙ ap (λ l. l ++ (rest ++ last)) ended
      ∙ append_assoc text (13 ∷ 10 ∷ []) (rest ++ last),
)

first_keyed : (s : Day) (order head text : List ℕ) (keys : List Keys) → order ≡ head ++ text
    → BeginsWithKeys s keys (IsLineWithEnd (codes "TEXT")) head → 0 < length keys → IsFirstKeyLine s order
first_keyed s order head text [] joined lines some = absurd (omega (arith, some))
first_keyed s order head text (k ∷ keys) joined (line, rest, are, keyed, more, front) some =
    let (after, same) = keyed_text (line_of (key_words k)) line rest text keyed in
    record { keys = k; rest = after; are = are; joined = joined ∙ ap (λ l. l ++ text) front ∙ same }

pub order_keyed : (s : Day) (order form : List ℕ) → IsFormOf s order form → IsFirstKeyLine s order
order_keyed s order form (HasFault fault found is) = absurd (cc)
order_keyed s order form (GoesOn parts read made) =
    let is = read_order s order parts read in
    first_keyed s order parts.head parts.text parts.keys is.joined is.is_head.lines
    (some_keys s parts.keys (text_letters s parts.text) form made)

-- -------- forms

-- a heading with which the bytes `part` begin
abbrev pub IsHeaded : Day → List ℕ → Type 0
IsHeaded s part = (h : Heading) × (body : List ℕ) × HasHeading s part h body

content_headed : (s : Day) (p : PartStart) (part : List ℕ) (content : PartContent)
    → IsContentAnswer s p part (Ok content) → IsHeaded s part
content_headed s p part content (HasFault fault found is) = absurd (cc)
content_headed s p part content (GoesOn other has next) = (other.heading, other.body, has)

part_headed : (s : Day) (p : PartStart) (part : List ℕ) (read : ReadPart) → IsPartAnswer s p part (Ok read)
    → IsHeaded s part
part_headed s p part read (HasFault fault found is) = absurd (cc)
part_headed s p part read (GoesOn content found next) = content_headed s p part content found

pub form_headed : (s : Day) (form text : List ℕ) → IsTextOf s form text → IsHeaded s form
form_headed s form text (parts, (letters, reads, shown), whole) =
    let cut = cut_of form 0 (omega arith) in
    let first : (cut_at_headings form).0 ≡ cut.part = ap (λ (c : List ℕ × List (List ℕ)). c.0) cut.cut in
    elim reads [
      | inl held ↦ absurd (cc (held.0.2))
      | inr read ↦
          let (h, body, has) = part_headed s _ _ read.0 read.2 in
          let mine : HasHeading s cut.part h body = subst (λ l. HasHeading s l h body) first has in
          (h, body ++ drop (first_end form 0) form, to_text s form 0 h (first_end form 0) cut body mine)
    ]
