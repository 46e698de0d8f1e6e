-- The groups in an order's lines of keys: `look` finds each of them, and no others.
use Rattle.std.proofs.Common.{◌≡◌, ◌≢◌, ◌∙◌, ℕ, zero, suc, ◌+◌, ◌<◌, ◌≤◌, ◌==◌, ◌⊎◌, ◌&&◌, Bool, true, false, All}
use Rattle.std.proofs.Common.{List, [], ◌∷◌, ◌++◌, Option, Some, None, Result, Ok, Err, ap, arith, codes, cond, drop}
use Rattle.std.proofs.Common.{get_or, inl, inr, length, refl, subst, sym, take, nat_le, nat_eq, append_assoc}
use Rattle.std.proofs.Common.{length-append}
use Rattle.std.proofs.lemmas.Bool.{Decides.nat_tests, cases_Bool, cases_lt, eq-eqb}
use Rattle.std.proofs.lemmas.List.{append-nil, length-take-le, drop_at, length-map, take_at}
use Rattle.std.proofs.lemmas.List.Elements.{All-append, All-cons, All-head, All-map, All-tail}
use Rattle.std.specs.List.{flat_map, range_with_len}
use Rattle.std.specs.Option.{option_map_or}
use Rattle.kd_tables.specs.Text.{is_capital, is_text_byte, letters_text}
use Rattle.kd_state.specs.Machine.{AreLetters}
use Rattle.kd_state.specs.SheetDay.{Day, PinDay, RotorDay, Rotor, Pin}
use Rattle.kd_state.proofs.OneAnswer.{ThenNext-Ok}
use Rattle.kd_form.specs.declared.keys.Keys.{Keys}
use Rattle.kd_form.specs.declared.keys.Keys.TheVariants.{Rotor, Pin}
use Rattle.kd_form.specs.declared.keys.RotorKeys.{RotorKeys}
use Rattle.kd_form.specs.Keys.{AreRotorKeys}
use Rattle.kd_form.specs.Order.{BeginsWithKeys, IsLineWithEnd}
use Rattle.kd_form.specs.Sending.{IsBytesAnswer}
use Rattle.kd_form.proofs.OneOrder.{one_order}
use Rattle.kd_findings.specs.NotToml.{column_at}
use Rattle.kd_sheet.specs.Document.{◌>>◌}
use Rattle.kd_look.specs.Groups.{filler_column, form_message, group_of, letters_of, order_group}
use Rattle.kd_look.specs.Groups.{order_groups, order_message, three_letters}
use Rattle.kd_look.specs.Form.{form_answer}
use Rattle.kd_look.specs.Laws.{HasHeadTo, HasKeyLineForm, OrderGroupsAreThoseOfKeys, group_of_keys}
use Rattle.kd_look.specs.MessageWords.{is_form}
use Rattle.kd_look.specs.Order.{order_answer, order_start, parts_answer, signs_answer, text_start, wheels_answer}
use Rattle.kd_look.specs.OrderHead.{key_line_of}
use Rattle.kd_look.specs.Signs.{wrong_sign}
use Rattle.kd_look.specs.declared.message.fault.MessageFault.{MessageFault}
use Rattle.kd_look.specs.declared.message.order_head.KeyLine.{KeyLine}
use Rattle.kd_look.specs.declared.message.order_head.KeyLine.TheVariants as lines
use Rattle.kd_look.proofs.Groups.{letters_of-append, letters_of-one}
use Rattle.kd_look.proofs.Heads.{head_ends_agree}
use Rattle.kd_look.proofs.HeadingsRead.{with_ok}
use Rattle.kd_look.proofs.Marks.{drop_past}
use Rattle.kd_look.proofs.Orders.{AreSignsTested, signs_agree}
use Rattle.kd_look.proofs.Wheels.{IsLineFrom, IsOrdinary, column_of, line_from, next_first, next_joined, ordinary_codes}
use Rattle.kd_look.proofs.Wheels.{pin_text, with_tail}

-- -------- lists that are made from numbers, one after another

pub flat_none : {A : Type 0} (f : ℕ → List A) (first count : ℕ) → ((i : ℕ) → i < count → f (first + i) ≡ [])
    → flat_map f (range_with_len first count) ≡ []
flat_none f first zero none = refl
flat_none f first (suc count) none =
    let place : first + 0 ≡ first = omega arith in
    let here : f first ≡ [] = rw place at (none 0 (omega arith)) in
    ap (λ l. l ++ flat_map f (range_with_len (first + 1) count)) here
    ∙ flat_none f (first + 1) count (λ i less.
    let next : first + (i + 1) ≡ first + 1 + i = omega arith in rw next at (none (i + 1) (omega (arith, less))))

-- only one number gives anything
flat_one : {A : Type 0} (f : ℕ → List A) (first count place : ℕ) (found : List A) → place < count
    → f (first + place) ≡ found → ((i : ℕ) → i < count → i ≢ place → f (first + i) ≡ [])
    → flat_map f (range_with_len first count) ≡ found
flat_one f first zero place found less here none = absurd (omega (arith, less))
flat_one f first (suc count) zero found less here none =
    let same : first + 0 ≡ first = omega arith in
    let own : f first ≡ found = rw same at here in
    let others : flat_map f (range_with_len (first + 1) count) ≡ [] =
    flat_none f (first + 1) count (λ i less.
    let next : first + (i + 1) ≡ first + 1 + i = omega arith in
    rw next at (none (i + 1) (omega (arith, less)) (λ equal. omega (arith, equal)))) in
    ap (λ l. l ++ flat_map f (range_with_len (first + 1) count)) own ∙ ap (λ l. found ++ l) others ∙ append-nil found
flat_one f first (suc count) (suc place) found less here none =
    let same : first + 0 ≡ first = omega arith in
    let own : f first ≡ [] = rw same at (none 0 (omega arith) (λ equal. omega (arith, equal))) in
    let further : first + suc place ≡ first + 1 + place = omega arith in
    ap (λ l. l ++ flat_map f (range_with_len (first + 1) count)) own
    ∙ flat_one f (first + 1) count place found (omega (arith, less)) (rw further at here) (λ i less other.
    let next : first + (i + 1) ≡ first + 1 + i = omega arith in
    rw next at (none (i + 1) (omega (arith, less)) (λ equal. other (omega (arith, equal)))))

pub flat_parts : {A : Type 0} (f : ℕ → List A) (first count more : ℕ)
    → flat_map f (range_with_len first (count + more))
    ≡ flat_map f (range_with_len first count) ++ flat_map f (range_with_len (first + count) more)
flat_parts f first zero more =
    let same : first + 0 ≡ first = omega arith in
    let number : 0 + more ≡ more = omega arith in
    rw (same, number) refl
flat_parts f first (suc count) more =
    let number : suc count + more ≡ suc (count + more) = omega arith in
    let place : first + suc count ≡ first + 1 + count = omega arith in
    rw (number, place) (ap (λ l. f first ++ l) (flat_parts f (first + 1) count more)
    ∙ sym (append_assoc (f first) (flat_map f (range_with_len (first + 1) count))
    (flat_map f (range_with_len (first + 1 + count) more))))

-- -------- the group in a line of keys

letters_back : (letters more : List ℕ) → All (λ l. l < 26) letters
    → letters_of (letters_text letters ++ more) ≡ letters ++ letters_of more
letters_back [] more small = refl
letters_back (letter ∷ letters) more small =
    let first : letter < 26 = All-head (λ l. l < 26) letter letters small in
    letters_of-append ((letter + 65) ∷ []) (letters_text letters ++ more)
    ∙ ap (λ l. l ++ letters_of (letters_text letters ++ more))
    (letters_of-one (letter + 65) letter refl (omega (arith, first)))
    ∙ ap (λ l. letter ∷ l) (letters_back letters more (All-tail (λ l. l < 26) letter letters small))

pub three_are : (group : List ℕ) → length group ≡ 3 → three_letters group ≡ Some group
three_are group size = let same : (length group == 3) ≡ true = eq-eqb (length group) 3 size in rw same refl

group_found : (fillers group more : List ℕ) → AreLetters 2 fillers → AreLetters 3 group
    → group_of (letters_text fillers ++ 32 ∷ (letters_text group ++ more)) ≡ Some group
group_found fillers group more two three =
    let all : letters_of (letters_text fillers ++ 32 ∷ (letters_text group ++ more))
    ≡ fillers ++ (group ++ letters_of more) =
    letters_back fillers (32 ∷ (letters_text group ++ more)) two.within
    ∙ ap (λ l. fillers ++ l) (letters_back group more three.within) in
    ap (λ l. three_letters (take 3 (drop 2 l))) all
    ∙ ap (λ l. three_letters (take 3 l)) (drop_at fillers (group ++ letters_of more) 2 two.count)
    ∙ ap three_letters (take_at group (letters_of more) 3 three.count) ∙ three_are group three.count

-- the line with the keys `k` up to the fillers
abbrev rotor_front : RotorKeys → List ℕ
rotor_front k =
    codes "PART " ++ (letters_text k.ground_setting ++ 32 ∷ (letters_text k.message_key ++ 32 ∷ []))

-- the line with the keys `k`, without its end
abbrev rotor_text : RotorKeys → List ℕ
rotor_text k =
    codes "PART " ++ (letters_text k.ground_setting ++ 32 ∷ (letters_text k.message_key
    ++ 32 ∷ (letters_text k.fillers ++ 32 ∷ letters_text k.group)))

ordinary_letters : (letters : List ℕ) → All (λ l. l < 26) letters → All IsOrdinary (letters_text letters)
ordinary_letters letters small = All-map IsOrdinary (λ l. l + 65) letters
    (λ i d inside. let less = small i d inside in grind (arith, less))

ordinary_word : (letters rest : List ℕ) → All (λ l. l < 26) letters → All IsOrdinary rest
    → All IsOrdinary (letters_text letters ++ 32 ∷ rest)
ordinary_word letters rest small others = All-append IsOrdinary (letters_text letters) (32 ∷ rest)
    (ordinary_letters letters small) (All-cons IsOrdinary 32 rest (grind arith) others)

ordinary_rotor : (slots : ℕ) (k : RotorKeys) → AreRotorKeys slots k → All IsOrdinary (rotor_text k)
ordinary_rotor slots k are = All-append IsOrdinary (codes "PART ") _ (ordinary_codes (codes "PART ") refl)
    (ordinary_word k.ground_setting _ are.ground_setting.within
    (ordinary_word k.message_key _ are.message_key.within
    (ordinary_word k.fillers _ are.fillers.within (ordinary_letters k.group are.group.within))))

front_size : (slots : ℕ) (k : RotorKeys) → AreRotorKeys slots k → length (rotor_front k) ≡ slots + slots + 7
front_size slots k are =
    omega (
      arith,
      length-append (letters_text k.ground_setting) (32 ∷ (letters_text k.message_key ++ 32 ∷ [])),
      length-append (letters_text k.message_key) (32 ∷ []),
      length-map k.ground_setting (λ l. l + 65),
      length-map k.message_key (λ l. l + 65),
      are.ground_setting.count,
      are.message_key.count,
    )

module _ (order : List ℕ) (form : KeyLine) (column index : ℕ) (filler : filler_column form ≡ Some column) where
  group_here : (group : List ℕ) → column_at order index ≡ column → group_of (drop index order) ≡ Some group
      → order_group order form index ≡ group ∷ []
  group_here group at found =
      let same : nat_eq (column_at order index) column ≡ true = grind (arith, nat_tests, at) in
      rw (filler, same, found) refl

  none_here : column_at order index ≢ column → order_group order form index ≡ []
  none_here other =
      let differ : nat_eq (column_at order index) column ≡ false = grind (arith, nat_tests, other) in
      rw (filler, differ) refl

-- -------- a whole head

module _ (s : RotorDay) (order text : List ℕ) (form : KeyLine)
    (filler : filler_column form ≡ Some (length s.wheels + length s.wheels + 8)) (some : 3 ≤ length s.wheels) where
  abbrev found_at : ℕ → List (List ℕ)
  found_at index = order_group order form index

  line_group : (k : RotorKeys) (line rest : List ℕ) (start : ℕ) → AreRotorKeys (length s.wheels) k
      → IsLineWithEnd (rotor_text k) line → IsLineFrom order start line rest
      → flat_map found_at (range_with_len start (length line)) ≡ k.group ∷ []
  line_group k line rest start are ended is =
      let size = front_size (length s.wheels) k are in
      let (tail, whole) = with_tail (rotor_text k) line ended in
      let split : line ++ rest
      ≡ rotor_front k ++ (letters_text k.fillers ++ 32 ∷ (letters_text k.group ++ (tail ++ rest))) =
      ap (λ l. l ++ rest) whole ∙ simp append_assoc in
      let after = drop_past order (rotor_front k)
      (letters_text k.fillers ++ 32 ∷ (letters_text k.group ++ (tail ++ rest))) start (is.joined ∙ split) in
      let long : length line + length rest ≡ length (rotor_front k)
      + length (letters_text k.fillers ++ 32 ∷ (letters_text k.group ++ (tail ++ rest))) =
      sym (length-append line rest) ∙ ap length split
      ∙ length-append (rotor_front k) (letters_text k.fillers ++ 32 ∷ (letters_text k.group ++ (tail ++ rest))) in
      let more : length (letters_text k.fillers ++ 32 ∷ (letters_text k.group ++ (tail ++ rest)))
      ≡ length (letters_text k.fillers) + (1 + (length (letters_text k.group) + (length tail + length rest))) =
      grind (arith, length-append) in
      let inside : length (rotor_front k) < length line = omega (arith, long, more) in
      flat_one found_at start (length line) (length (rotor_front k)) (k.group ∷ []) inside
      (group_here order form _ (start + length (rotor_front k)) filler k.group
      (column_of is (length (rotor_front k)) inside ∙ omega (arith, size))
      (ap group_of after ∙ group_found k.fillers k.group (tail ++ rest) are.fillers are.group))
      (λ i less other. none_here order form _ (start + i) filler
      (λ same. other (omega (arith, size, column_of is i less, same))))

  head_groups : (keys : List Keys) (bytes : List ℕ) (start : ℕ)
      → BeginsWithKeys (Rotor s) keys (IsLineWithEnd (codes "TEXT")) bytes → column_at order start ≡ 1
      → drop start order ≡ bytes ++ text
      → flat_map found_at (range_with_len start (length bytes)) ≡ flat_map group_of_keys keys
  head_groups [] bytes start ended first joined =
      let is : IsLineFrom order start bytes text = line_from (codes "TEXT")
      (ordinary_codes (codes "TEXT") refl) ended first joined in
      let (tail, whole) = with_tail (codes "TEXT") bytes ended in
      let short : length bytes ≤ 6 = grind arith in
      flat_none found_at start (length bytes) (λ i less. none_here order form _ (start + i) filler
      (λ same. omega (arith, some, short, less, column_of is i less, same)))
  head_groups (Pin k ∷ keys) bytes start (line, rest, are, keyed, more, whole) first joined = absurd are
  head_groups (Rotor k ∷ keys) bytes start (line, rest, are, keyed, more, whole) first joined =
      let next : drop start order ≡ line ++ (rest ++ text) =
      joined ∙ ap (λ l. l ++ text) whole ∙ append_assoc line rest text in
      let is : IsLineFrom order start line (rest ++ text) = line_from (rotor_text k)
      (ordinary_rotor (length s.wheels) k are) keyed first next in
      let long : length bytes ≡ length line + length rest = ap length whole ∙ length-append line rest in
      ap (λ n. flat_map found_at (range_with_len start n)) long
      ∙ flat_parts found_at start (length line) (length rest)
      ∙ ap (λ l. l ++ flat_map found_at (range_with_len (start + length line) (length rest)))
      (line_group k line (rest ++ text) start are keyed is)
      ∙ ap (λ l. k.group ∷ l) (head_groups keys rest (start + length line) more (next_first is) (next_joined is))

filler_is : (s : RotorDay) (form : KeyLine) → HasKeyLineForm (Rotor s) form
    → (filler_column form ≡ Some (length s.wheels + length s.wheels + 8)) × (3 ≤ length s.wheels)
filler_is s lines.ThreeSlots slots = (rw slots refl, omega (arith, slots))
filler_is s lines.FourSlots slots = (rw slots refl, omega (arith, slots))
filler_is s lines.Converter none = absurd none

-- a Converter's keys have no group
no_groups : (s : PinDay) (keys : List Keys) (P : List ℕ → Type 0) (bytes : List ℕ)
    → BeginsWithKeys (Pin s) keys P bytes → flat_map group_of_keys keys ≡ []
no_groups s [] P bytes lines = refl
no_groups s (Rotor k ∷ keys) P bytes (line, rest, are, keyed, more, whole) = absurd are
no_groups s (Pin k ∷ keys) P bytes (line, rest, are, keyed, more, whole) = no_groups s keys P rest more

groups_agree : (s : Day) (form : KeyLine) (order text head : List ℕ) (keys : List Keys) → HasKeyLineForm s form
    → BeginsWithKeys s keys (IsLineWithEnd (codes "TEXT")) head → order ≡ head ++ text
    → order_groups order form (length head) ≡ flat_map group_of_keys keys
groups_agree (Rotor s) form order text head keys same lines joined =
    let (filler, some) = filler_is s form same in
    head_groups s order text form filler some keys head 0 lines refl joined
groups_agree (Pin s) lines.Converter order text head keys same all joined =
    flat_none (order_group order lines.Converter) 0 (length head) (λ i less. refl)
    ∙ sym (no_groups s keys (IsLineWithEnd (codes "TEXT")) head all)
groups_agree (Pin s) lines.ThreeSlots order text head keys same all joined = absurd same
groups_agree (Pin s) lines.FourSlots order text head keys same all joined = absurd same

-- -------- an order without a fault is no form

abbrev is_digit : ℕ → Bool
is_digit byte = nat_le 48 byte && nat_le byte 57

no_digit : (byte : ℕ) → ((byte < 48) ⊎ (57 < byte)) → is_digit byte ≡ false
no_digit byte (inl low) = grind (arith, nat_tests)
no_digit byte (inr high) = grind (arith, nat_tests, cases_Bool (nat_le 48 byte))

text_no_digit : (byte : ℕ) → is_text_byte byte ≡ true → is_digit byte ≡ false
text_no_digit byte is = elim (cases_lt byte 48) [
  | inl low ↦ no_digit byte (inl low)
  | inr high ↦
      let space : (byte == 32) ≡ false = grind (arith, nat_tests) in
      let return : (byte == 13) ≡ false = grind (arith, nat_tests) in
      let feed : (byte == 10) ≡ false = grind (arith, nat_tests) in
      let capital : is_capital byte ≡ true = grind (arith, cases_Bool (is_capital byte)) in
      let low : 65 ≤ byte = grind (arith, nat_tests, cases_Bool (nat_le 65 byte)) in
      no_digit byte (inr (omega (arith, low)))
]

first_sign : (position : ℕ) (text : List ℕ) → IsBytesAnswer position text (Ok tt) → is_digit (get_or text 0 0) ≡ false
first_sign position [] allowed = refl
first_sign position (byte ∷ text) allowed = text_no_digit byte (ThenNext-Ok allowed).says

first_letter : (letters one two three four : List ℕ) → 0 < length letters
    → is_digit (get_or ((((letters_text letters ++ one) ++ two) ++ three) ++ four) 0 0) ≡ false
first_letter [] one two three four some = absurd (omega (arith, some))
first_letter (letter ∷ letters) one two three four some = no_digit (letter + 65) (inr (omega arith))

no_form : (s : Day) (form : KeyLine) (keys : List Keys) (order head text : List ℕ) (position : ℕ)
    → HasKeyLineForm s form → order ≡ head ++ text
    → BeginsWithKeys s keys (IsLineWithEnd (codes "TEXT")) head → IsBytesAnswer position text (Ok tt)
    → is_form order ≡ false
no_form s form [] order head text position same joined (inl ended) allowed =
    let whole : order ≡ codes "TEXT\n" ++ text = joined ∙ ap (λ l. l ++ text) ended in
    ap (λ l. is_digit (get_or l 5 0)) whole ∙ first_sign position text allowed
no_form s form [] order head text position same joined (inr ended) allowed =
    let whole : order ≡ codes "TEXT\r\n" ++ text = joined ∙ ap (λ l. l ++ text) ended in
    ap (λ l. is_digit (get_or l 5 0)) whole
no_form (Pin s) form (Rotor k ∷ keys) order head text position same joined (line, rest, are, keyed, more, whole)
    allowed = absurd are
no_form (Rotor s) form (Pin k ∷ keys) order head text position same joined (line, rest, are, keyed, more, whole)
    allowed = absurd are
no_form (Pin s) form (Pin k ∷ keys) order head text position same joined (line, rest, are, keyed, more, whole)
    allowed =
    let (tail, begins) = with_tail (pin_text k) line keyed in
    let all : order ≡ ((pin_text k ++ tail) ++ rest) ++ text =
    joined ∙ ap (λ l. l ++ text) (whole ∙ ap (λ l. l ++ rest) begins) in
    ap (λ l. is_digit (get_or l 5 0)) all ∙ no_digit (k.chosen + 65) (inr (omega arith))
no_form (Rotor s) form (Rotor k ∷ keys) order head text position same joined (line, rest, are, keyed, more, whole)
    allowed =
    let (tail, begins) = with_tail (rotor_text k) line keyed in
    let (filler, some) = filler_is s form same in
    let all : order ≡ ((rotor_text k ++ tail) ++ rest) ++ text =
    joined ∙ ap (λ l. l ++ text) (whole ∙ ap (λ l. l ++ rest) begins) in
    ap (λ l. is_digit (get_or l 5 0)) all
    ∙ first_letter k.ground_setting _ tail rest text (omega (arith, some, are.ground_setting.count))

-- -------- the law

pub with_then : {B F P : Type 0} (first : Result (Unit {0}) F) (next : Result B F) {y : B} → (first >> next) ≡ Ok y
    → ((x : Unit {0}) → first ≡ Ok x → next ≡ Ok y → P) → P
with_then (Ok x) next is on = on x refl is
with_then (Err fault) next is on = absurd (cc)

none_wrong : (found : Option ℕ) (fault : ℕ → MessageFault) (done : Unit {0})
    → option_map_or (λ place. Err (fault place)) found (Ok tt) ≡ Ok done → found ≡ None
none_wrong None fault done is = refl
none_wrong (Some place) fault done is = absurd (cc)

order_read : (order : List ℕ) (form : KeyLine) (start : ℕ) → order_answer order form ≡ Ok start
    → (text_start order form ≡ Ok start) × (wrong_sign (drop start order) ≡ None)
unfolding order_answer
order_read order form start is =
    with_ok (text_start order form) _ is (λ begin one is_one.
    with_then (wheels_answer order form begin) _ is_one (λ _ two is_two.
    with_then (signs_answer order begin) _ is_two (λ done three is_three.
    with_then (parts_answer order form begin) _ is_three (λ _ four is_four.
    let same : begin ≡ start = cc in
    subst (λ n. (text_start order form ≡ Ok n) × (wrong_sign (drop n order) ≡ None)) same
    (one, none_wrong (wrong_sign (drop begin order)) _ done three)))))

pub key_groups_agree : OrderGroupsAreThoseOfKeys
key_groups_agree s order start keys head text same is whole =
    let (begun, signs) = order_read order (key_line_of order) start is in
    let there : HasHeadTo s order start = head_ends_agree s (key_line_of order) order start same begun in
    let (alike, front, rest) = one_order s order keys there.keys head (take start order) text (drop start order) whole
    there.is_order in
    let size : length (take start order) ≡ start = length-take-le start order there.inside in
    let allowed : IsBytesAnswer 1 (drop start order) (Ok tt) =
    subst (AreSignsTested 1 (drop start order)) signs (signs_agree 1 (drop start order)) in
    let no : is_form order ≡ false = no_form s (key_line_of order) there.keys order (take start order)
    (drop start order) 1 same there.is_order.joined there.is_order.is_head.lines allowed in
    let groups : order_groups order (key_line_of order) start ≡ flat_map group_of_keys keys =
    ap (order_groups order (key_line_of order)) (sym size)
    ∙ groups_agree s (key_line_of order) order (drop start order) (take start order) there.keys same
    there.is_order.is_head.lines there.is_order.joined ∙ ap (flat_map group_of_keys) (sym alike) in
    ap (λ b. cond b (form_message order (form_answer order)) (order_message order (order_start order))) no
    ∙ ap (order_message order) is ∙ ap (λ g. Some (record { keys = key_line_of order; groups = g })) groups
