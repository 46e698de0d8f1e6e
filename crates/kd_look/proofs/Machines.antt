-- The machine that `look` takes a message for is the one for which `send` or `receive` takes it.
use Rattle.std.proofs.Common.{◌≡◌, ◌∙◌, ℕ, ◌+◌, ◌<◌, ◌≤◌, ◌⊎◌, ◌&&◌, Bool, true, false, List, [], ◌∷◌, ◌++◌}
use Rattle.std.proofs.Common.{Option, Some, None, Contains, ap, append_assoc, arith, cond, drop}
use Rattle.std.proofs.Common.{inl, inr, length, refl, subst, sym, IfOk}
use Rattle.std.proofs.lemmas.Bool.{Decides.nat_tests}
use Rattle.std.proofs.lemmas.List.{length-map}
use Rattle.std.specs.Option.{option_map_or}
use Rattle.kd_tables.specs.LineWords.{line_of}
use Rattle.kd_tables.specs.Tables.{reflectors_of, slots_of}
use Rattle.kd_tables.specs.Text.{letters_text}
use Rattle.kd_tables.specs.declared.model.Model.{Model}
use Rattle.kd_tables.specs.declared.model.Model.TheVariants.{EnigmaI, M3, M4, M209}
use Rattle.kd_tables.specs.declared.reflector.Reflector.{Reflector}
use Rattle.kd_state.specs.Machine.{AreLetters}
use Rattle.kd_state.specs.SheetDay.{Day, IsLegalDay, IsLegalRotorDay, Pin, Rotor, RotorDay}
use Rattle.kd_form.specs.declared.heading.{Indicator.Indicator}
use Rattle.kd_form.specs.declared.keys.Keys.{Keys}
use Rattle.kd_form.specs.declared.keys.Keys.TheVariants as kinds
use Rattle.kd_form.specs.BodyCipher.{HasIndicator}
use Rattle.kd_form.specs.FormText.{IsTextOf}
use Rattle.kd_form.specs.Keys.{AreKeys, key_words}
use Rattle.kd_look.proofs.FirstLines.{IsFirstKeyLine, form_headed, order_keyed, other_words, rotor_line}
use Rattle.kd_look.proofs.FormsShown.{text_keyed}
use Rattle.kd_look.proofs.HeadingsRead.{IsLineEnd, AtEnd, AtFeed, AtReturn}
use Rattle.kd_look.proofs.HeadingsThere.{count_there}
use Rattle.kd_look.proofs.Indicators.{indicator_text}
use Rattle.kd_look.proofs.LineEnds.{fits_next, slice_get-next}
use Rattle.kd_look.proofs.Marks.{fits_there}
use Rattle.kd_look.proofs.Numbers.{drop_next}
use Rattle.kd_look.specs.FormHeading.{heading_keys}
use Rattle.kd_look.specs.Laws.{HasKeyLineForm, IsDayOfForm, OrdersAreForTheirMachine, FormsAreForTheirMachine}
use Rattle.kd_look.specs.OrderHead.{has_four_letters, key_line_of}
use Rattle.kd_look.specs.Signs.{fits_at, fits_mark}
use Rattle.kd_look.specs.declared.message.order_head.KeyLine.TheVariants as lines

-- -------- a legal day's slots

model_slots : (model : Model) (reflector : Reflector) (slots : ℕ) → Contains (reflectors_of model) reflector
    → slots ≡ slots_of model → (slots ≡ 3) ⊎ (slots ≡ 4)
model_slots EnigmaI reflector slots has is = inl is
model_slots M3 reflector slots has is = inl is
model_slots M4 reflector slots has is = inr is
model_slots M209 reflector slots has is = absurd (grind arith)

legal_slots : (day : RotorDay) → IsLegalRotorDay day → (length day.wheels ≡ 3) ⊎ (length day.wheels ≡ 4)
legal_slots day legal = model_slots day.model day.reflector (length day.wheels) legal.reflector
    (sym (length-map day.wheels (λ w. Some w.wheel)) ∙ legal.wheels.count)

-- -------- words of three and of four letters

letter_fits : (letter : ℕ) → letter < 26 → fits_mark 95 (letter + 65) ≡ true
letter_fits letter small = grind (arith, nat_tests)

letter_there : (text after : List ℕ) (index letter : ℕ) → letter < 26 → drop index text ≡ (letter + 65) ∷ after
    → fits_at text 95 index ≡ true
letter_there text after index letter small next =
    fits_there text after 95 index (letter + 65) next (letter_fits letter small)

-- if the first of the bytes from `index` on doesn't fit a mark, the byte at `index` doesn't fit it
unfit_there : (text after : List ℕ) (mark index byte : ℕ) → drop index text ≡ byte ∷ after
    → fits_mark mark byte ≡ false → fits_at text mark index ≡ false
unfit_there text after mark index byte next unfit =
    subst (λ o. option_map_or (fits_mark mark) o false ≡ false) (sym (slice_get-next text after index byte next)) unfit

letter_no_space : (text after : List ℕ) (index letter : ℕ) → drop index text ≡ (letter + 65) ∷ after
    → fits_at text 32 index ≡ false
letter_no_space text after index letter next =
    unfit_there text after 32 index (letter + 65) next (grind (arith, nat_tests))

none_there : (text : List ℕ) (mark index : ℕ) (fits : Bool) → fits_at text mark index ≡ fits → drop index text ≡ []
    → fits_at text mark index ≡ false
none_there text mark index false is none = is
none_there text mark index true is none =
    let (byte, next, fit) = fits_next text mark index is in absurd (cc)

-- whether four letters are at these places
abbrev four_at : List ℕ → ℕ → ℕ → ℕ → ℕ → Bool
four_at text p q r t = fits_at text 95 p && fits_at text 95 q && (fits_at text 95 r && fits_at text 95 t)

next_there : (text after : List ℕ) (p q byte : ℕ) → q ≡ p + 1 → drop p text ≡ byte ∷ after → drop q text ≡ after
next_there text after p q byte is next = ap (λ n. drop n text) is ∙ drop_next text after p byte next

module _ (text rest : List ℕ) (p q r t : ℕ) (one : q ≡ p + 1) (two : r ≡ q + 1) (three : t ≡ r + 1) where
  four_letters : (letters : List ℕ) → AreLetters 4 letters → drop p text ≡ letters_text letters ++ rest
      → four_at text p q r t ≡ true
  four_letters [] are there = absurd (omega (arith, are.count))
  four_letters (a ∷ []) are there = absurd (omega (arith, are.count))
  four_letters (a ∷ b ∷ []) are there = absurd (omega (arith, are.count))
  four_letters (a ∷ b ∷ c ∷ []) are there = absurd (omega (arith, are.count))
  four_letters (a ∷ b ∷ c ∷ d ∷ e ∷ more) are there = absurd (omega (arith, are.count))
  four_letters (a ∷ b ∷ c ∷ d ∷ []) are there =
      let there_b = next_there text ((b + 65) ∷ (c + 65) ∷ (d + 65) ∷ rest) p q (a + 65) one there in
      let there_c = next_there text ((c + 65) ∷ (d + 65) ∷ rest) q r (b + 65) two there_b in
      let there_d = next_there text ((d + 65) ∷ rest) r t (c + 65) three there_c in
      let fit_a = letter_there text _ p a (are.within 0 0 (omega arith)) there in
      let fit_b = letter_there text _ q b (are.within 1 0 (omega arith)) there_b in
      let fit_c = letter_there text _ r c (are.within 2 0 (omega arith)) there_c in
      let fit_d = letter_there text _ t d (are.within 3 0 (omega arith)) there_d in
      rw (fit_a, fit_b, fit_c, fit_d) refl

  three_letters : (letters : List ℕ) → AreLetters 3 letters → drop p text ≡ letters_text letters ++ 32 ∷ rest
      → four_at text p q r t ≡ false
  three_letters [] are there = absurd (omega (arith, are.count))
  three_letters (a ∷ []) are there = absurd (omega (arith, are.count))
  three_letters (a ∷ b ∷ []) are there = absurd (omega (arith, are.count))
  three_letters (a ∷ b ∷ c ∷ d ∷ more) are there = absurd (omega (arith, are.count))
  three_letters (a ∷ b ∷ c ∷ []) are there =
      let there_b = next_there text ((b + 65) ∷ (c + 65) ∷ 32 ∷ rest) p q (a + 65) one there in
      let there_c = next_there text ((c + 65) ∷ 32 ∷ rest) q r (b + 65) two there_b in
      let there_d = next_there text (32 ∷ rest) r t (c + 65) three there_c in
      let fit_a = letter_there text _ p a (are.within 0 0 (omega arith)) there in
      let fit_b = letter_there text _ q b (are.within 1 0 (omega arith)) there_b in
      let fit_c = letter_there text _ r c (are.within 2 0 (omega arith)) there_c in
      let off_d = unfit_there text rest 95 t 32 there_d refl in
      rw (fit_a, fit_b, fit_c, off_d) refl

-- the second letter of a word with at least two letters is no space
second_no_space : (text rest letters : List ℕ) (p q slots : ℕ) → q ≡ p + 1 → 2 ≤ slots → AreLetters slots letters
    → drop p text ≡ letters_text letters ++ rest → fits_at text 32 q ≡ false
second_no_space text rest [] p q slots is some are there = absurd (omega (arith, are.count, some))
second_no_space text rest (a ∷ []) p q slots is some are there = absurd (omega (arith, are.count, some))
second_no_space text rest (a ∷ b ∷ letters) p q slots is some are there =
    letter_no_space text _ q b (next_there text ((b + 65) ∷ (letters_text letters ++ rest)) p q (a + 65) is there)

-- -------- orders

order_form : (text : List ℕ) (space four : Bool) → fits_at text 32 6 ≡ space → four_at text 5 6 7 8 ≡ four
    → key_line_of text ≡ cond space lines.Converter (cond four lines.FourSlots lines.ThreeSlots)
unfolding key_line_of has_four_letters
order_form text space four first second = rw (first, second) refl

rotor_order : (day : RotorDay) (order word rest : List ℕ) → AreLetters (length day.wheels) word
    → drop 5 order ≡ letters_text word ++ 32 ∷ rest → (length day.wheels ≡ 3) ⊎ (length day.wheels ≡ 4)
    → HasKeyLineForm (Rotor day) (key_line_of order)
rotor_order day order word rest are there (inl slots) =
    let letters : AreLetters 3 word = subst (λ n. AreLetters n word) slots are in
    let off = second_no_space order (32 ∷ rest) word 5 6 3 refl (omega arith) letters there in
    let four = three_letters order rest 5 6 7 8 refl refl refl word letters there in
    subst (HasKeyLineForm (Rotor day)) (sym (order_form order false false off four)) slots
rotor_order day order word rest are there (inr slots) =
    let letters : AreLetters 4 word = subst (λ n. AreLetters n word) slots are in
    let off = second_no_space order (32 ∷ rest) word 5 6 4 refl (omega arith) letters there in
    let four = four_letters order (32 ∷ rest) 5 6 7 8 refl refl refl word letters there in
    subst (HasKeyLineForm (Rotor day)) (sym (order_form order false true off four)) slots

order_right : (s : Day) (order : List ℕ) → IsLegalDay s → IsFirstKeyLine s order
    → HasKeyLineForm s (key_line_of order)
order_right (Rotor day) order legal line = keyed line.keys line.are line.joined
  where
    keyed : (k : Keys) → AreKeys (Rotor day) k → order ≡ line_of (key_words k) ++ line.rest
        → HasKeyLineForm (Rotor day) (key_line_of order)
    keyed (kinds.Pin k) none joined = absurd none
    keyed (kinds.Rotor k) are joined =
        rotor_order day order k.ground_setting (other_words k ++ line.rest) are.ground_setting
        (ap (drop 5) (joined ∙ rotor_line k line.rest))
        (legal_slots day legal)
order_right (Pin day) order legal line = keyed line.keys line.are line.joined
  where
    keyed : (k : Keys) → AreKeys (Pin day) k → order ≡ line_of (key_words k) ++ line.rest
        → HasKeyLineForm (Pin day) (key_line_of order)
    keyed (kinds.Rotor k) none joined = absurd none
    keyed (kinds.Pin k) are joined =
        let fit : fits_at order 32 6 ≡ true = fits_there order _ 32 6 32 (ap (drop 6) joined) refl in
        subst (HasKeyLineForm (Pin day))
        (sym (order_form order true (four_at order 5 6 7 8) fit refl)) tt

pub orders_for_machine : OrdersAreForTheirMachine
orders_for_machine s order form legal is = order_right s order legal (order_keyed s order form is)

-- -------- forms

heading_form : (text : List ℕ) (index : ℕ) (space four : Bool) → fits_at text 32 index ≡ space
    → four_at text (index + 1) (index + 2) (index + 3) (index + 4) ≡ four
    → heading_keys text index ≡ cond space (cond four lines.FourSlots lines.ThreeSlots) lines.Converter
unfolding heading_keys
heading_form text index space four first second = rw (first, second) refl

rotor_heading : (day : RotorDay) (text word rest : List ℕ) (index : ℕ) → AreLetters (length day.wheels) word
    → drop index text ≡ 32 ∷ (letters_text word ++ 32 ∷ rest) → (length day.wheels ≡ 3) ⊎ (length day.wheels ≡ 4)
    → HasKeyLineForm (Rotor day) (heading_keys text index)
rotor_heading day text word rest index are there slots =
    let space = fits_there text (letters_text word ++ 32 ∷ rest) 32 index 32 there refl in
    let next = drop_next text (letters_text word ++ 32 ∷ rest) index 32 there in
    elim slots [
      | inl slots ↦
          let letters : AreLetters 3 word = subst (λ n. AreLetters n word) slots are in
          let four = three_letters text rest (index + 1) (index + 2) (index + 3) (index + 4) (omega arith) (omega arith)
          (omega arith) word letters next in
          subst (HasKeyLineForm (Rotor day)) (sym (heading_form text index true false space four)) slots
      | inr slots ↦
          let letters : AreLetters 4 word = subst (λ n. AreLetters n word) slots are in
          let four = four_letters text (32 ∷ rest) (index + 1) (index + 2) (index + 3) (index + 4) (omega arith)
          (omega arith) (omega arith) word letters next in
          subst (HasKeyLineForm (Rotor day)) (sym (heading_form text index true true space four)) slots
    ]

no_indicator : (text tail rest : List ℕ) (index : ℕ) → drop index text ≡ tail → IsLineEnd tail rest
    → fits_at text 32 index ≡ false
no_indicator text tail rest index there (AtEnd none end) = none_there text 32 index _ refl (there ∙ none)
no_indicator text tail rest index there (AtFeed feed) = unfit_there text rest 32 index 10 (there ∙ feed) refl
no_indicator text tail rest index there (AtReturn return) =
    unfit_there text (10 ∷ rest) 32 index 13 (there ∙ return) refl

heading_right : (s : Day) (text tail rest : List ℕ) (index : ℕ) (i : Option Indicator) → IsLegalDay s
    → HasIndicator s i → drop index text ≡ indicator_text i ++ tail → IsLineEnd tail rest
    → HasKeyLineForm s (heading_keys text index)
heading_right (Rotor day) text tail rest index None legal none there ends = absurd none
heading_right (Rotor day) text tail rest index (Some i) legal (start, key) there ends =
    rotor_heading day text i.ground_setting (letters_text i.enciphered_key ++ tail) index start
    (there ∙ ap (λ l. 32 ∷ l)
    (append_assoc (letters_text i.ground_setting) (32 ∷ letters_text i.enciphered_key) tail))
    (legal_slots day legal)
heading_right (Pin day) text tail rest index (Some i) legal none there ends = absurd none
heading_right (Pin day) text tail rest index None legal has there ends =
    let off = no_indicator text tail rest index there ends in
    subst (HasKeyLineForm (Pin day)) (sym (heading_form text index false _ off refl)) tt

form_right : (s : Day) (form text : List ℕ) → IsLegalDay s → IsTextOf s form text → IsDayOfForm s form
form_right s form text legal is =
    let (h, rest, has) = form_headed s form text is in
    let (end, tail, ends, counted, there) = count_there s form 0 h rest (omega arith) has in
    let right = heading_right s form tail rest end h.indicator legal has.is_heading.indicator there ends in
    subst (λ r. IfOk r (λ end. HasKeyLineForm s (heading_keys form end))) (sym counted) right

pub forms_for_machine : FormsAreForTheirMachine
forms_for_machine s form text legal is =
    let day = form_right s form text legal is in (day, text_keyed s form text day is)
