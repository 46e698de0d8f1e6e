-- The indicator and the number of letters in a heading, by the day's machine.
use Rattle.std.proofs.Common.{◌≡◌, ◌∙◌, ℕ, zero, suc, ◌+◌, ◌<◌, ◌≤◌, ◌&&◌, true, List, [], ◌∷◌, ◌++◌, Option, Some}
use Rattle.std.proofs.Common.{None, ap, arith, drop, length, nat_le, refl, sym, length-append, take}
use Rattle.std.proofs.lemmas.Bool.{Decides.nat_tests, cases_Bool}
use Rattle.std.proofs.lemmas.List.{append-nil, length-drop, length-take-le, take-append-drop}
use Rattle.std.proofs.lemmas.List.Elements.{All-append, All-drop, All-nil, All-take}
use Rattle.kd_tables.specs.Text.{letters_text}
use Rattle.kd_state.specs.Machine.{AreLetters}
use Rattle.kd_state.specs.SheetDay.{Day, RotorDay, Rotor, Pin}
use Rattle.kd_form.specs.declared.heading.{Indicator.Indicator}
use Rattle.kd_form.specs.BodyCipher.{HasIndicator}
use Rattle.kd_form.specs.FormParts.{IsLetterCount}
use Rattle.kd_form.specs.KeyPatterns.{blank_places}
use Rattle.kd_form.specs.Patterns.{blank_count, filled_pattern}
use Rattle.kd_look.specs.FormHeading.{is_letter_count, keys_pattern}
use Rattle.kd_look.specs.Laws.{HasKeyLineForm}
use Rattle.kd_look.specs.declared.message.order_head.KeyLine.{KeyLine}
use Rattle.kd_look.specs.declared.message.order_head.KeyLine.TheVariants as lines

-- -------- the machine that a heading is for

-- the text of an indicator after the number of letters in a heading
abbrev pub indicator_text : Option Indicator → List ℕ
indicator_text None = []
indicator_text (Some i) = 32 ∷ (letters_text i.ground_setting ++ 32 ∷ letters_text i.enciphered_key)

-- the pattern of an indicator with this number of slots
abbrev slots_pattern : ℕ → List ℕ
slots_pattern slots = 32 ∷ (blank_places slots ++ 32 ∷ blank_places slots)

filled_word : (n : ℕ) (letters other more : List ℕ) → length letters ≡ n
    → filled_pattern (blank_places n ++ other) (letters ++ more) ≡ letters_text letters ++ filled_pattern other more
filled_word zero [] other more count = refl
filled_word (suc n) (l ∷ letters) other more count = grind (arith, filled_word n letters other more (omega arith))
filled_word _ _ other more count = absurd (omega arith)

blanks_word : (n : ℕ) (other : List ℕ) → blank_count (blank_places n ++ other) ≡ n + blank_count other
blanks_word zero other = omega arith
blanks_word (suc n) other = ap (λ m. m + 1) (blanks_word n other) ∙ omega arith

slots_blanks : (slots : ℕ) → blank_count (slots_pattern slots) ≡ slots + slots
slots_blanks slots =
    blanks_word slots (32 ∷ blank_places slots)
    ∙ ap (λ n. slots + n) (ap blank_count (sym (append-nil (blank_places slots))) ∙ blanks_word slots [] ∙ omega arith)

slots_filled : (slots : ℕ) (start key : List ℕ) → length start ≡ slots → length key ≡ slots
    → filled_pattern (slots_pattern slots) (start ++ key) ≡ 32 ∷ (letters_text start ++ 32 ∷ letters_text key)
slots_filled slots start key one two =
    ap (λ l. 32 ∷ l) (filled_word slots start (32 ∷ blank_places slots) key one
    ∙ ap (λ l. letters_text start ++ 32 ∷ l)
    (ap (λ p. filled_pattern p key) (sym (append-nil (blank_places slots)))
    ∙ ap (λ k. filled_pattern (blank_places slots ++ []) k) (sym (append-nil key))
    ∙ filled_word slots key [] [] two ∙ append-nil (letters_text key)))

-- ---- valid indicators, and the letters that fill the pattern

module _ (s : RotorDay) (slots : ℕ) (count : length s.wheels ≡ slots) where
  slots_read : (letters : List ℕ) → AreLetters (blank_count (slots_pattern slots)) letters
      → (i : Option Indicator) × HasIndicator (Rotor s) i
      × (filled_pattern (slots_pattern slots) letters ≡ indicator_text i)
  slots_read letters are =
      let both : length letters ≡ slots + slots = are.count ∙ slots_blanks slots in
      let one : length (take slots letters) ≡ slots = length-take-le slots letters (omega (arith, both)) in
      let two : length (drop slots letters) ≡ slots = omega (arith, both, length-drop slots letters) in (
        Some (record { ground_setting = take slots letters; enciphered_key = drop slots letters }),
        (
          record { count = one ∙ sym count; within = All-take (λ l. l < 26) slots letters are.within },
          record { count = two ∙ sym count; within = All-drop (λ l. l < 26) slots letters are.within },
        ),
        ap (filled_pattern (slots_pattern slots)) (sym (take-append-drop slots letters))
            ∙ slots_filled slots (take slots letters) (drop slots letters) one two,
      )

  slots_there : (i : Option Indicator) → HasIndicator (Rotor s) i
      → (letters : List ℕ) × AreLetters (blank_count (slots_pattern slots)) letters
      × (filled_pattern (slots_pattern slots) letters ≡ indicator_text i)
  slots_there None none = absurd none
  slots_there (Some i) (start, key) = (
    i.ground_setting ++ i.enciphered_key,
    record {
      count = omega
          (arith, length-append i.ground_setting i.enciphered_key, start.count, key.count, count, slots_blanks slots);
      within = All-append (λ l. l < 26) i.ground_setting i.enciphered_key start.within key.within;
    },
    slots_filled slots i.ground_setting i.enciphered_key (start.count ∙ count) (key.count ∙ count),
  )

pub indicator_read : (s : Day) (keys : KeyLine) → HasKeyLineForm s keys → (letters : List ℕ)
    → AreLetters (blank_count (keys_pattern keys)) letters
    → (i : Option Indicator) × HasIndicator s i × (filled_pattern (keys_pattern keys) letters ≡ indicator_text i)
indicator_read (Rotor s) lines.ThreeSlots same letters are =
    slots_read s 3 same letters are
indicator_read (Rotor s) lines.FourSlots same letters are =
    slots_read s 4 same letters are
indicator_read (Rotor s) lines.Converter same letters are = absurd same
indicator_read (Pin s) lines.ThreeSlots same letters are = absurd same
indicator_read (Pin s) lines.FourSlots same letters are = absurd same
indicator_read (Pin s) lines.Converter same letters are = (None, tt, refl)

pub indicator_there : (s : Day) (keys : KeyLine) → HasKeyLineForm s keys → (i : Option Indicator) → HasIndicator s i
    → (letters : List ℕ) × AreLetters (blank_count (keys_pattern keys)) letters
    × (filled_pattern (keys_pattern keys) letters ≡ indicator_text i)
indicator_there (Rotor s) lines.ThreeSlots same i has = slots_there s 3 same i has
indicator_there (Rotor s) lines.FourSlots same i has = slots_there s 4 same i has
indicator_there (Rotor s) lines.Converter same i has = absurd same
indicator_there (Pin s) lines.ThreeSlots same i has = absurd same
indicator_there (Pin s) lines.FourSlots same i has = absurd same
indicator_there (Pin s) lines.Converter same None has =
    ([], record { count = refl; within = All-nil (λ l. l < 26) }, refl)
indicator_there (Pin s) lines.Converter same (Some i) has = absurd has

rotor_count : (count : ℕ) → ((nat_le 6 count && nat_le count 250) ≡ true → (6 ≤ count) × (count ≤ 250))
    × ((6 ≤ count) × (count ≤ 250) → (nat_le 6 count && nat_le count 250) ≡ true)
rotor_count count =
    (λ is. grind (arith, nat_tests, cases_Bool (nat_le 6 count)), λ is. grind (arith, nat_tests))

pub counts_agree : (s : Day) (keys : KeyLine) → HasKeyLineForm s keys → (count : ℕ)
    → (is_letter_count keys count ≡ true → IsLetterCount s count)
    × (IsLetterCount s count → is_letter_count keys count ≡ true)
counts_agree (Rotor s) lines.ThreeSlots same count = rotor_count count
counts_agree (Rotor s) lines.FourSlots same count = rotor_count count
counts_agree (Rotor s) lines.Converter same count = absurd same
counts_agree (Pin s) lines.ThreeSlots same count = absurd same
counts_agree (Pin s) lines.FourSlots same count = absurd same
counts_agree (Pin s) lines.Converter same count = (
  λ is. grind (arith, nat_tests, cases_Bool (nat_le 25 count), cases_Bool (nat_le count 520)),
  λ is. grind (arith, nat_tests),
)
