-- The text of a part in which no letter is lost. The part's group or list letters may be any letters.
-- Test: tests/messages-as-worked
use Rattle.std.specs.Prelude.{◌≡◌, ℕ, ◌-◌, List, length, take, drop, slice_index, All, IsTrue, Option, Some, None}
use Rattle.kd_tables.specs.Text.{is_text_byte}
use Rattle.kd_state.specs.SheetDay.{Day}
use Rattle.kd_state.specs.EngineKey.{IsWindow}
use Rattle.kd_state.specs.OwnKeys.{sheet_key}
use Rattle.kd_form.specs.declared.heading.{Heading.{Heading}, Indicator.{Indicator}}
use Rattle.kd_form.specs.BodyCipher.{deciphered_key, keys_of_body, text_of_body}
use Rattle.kd_form.specs.InternalKey.{IsInternalKey}
use Rattle.kd_form.specs.PartMaking.{cipher_from, enciphered_choice}
use Rattle.kd_form.specs.PartReading.{HasHeading}
use Rattle.kd_form.specs.Sending.{letters_from}

-- In the Converter's body `letters`, the first two letters are equal. The first eight letters, the
-- keys, stand again after the text, before the last two letters.
pub record HasKeysAround (letters : List ℕ) : Type 0 where
  pub again : take 8 letters ≡ take 8 (drop (length letters - 10) letters)
  pub twice : slice_index letters 0 ≡ slice_index letters 1

-- The body `letters` of a Converter's part has the text `text`. The list letters in `letters` may be any letters.
pub record IsPinText (s : Day) (letters text : List ℕ) : Type 0 where
  pub around : HasKeysAround letters
  pub on_wheels : IsWindow (sheet_key s) (keys_of_body letters).external
  pub internal : List ℕ
  pub is_key : IsInternalKey (enciphered_choice s (keys_of_body letters)) internal
  pub is : text ≡ cipher_from s internal (text_of_body letters)

-- The body `letters` has the text `text`. The group or list letters in `letters` may be any letters. If there is an
-- indicator, the body is a rotor machine's; otherwise it is a Converter's.
abbrev pub IsLettersText : Day → Option Indicator → List ℕ → List ℕ → Type 0
IsLettersText s (Some i) letters text = text ≡ cipher_from s (deciphered_key s i) (drop 5 letters)
IsLettersText s None letters text = IsPinText s letters text

-- `part` has the heading `h` and the text `text`. The part's group or list letters may be any letters. `receive` also
-- tests the group or the list letters, and the numbers in the heading.
pub record IsPartText (s : Day) (part : List ℕ) (h : Heading) (text : List ℕ) : Type 0 where
  pub body : List ℕ
  pub has : HasHeading s part h body
  pub allowed : All (λ byte. IsTrue (is_text_byte byte)) body
  pub counted : length (letters_from None body) ≡ h.letters
  pub read : IsLettersText s h.indicator (letters_from None body) text
