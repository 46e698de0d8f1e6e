-- How the letters of a body are tested and deciphered, if some of these letters were lost.
-- Test: tests/messages-as-worked
use Rattle.std.specs.Prelude.{◌≡◌, ◌⊎◌, ◌↔◌, ℕ, ◌-◌, ◌<◌, ◌≤◌, ◌==◌, if◌then◌else◌, List, [], ◌∷◌, length, map, take, drop, Any, IsTrue}
use Rattle.std.specs.Prelude.{Option, Some, None, Ok}
use Rattle.std.specs.List.{slice_range}
use Rattle.kd_state.specs.AnswerRules.{AnswerRule, ◌>>=◌, Finds, Demands, FindsAlways}
use Rattle.kd_state.specs.SheetDay.{Day, AreADaysGroup, Pin, Rotor, RotorDay}
use Rattle.kd_state.specs.EngineKey.{IsWindow}
use Rattle.kd_state.specs.OwnKeys.{sheet_key}
use Rattle.kd_form.specs.declared.heading.Indicator.{Indicator}
use Rattle.kd_form.specs.BodyCipher.{HasIndicator, deciphered_key}
use Rattle.kd_form.specs.InternalKey.{IsInternalKey}
use Rattle.kd_form.specs.KeyPatterns.{IsConverterDay}
use Rattle.arrayvec.specs.ArrayVec.{ArrayVec}
use Rattle.kd_form.specs.declared.keys.PinKeys.{PinKeys}
use Rattle.kd_form.specs.PartMaking.{cipher_from, enciphered_choice, list_letters}
use Rattle.kd_lost.specs.declared.damage.PartDamage.{PartDamage}
use Rattle.kd_lost.specs.declared.damage.PartDamage.TheVariants.{KeyNotOnWheel, NoInternalKey}
use Rattle.kd_lost.specs.declared.damaged_text.DamagedText.{DamagedText}
use Rattle.kd_lost.specs.declared.damaged_text.GroupTest.{GroupTest}
use Rattle.kd_lost.specs.declared.damaged_text.GroupTest.TheVariants as tests
use Rattle.kd_lost.specs.declared.damaged_text.LostCopies.{LostCopies}
use Rattle.kd_lost.specs.declared.damaged_text.PinTextKeys.{PinTextKeys}
use Rattle.kd_lost.specs.declared.damaged_text.TextKeys.{TextKeys}
use Rattle.kd_lost.specs.declared.damaged_text.TextKeys.TheVariants as text_keys
use Rattle.kd_lost.specs.Lost.{Completes, covered}
use Rattle.kd_lost.specs.Copies.{IsKeysAnswer}
use Rattle.kd_lost.specs.WholePart.{IsLettersText}

-- ---- The warnings: the group or the list letters, and the copies of a Converter's indicators.

-- `test` is the result of comparing the group `received` with the day's groups. A group with a lost letter isn't
-- compared.
pub data IsGroupTest (s : Day) (received : List (Option ℕ)) (test : GroupTest) : Type 0 where
  GroupRight : (letters : List ℕ) → received ≡ map Some letters → AreADaysGroup s letters → test ≡ tests.Right
      → IsGroupTest s received test
  GroupWrong : (letters : List ℕ) → received ≡ map Some letters → ¬ (AreADaysGroup s letters) → test ≡ tests.Wrong
      → IsGroupTest s received test
  GroupLost : Any (λ got. got ≡ None) received → test ≡ tests.NotTested → IsGroupTest s received test

-- At some place, the letter is lost in both copies of the list letters.
abbrev pub IsLostInBoth : List (Option ℕ) → List (Option ℕ) → Type 0
IsLostInBoth (one ∷ start) (other ∷ end) = ((one ≡ None) × (other ≡ None)) ⊎ IsLostInBoth start end
IsLostInBoth [] end = ⊥
IsLostInBoth (one ∷ start) [] = ⊥

-- `test` is the result of comparing the day's list letters `due` with their two received copies, `start` and `end`:
-- - `Wrong`: a received letter differs from the day's letter.
-- - `NotTested`: no received letter differs, but a letter is lost in both copies.
-- - `Right`: no received letter differs, and each letter was received in at least one copy.
pub data IsListTest (due : List ℕ) (start end : List (Option ℕ)) (test : GroupTest) : Type 0 where
  ListWrong : ¬ (Completes start due × Completes end due) → test ≡ tests.Wrong → IsListTest due start end test
  ListLost : Completes start due → Completes end due → IsLostInBoth start end → test ≡ tests.NotTested
      → IsListTest due start end test
  ListRight : Completes start due → Completes end due → ¬ (IsLostInBoth start end) → test ≡ tests.Right
      → IsListTest due start end test

-- How many letters of a body stand before its text. On a rotor machine, these are two fillers and the group; on the
-- Converter M-209, the first copy of the indicators.
abbrev pub front_letters : Day → ℕ
front_letters (Rotor s) = 5
front_letters (Pin s) = 10

-- The last two letters of a Converter's body. The heading says that the body has `counted` letters. If the body has
-- another number of letters, its end may be missing. Then the last two letters count as lost.
abbrev pub last_letters : ℕ → List (Option ℕ) → List (Option ℕ)
last_letters counted body =
    if length body == counted then drop (length body - 2) body else None ∷ None ∷ []

-- `test` is the result of comparing the group or the list letters in `body` with the day's letters. `body` has the
-- letters of a part, even of a part that can't be read. The part's heading says that there are `counted` letters.
pub data IsBodyTest (s : Day) (counted : ℕ) (body : List (Option ℕ)) (test : GroupTest) : Type 0 where
  FrontMissing : length body < front_letters s → test ≡ tests.NotTested → IsBodyTest s counted body test
  GroupTested : (d : RotorDay) → s ≡ Rotor d → front_letters s ≤ length body
      → IsGroupTest s (slice_range body 2 5) test → IsBodyTest s counted body test
  ListTested : IsConverterDay s → front_letters s ≤ length body
      → IsListTest (list_letters s) (slice_range body 8 10) (last_letters counted body) test
      → IsBodyTest s counted body test

-- `lost` says which copies of the indicators have a lost letter. One copy is the first ten letters, the other copy the
-- last ten.
pub record AreLostCopies (received : List (Option ℕ)) (lost : LostCopies) : Type 0 where
  pub at_start : IsTrue lost.at_start ↔ Any (λ got. got ≡ None) (take 10 received)
  pub at_end : IsTrue lost.at_end ↔ Any (λ got. got ≡ None) (drop (length received - 10) received)

-- The warnings in `shown` are right for the body `received`. They give the result of testing the group or the list
-- letters, and say which copies of the indicators have lost letters.
abbrev pub AreWarnings : Day → Option Indicator → List (Option ℕ) → DamagedText → Type 0
AreWarnings s (Some i) received shown = IsGroupTest s (slice_range received 2 5) shown.group × (shown.copies ≡ None)
AreWarnings s None received shown =
    IsListTest (list_letters s) (slice_range received 8 10) (drop (length received - 2) received) shown.group
    × (lost : LostCopies) × (shown.copies ≡ Some lost) × AreLostCopies received lost

-- ---- The text.

-- The letters of a body that belong to its text. On a rotor machine, these are all letters but the first five. On the
-- Converter M-209, they are all letters between the indicators.
abbrev pub text_part : {A : Type 0} → Option Indicator → List A → List A
text_part (Some i) letters = drop 5 letters
text_part None letters = slice_range letters 10 (length letters - 10)

-- `keys` are the keys of the body `received`. On a rotor machine, these are the keys in the heading. On the Converter
-- M-209, these are the keys that both copies of the indicators give, and the internal key that follows from them.
abbrev pub AreTextKeys : Day → Option Indicator → List (Option ℕ) → TextKeys → Type 0
AreTextKeys s (Some i) received keys = HasIndicator s (Some i) × (keys ≡ text_keys.Rotor i)
AreTextKeys s None received keys =
    (pin : PinTextKeys) × (keys ≡ text_keys.Pin pin)
    × IsKeysAnswer (take 8 received) (take 8 (drop (length received - 10) received)) (Ok pin.indicator)
    × IsWindow (sheet_key s) pin.indicator.external
    × IsInternalKey (enciphered_choice s pin.indicator) pin.internal.items

-- The letters in the windows or on the pin wheels before the text is deciphered. On a rotor machine, they are the
-- message key. On the Converter M-209, they are the internal key.
abbrev pub text_window : Day → TextKeys → List ℕ
text_window s (text_keys.Rotor i) = deciphered_key s i
text_window s (text_keys.Pin pin) = pin.internal.items

-- `shown` has the text of the body `received`, with `None` for each lost letter. The other letters of the text are the
-- same, whatever the lost letters were. `shown` also has `received` itself, the keys, and the warnings. With these
-- keys, the machine deciphers the body to the letters in `shown`.
pub record IsTextShown (s : Day) (i : Option Indicator) (received : List (Option ℕ))
    (shown : DamagedText) : Type 0 where
  pub each : (whole text : List ℕ) → Completes received whole → IsLettersText s i whole text
      → shown.letters.items ≡ covered (text_part i received) text
  pub as_received : shown.received.items ≡ received
  pub keys : AreTextKeys s i received shown.keys
  pub from_keys : (whole : List ℕ) → Completes (text_part i received) whole
      → shown.letters.items ≡ covered (text_part i received) (cipher_from s (text_window s shown.keys) whole)
  pub warnings : AreWarnings s i received shown

-- The answer for the letters of a body. On a rotor machine, the letters always give a text. On the Converter M-209,
-- three tests come in this order:
-- - The copies give each key letter.
-- - Each external letter is on its wheel.
-- - There is an internal key.
abbrev pub IsDamagedLettersAnswer : Day → Option Indicator → List (Option ℕ) → AnswerRule PartDamage DamagedText
IsDamagedLettersAnswer s (Some i) received = FindsAlways (IsTextShown s (Some i) received)
IsDamagedLettersAnswer s None received = do
  keys ← IsKeysAnswer (take 8 received) (take 8 (drop (length received - 10) received))
  _ ← Demands (IsWindow (sheet_key s) keys.external) KeyNotOnWheel
  _ ← Finds (IsInternalKey (enciphered_choice s keys)) NoInternalKey
  FindsAlways (IsTextShown s None received)

-- ---- What the code holds. No public contract cites this definition.

-- The answer for a Converter's text: its letters and the internal key, or the first reason why there is no internal
-- key. `received` has the letters between the indicators, and `keys` are the keys in the indicators.
abbrev pub IsKeyedTextAnswer : Day → PinKeys → List (Option ℕ) → AnswerRule PartDamage (ArrayVec (Option ℕ) × ArrayVec ℕ)
IsKeyedTextAnswer s keys received = do
  _ ← Demands (IsWindow (sheet_key s) keys.external) KeyNotOnWheel
  internal ← Finds (IsInternalKey (enciphered_choice s keys)) NoInternalKey
  FindsAlways (λ shown. (shown.1.items ≡ internal) × ((whole : List ℕ) → Completes received whole
      → shown.0.items ≡ covered received (cipher_from s internal whole)))
