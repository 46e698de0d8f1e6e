-- How a part's body is tested, and deciphered into the letters of the part's text. Parts are counted from 1.
use Rattle.std.specs.Prelude.{◌≡◌, ℕ, ◌-◌, List, length, take, drop, slice_index, Option, Some, None}
use Rattle.std.specs.List.{slice_range}
use Rattle.kd_state.specs.Machine.{AreLetters}
use Rattle.kd_state.specs.AnswerRules.{AnswerRule, ◌>>=◌, Yields, Finds, Demands}
use Rattle.kd_state.specs.SheetDay.{Day, Rotor, Pin, AreADaysGroup}
use Rattle.kd_state.specs.EngineKey.{IsWindow}
use Rattle.kd_state.specs.OwnKeys.{sheet_key}
use Rattle.kd_form.specs.declared.fault.FormFault.{FormFault}
use Rattle.kd_form.specs.declared.fault.FormFault.TheVariants.{KeyNotOnWheel, WrongGroup, IndicatorSpent}
use Rattle.kd_form.specs.declared.fault.FormFault.TheVariants.{IndicatorsDiffer}
use Rattle.kd_form.specs.declared.keys.PinKeys.{PinKeys}
use Rattle.kd_form.specs.declared.heading.Indicator.{Indicator}
use Rattle.kd_form.specs.InternalKey.{IsInternalKey}
use Rattle.kd_form.specs.PartMaking.{cipher_from, list_letters, enciphered_choice}

-- ---- The letters of a body on a rotor machine: two fillers, the group, and the enciphered text.
-- Source: the singly enciphered message key of the Wehrmacht.
-- Test: tests/refusals

-- the group in a body: the three letters after the two fillers
abbrev pub group_of_body : List ℕ → List ℕ
group_of_body letters = slice_range letters 2 5

-- the message key: the indicator's enciphered key, deciphered with the ground setting in the windows
abbrev pub deciphered_key : Day → Indicator → List ℕ
deciphered_key s indicator = cipher_from s indicator.ground_setting indicator.enciphered_key

-- The result of deciphering a rotor machine's body. If the body's group isn't one of the day's groups, the fault is
-- `WrongGroup`. Otherwise, the result is the text: the letters after the group, deciphered with the message key in the
-- windows at the start.
abbrev pub IsRotorAnswer : Day → ℕ → Indicator → List ℕ → AnswerRule FormFault (List ℕ)
IsRotorAnswer s part indicator letters = do
  _ ← Demands (AreADaysGroup s (group_of_body letters)) (WrongGroup part)
  Yields (cipher_from s (deciphered_key s indicator) (drop 5 letters))

-- ---- The letters of a body on the Converter M-209: the indicators, the text, and the indicators again.
-- Source: War Department TM 11-380.
-- Test: tests/cases/desk-messages.toml

-- The last ten letters repeat the first ten, and the first two letters are equal.
pub record HasIndicatorsAround (letters : List ℕ) : Type 0 where
  pub again : take 10 letters ≡ drop (length letters - 10) letters
  pub twice : slice_index letters 0 ≡ slice_index letters 1

-- the keys in a body: the chosen letter is the second letter, and the external letters are the next six
abbrev pub keys_of_body : List ℕ → PinKeys
keys_of_body letters = record { chosen = slice_index letters 1; external = slice_range letters 2 8 }

-- the two list letters in a body: they follow the external letters
abbrev pub list_of_body : List ℕ → List ℕ
list_of_body letters = slice_range letters 8 10

-- the enciphered text in a body: the letters between the indicators
abbrev pub text_of_body : List ℕ → List ℕ
text_of_body letters = slice_range letters 10 (length letters - 10)

-- The result of deciphering `text` on the Converter M-209 with the internal key that `keys` give, or the fault that no
-- internal key can be picked.
abbrev pub IsPinTextAnswer : Day → ℕ → PinKeys → List ℕ → AnswerRule FormFault (List ℕ)
IsPinTextAnswer s part keys text = do
  internal ← Finds (IsInternalKey (enciphered_choice s keys)) (IndicatorSpent part)
  Yields (cipher_from s internal text)

-- The result of deciphering a body on the Converter M-209: the text, or the fault of the first test that fails. The
-- text is deciphered with the internal key in the windows at the start. The tests, in this order:
-- - The last ten letters repeat the first ten, and the first two letters are equal (`HasIndicatorsAround`).
-- - Each external letter is on its wheel.
-- - The list letters are the day's list letters.
-- - An internal key can be picked.
abbrev pub IsPinAnswer : Day → ℕ → List ℕ → AnswerRule FormFault (List ℕ)
IsPinAnswer s part letters = do
  _ ← Demands (HasIndicatorsAround letters) (IndicatorsDiffer part)
  _ ← Demands (IsWindow (sheet_key s) (keys_of_body letters).external) KeyNotOnWheel
  _ ← Demands (list_of_body letters ≡ list_letters s) (WrongGroup part)
  IsPinTextAnswer s part (keys_of_body letters) (text_of_body letters)

-- ---- The letters of a body for either kind of machine.
-- Test: tests/cases/desk-messages.toml

-- The indicator is valid for the day's model. On a rotor machine, the indicator's ground setting and enciphered key
-- have a letter for each slot. On the Converter M-209, there is no indicator.
abbrev pub HasIndicator : Day → Option Indicator → Type 0
HasIndicator (Rotor s) (Some i) = AreLetters (length s.wheels) i.ground_setting
    × AreLetters (length s.wheels) i.enciphered_key
HasIndicator (Pin s) None = Unit {0}
HasIndicator (Rotor s) None = ⊥
HasIndicator (Pin s) (Some i) = ⊥

-- The result of deciphering the letters of a body. If the heading has an indicator, the result must satisfy
-- `IsRotorAnswer`, otherwise `IsPinAnswer`.
abbrev pub IsLettersAnswer : Day → ℕ → Option Indicator → List ℕ → AnswerRule FormFault (List ℕ)
IsLettersAnswer s part (Some i) letters = IsRotorAnswer s part i letters
IsLettersAnswer s part None letters = IsPinAnswer s part letters
