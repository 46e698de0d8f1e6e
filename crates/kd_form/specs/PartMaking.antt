-- How a machine on the day's key makes a part, and how many letters of text a part can have.
-- Code: `DayMachine` has one engine, and sets its windows anew for each text.
use Rattle.std.specs.Prelude.{◌≡◌, ℕ, ◌-◌, ◌%◌, List, [], ◌∷◌, ◌++◌, length, Option, Some, None, replicate}
use Rattle.kd_state.specs.SheetDay.{Day, Rotor, Pin, AreADaysGroup}
use Rattle.kd_state.specs.AnswerRules.{AnswerRule, ◌>>=◌, Yields, Finds, Demands}
use Rattle.kd_state.specs.EngineKey.{EngineKey, IsWindow, cipher, key_with_window}
use Rattle.kd_state.specs.OwnKeys.{sheet_key}
use Rattle.kd_form.specs.declared.fault.FormFault.{FormFault}
use Rattle.kd_form.specs.declared.fault.FormFault.TheVariants.{KeyNotOnWheel, WrongGroup, IndicatorSpent}
use Rattle.kd_form.specs.declared.keys.Keys.{Keys}
use Rattle.kd_form.specs.declared.keys.Keys.TheVariants.{Rotor, Pin}
use Rattle.kd_form.specs.declared.keys.RotorKeys.{RotorKeys}
use Rattle.kd_form.specs.declared.keys.PinKeys.{PinKeys}
use Rattle.kd_form.specs.declared.heading.Indicator.{Indicator}
use Rattle.kd_form.specs.InternalKey.{IsInternalKey}
use Rattle.kd_form.specs.Part.{Part, part_text}

-- the ciphertext of `text` on a machine that is set as the day says; at the start, its windows show `window`
abbrev pub cipher_from : Day → List ℕ → List ℕ → List ℕ
cipher_from s window text = cipher (key_with_window (sheet_key s) window) text

-- `key` is the key of a machine set as the day says, with any letters in its windows.
pub record IsKeyOfDaysMachine (s : Day) (key : EngineKey) : Type 0 where
  pub window : List ℕ
  pub is : key ≡ key_with_window (sheet_key s) window

-- the two letters of the day's key list on the Converter M-209; no letters on a rotor machine
abbrev pub list_letters : Day → List ℕ
list_letters (Rotor s) = []
list_letters (Pin s) = s.list

-- the greatest number of letters of text that a part can have
abbrev pub part_size : Day → ℕ
part_size (Rotor s) = 245
part_size (Pin s) = 500

-- part number `part` of `parts`, with `letters` as its body
abbrev pub part_of : ℕ → ℕ → Option Indicator → List ℕ → Part
part_of part parts indicator letters = record {
  heading = record { part = part; parts = parts; letters = length letters; indicator = indicator };
  body = letters;
}

-- ---- A part's letters on a rotor machine: fillers, group and enciphered text.
-- Source: the singly enciphered message key of the Wehrmacht.
-- Test: tests/cases/desk-messages.toml

-- the indicator: the ground setting, and the message key, enciphered with the ground setting in the windows
abbrev pub indicator_of : Day → RotorKeys → Indicator
indicator_of s k =
    record { ground_setting = k.ground_setting; enciphered_key = cipher_from s k.ground_setting k.message_key }

-- the letters of a body: the two fillers and the group, unenciphered; then the text, enciphered with the message key
abbrev pub rotor_letters : Day → RotorKeys → List ℕ → List ℕ
rotor_letters s k text = k.fillers ++ k.group ++ cipher_from s k.message_key text

-- ---- A part's letters on the Converter M-209: indicators, enciphered text, and the indicators again.
-- Source: War Department TM 11-380.
-- Test: tests/cases/desk-messages.toml

-- twelve times the chosen letter, enciphered; at the start, the windows show the external letters
abbrev pub enciphered_choice : Day → PinKeys → List ℕ
enciphered_choice s k = cipher_from s k.external (replicate 12 k.chosen)

-- the indicators: the chosen letter twice, the external letters, and the two list letters
abbrev pub pin_indicators : Day → PinKeys → List ℕ
pin_indicators s k = k.chosen ∷ k.chosen ∷ k.external ++ list_letters s

-- `text`, with X appended until the last group of five letters is full
abbrev pub fill_last_group : List ℕ → List ℕ
fill_last_group text = text ++ replicate ((5 - length text % 5) % 5) 23

-- the body of a part: the indicators, the enciphered text, and the indicators again. `text` is filled to whole groups,
-- and enciphered with the internal key.
abbrev pub pin_letters : Day → PinKeys → List ℕ → List ℕ → List ℕ
pin_letters s k internal text = pin_indicators s k ++ cipher_from s internal (fill_last_group text)
    ++ pin_indicators s k

-- ---- Keys that suit a day, and the part of a form that is made from a text with these keys.
-- Test: tests/cases/desk-messages.toml

-- The result of testing whether the keys of part `part` suit the day. On a rotor machine, the keys' group must be one
-- of the day's groups. On the Converter M-209, each external letter must be on its wheel, and there must be an internal
-- key.
abbrev pub IsKeysAnswer : Day → ℕ → Keys → AnswerRule FormFault (Unit {0})
IsKeysAnswer s part (Rotor k) = Demands (AreADaysGroup s k.group) (WrongGroup part)
IsKeysAnswer s part (Pin k) = do
  _ ← Demands (IsWindow (sheet_key s) k.external) KeyNotOnWheel
  _ ← Finds (IsInternalKey (enciphered_choice s k)) (IndicatorSpent part)
  Yields tt

-- The part `made` is part number `part` of `parts`. It is made by enciphering `text` with the keys.
abbrev pub IsPartMade : Day → ℕ → ℕ → Keys → List ℕ → Part → Type 0
IsPartMade s part parts (Rotor k) text made = made
    ≡ part_of part parts (Some (indicator_of s k)) (rotor_letters s k text)
IsPartMade s part parts (Pin k) text made =
    (internal : List ℕ) × IsInternalKey (enciphered_choice s k) internal
    × (made ≡ part_of part parts None (pin_letters s k internal text))

-- `bytes` are the lines of part number `part` of `parts`: the heading line, and `text` enciphered with the keys.
abbrev pub IsPartTextMade : Day → ℕ → ℕ → Keys → List ℕ → List ℕ → Type 0
IsPartTextMade s part parts keys text bytes = (made : Part) × IsPartMade s part parts keys text made
    × (bytes ≡ part_text made)
