-- The line of a setting, the words of this line, and the text of a list of settings.
-- Test: tests/cases/desk-lists.toml
use Rattle.std.specs.Prelude.{codes, decimal, ◌≡◌, ◌≢◌, ℕ, ◌+◌, ◌^◌, ◌<◌, ◌≤◌, Bool, if◌then◌else◌, List, [], ◌∷◌, ◌++◌}
use Rattle.std.specs.Prelude.{length, All, Option, MatchOption}
use Rattle.std.specs.List.{flat_map}
use Rattle.kd_tables.specs.Tables.{wheel_text, reflector_text}
use Rattle.kd_tables.specs.Places.{place_text, lug_text}
use Rattle.kd_tables.specs.Text.{letters_text}
use Rattle.kd_tables.specs.LineWords.{line_of}
use Rattle.kd_state.specs.declared.setting.Setting.{Setting}
use Rattle.kd_state.specs.declared.setting.Setting.TheVariants.{Pull, Put, Seat, SeatReflector, RingTo, Turn, PinTo}
use Rattle.kd_state.specs.declared.setting.Setting.TheVariants.{LugTo}
use Rattle.kd_state.specs.declared.setting.list.ListFault.{ListFault}
use Rattle.kd_state.specs.declared.setting.list.ListFault.TheVariants.{BadLine, TooMany}

-- the word for a pin in a line: `ON` for an effective pin, otherwise `OFF`
abbrev pub on_off_text : Bool → List ℕ
on_off_text effective = if effective then codes "ON" else codes "OFF"

-- the words of a setting's line
abbrev pub setting_words : Setting → List (List ℕ)
setting_words (Pull cable letter) = codes "PULL" ∷ decimal cable ∷ letters_text (letter ∷ []) ∷ []
setting_words (Put cable letter) = codes "PUT" ∷ decimal cable ∷ letters_text (letter ∷ []) ∷ []
setting_words (Seat slot wheel) = codes "SEAT" ∷ decimal slot ∷ wheel_text wheel ∷ []
setting_words (SeatReflector reflector) = codes "REFLECTOR" ∷ reflector_text reflector ∷ []
setting_words (RingTo wheel letter) = codes "RING" ∷ wheel_text wheel ∷ letters_text (letter ∷ []) ∷ []
setting_words (Turn slot letter) = codes "TURN" ∷ decimal slot ∷ letters_text (letter ∷ []) ∷ []
setting_words (PinTo wheel letter effective) =
    codes "PIN" ∷ decimal wheel ∷ letters_text (letter ∷ []) ∷ on_off_text effective ∷ []
setting_words (LugTo bar lug place) = codes "LUG" ∷ decimal bar ∷ lug_text lug ∷ place_text place ∷ []

-- a setting's line, without LF: its words, with single spaces between them
abbrev pub setting_line : Setting → List ℕ
setting_line x = line_of (setting_words x)

-- If the setting has a number, it is below 256. If the setting has a letter, it is below 26.
abbrev pub IsSettingInRange : Setting → Type 0
IsSettingInRange (Pull cable letter) = (cable < 2 ^ 8) × (letter < 26)
IsSettingInRange (Put cable letter) = (cable < 2 ^ 8) × (letter < 26)
IsSettingInRange (Seat slot wheel) = slot < 2 ^ 8
IsSettingInRange (SeatReflector reflector) = Unit {0}
IsSettingInRange (RingTo wheel letter) = letter < 26
IsSettingInRange (Turn slot letter) = (slot < 2 ^ 8) × (letter < 26)
IsSettingInRange (PinTo wheel letter effective) = (wheel < 2 ^ 8) × (letter < 26)
IsSettingInRange (LugTo bar lug place) = bar < 2 ^ 8

-- ---- The text of a list of settings, and its first fault.
-- Test: tests/cases/desk-lists.toml

-- the text of a list: the line of each setting, and LF after it
abbrev pub list_text : List Setting → List ℕ
list_text settings = flat_map (λ x. setting_line x ++ 10 ∷ []) settings

-- `bytes` are the lines of `settings`, and then `rest`.
pub record BeginsWithSettingLines (bytes : List ℕ) (settings : List Setting) (rest : List ℕ) : Type 0 where
  pub lines : bytes ≡ list_text settings ++ rest
  pub in_range : All IsSettingInRange settings

-- The bytes don't begin with a setting's line and its LF.
abbrev pub BeginsWithNoSetting : List ℕ → Type 0
BeginsWithNoSetting bytes = (x : Setting) (rest : List ℕ) → IsSettingInRange x → bytes ≢ setting_line x ++ 10 ∷ rest

-- `bytes` are the lines of at most 192 `settings`, and then `rest`. `rest` doesn't begin with a setting's line and LF.
pub record BeginsWithAllSettings (bytes : List ℕ) (settings : List Setting) (rest : List ℕ) : Type 0 where
  pub lines : BeginsWithSettingLines bytes settings rest
  pub few : length settings ≤ 192
  pub none_more : BeginsWithNoSetting rest

-- Why the bytes aren't the text of a list of settings:
-- - `BadLine`: a line has no LF, or isn't the line of a setting. The fault has the number of the first such line,
-- counted from 1. At most 192 settings come before it.
-- - `TooMany`: the bytes begin with the lines of 193 settings.
abbrev pub IsListFault : List ℕ → ListFault → Type 0
IsListFault bytes (BadLine line) =
    (settings : List Setting) × (rest : List ℕ)
    × BeginsWithSettingLines bytes settings rest × (length settings ≤ 192) × (line ≡ length settings + 1)
    × (rest ≢ []) × BeginsWithNoSetting rest
IsListFault bytes TooMany =
    (settings : List Setting) × (rest : List ℕ) × BeginsWithSettingLines bytes settings rest × (length settings ≡ 193)

-- `bytes` are the text of the list `settings`, which has at most 192 settings.
pub record IsListText (bytes : List ℕ) (settings : List Setting) : Type 0 where
  pub text : bytes ≡ list_text settings
  pub in_range : All IsSettingInRange settings
  pub few : length settings ≤ 192

-- ---- Reading one line. No public contract cites these definitions.

-- `result` is the setting whose line has the words `words`, or `None` if no setting's line has them.
abbrev pub IsSettingOfWords : List (List ℕ) → Option Setting → Type 0
IsSettingOfWords words result =
    MatchOption result ((x : Setting) → IsSettingInRange x → setting_words x ≢ words)
    (λ x. (setting_words x ≡ words) × IsSettingInRange x)

-- `bytes` are the line of setting `x`, LF, and then `rest`.
pub record BeginsWithSettingLine (bytes : List ℕ) (x : Setting) (rest : List ℕ) : Type 0 where
  pub line : bytes ≡ setting_line x ++ 10 ∷ rest
  pub in_range : IsSettingInRange x
