-- An order is a head and then the text to send. The head has a line of keys for each part, and then the line TEXT.
-- Bytes are counted from 1.
-- Test: tests/cases/desk-messages.toml
use Rattle.std.specs.Prelude.{codes, ◌≡◌, ◌≢◌, ◌⊎◌, ℕ, ◌+◌, ◌≤◌, List, [], ◌∷◌, ◌++◌, length}
use Rattle.kd_tables.specs.LineWords.{line_of}
use Rattle.kd_state.specs.SheetDay.{Day}
use Rattle.kd_form.specs.declared.keys.Keys.{Keys}
use Rattle.kd_form.specs.declared.sending.pattern_line.PatternFault.{PatternFault}
use Rattle.kd_form.specs.declared.sending.pattern_line.PatternFault.TheVariants.{Incomplete, Mismatch}
use Rattle.kd_form.specs.Keys.{key_words, AreKeys}

-- `bytes` are `line` and a line end: LF, or CR and LF.
abbrev pub IsLineWithEnd : List ℕ → List ℕ → Type 0
IsLineWithEnd line bytes = (bytes ≡ line ++ 10 ∷ []) ⊎ (bytes ≡ line ++ 13 ∷ 10 ∷ [])

-- `bytes` are the line with the keys `keys`, and a line end.
abbrev pub IsKeyLine : Keys → List ℕ → Type 0
IsKeyLine keys bytes = IsLineWithEnd (line_of (key_words keys)) bytes

-- `bytes` begin with a line of keys for each of `keys`, and all keys are for the day's model. The bytes after these
-- lines satisfy `Holds`.
abbrev pub BeginsWithKeys : Day → List Keys → (List ℕ → Type 0) → List ℕ → Type 0
BeginsWithKeys s [] Holds bytes = Holds bytes
BeginsWithKeys s (keys ∷ more) Holds bytes =
    (line rest : List ℕ) × AreKeys s keys × IsKeyLine keys line × BeginsWithKeys s more Holds rest
    × (bytes ≡ line ++ rest)

-- `bytes` are an order's head: a line for each of `keys`, at most 99, and the line TEXT.
pub record IsOrderHead (s : Day) (keys : List Keys) (bytes : List ℕ) : Type 0 where
  pub lines : BeginsWithKeys s keys (IsLineWithEnd (codes "TEXT")) bytes
  pub few : length keys ≤ 99

-- `bytes` are the head of an order, with any keys.
abbrev pub IsAnyOrderHead : Day → List ℕ → Type 0
IsAnyOrderHead s bytes = (keys : List Keys) × IsOrderHead s keys bytes

-- `order` is the head `head` and then the text `text`. The head has the keys `keys`.
pub record IsOrder (s : Day) (order : List ℕ) (keys : List Keys) (head text : List ℕ) : Type 0 where
  pub joined : order ≡ head ++ text
  pub is_head : IsOrderHead s keys head

-- What is wrong with `bytes`, which should satisfy `Is`:
-- - `Incomplete`: with some more bytes at the end, they satisfy `Is`.
-- - `Mismatch`: they don't satisfy `Is`, whatever bytes follow.
abbrev pub IsPatternFault : (List ℕ → Type 0) → List ℕ → PatternFault → Type 0
IsPatternFault Is bytes Incomplete = (more : List ℕ) × (more ≢ []) × Is (bytes ++ more)
IsPatternFault Is bytes Mismatch = (more : List ℕ) → ¬ (Is (bytes ++ more))

-- The byte at `position`, counted from 1, is the first wrong byte in the order's head. Some head begins with the bytes
-- before this byte, but none begins with the bytes up to and including it. If the order ends within its head,
-- `position` is one past the order's last byte.
pub record IsOrderHeadFault (s : Day) (order : List ℕ) (position : ℕ) : Type 0 where
  pub before : List ℕ
  pub rest : List ℕ
  pub joined : order ≡ before ++ rest
  pub size : position ≡ length before + 1
  pub begins : IsPatternFault (IsAnyOrderHead s) before Incomplete
  pub stops : (byte : ℕ) (after more : List ℕ) → rest ≡ byte ∷ after → ¬ (IsAnyOrderHead s (before ++ byte ∷ more))
