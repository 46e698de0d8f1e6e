-- The copies of a Converter's key letters: the chosen letter comes four times in a part, and each external letter comes
-- twice.
-- Test: tests/cases/curator-messages.toml
use Rattle.std.specs.Prelude.{ℕ, ◌+◌, List, [], ◌∷◌, drop, All, Contains, Option, Some, None}
use Rattle.std.specs.Prelude.{slice_index_or}
use Rattle.kd_state.specs.AnswerRules.{AnswerRule, ◌>>=◌, Yields, Finds, Demands}
use Rattle.kd_form.specs.declared.keys.PinKeys.{PinKeys}
use Rattle.kd_lost.specs.declared.damage.PartDamage.{PartDamage}
use Rattle.kd_lost.specs.declared.damage.PartDamage.TheVariants.{CopiesDiffer, KeyLetterLost}
use Rattle.kd_lost.specs.Lost.{IsLetterFor}

-- All copies of a key letter are the same letter. Lost copies don't count.
abbrev pub HaveOneLetter : List (Option ℕ) → Type 0
HaveOneLetter copies = (letter : ℕ) × All (λ got. IsLetterFor got letter) copies

-- The answer for key letter `number`: the letter that its copies give, or the reason why they give no letter.
abbrev pub IsKeyLetterAnswer : ℕ → List (Option ℕ) → AnswerRule PartDamage ℕ
IsKeyLetterAnswer number copies = do
  _ ← Demands (HaveOneLetter copies) (CopiesDiffer number)
  Finds (λ letter. Contains copies (Some letter)) (KeyLetterLost number)

-- The key letters with the numbers `number`, `number + 1` and so on, or the first reason why one of them can't be
-- found. Each key letter has one copy in `start`, and one copy at the same place of `end`.
abbrev pub AreKeyLettersAnswer : ℕ → List (Option ℕ) → List (Option ℕ) → AnswerRule PartDamage (List ℕ)
AreKeyLettersAnswer number (one ∷ start) (other ∷ end) = do
  letter ← IsKeyLetterAnswer number (one ∷ other ∷ [])
  letters ← AreKeyLettersAnswer (number + 1) start end
  Yields (letter ∷ letters)
AreKeyLettersAnswer number [] end = Yields []
AreKeyLettersAnswer number (one ∷ start) [] = Yields []

-- the four copies of the chosen letter: the first two letters of `start`, and the first two letters of `end`
abbrev pub chosen_copies : List (Option ℕ) → List (Option ℕ) → List (Option ℕ)
chosen_copies start end =
    slice_index_or start 0 None ∷ slice_index_or start 1 None ∷ slice_index_or end 0 None ∷ slice_index_or end 1 None
    ∷ []

-- The answer for the keys of a Converter's part. The keys have two copies: `start` stands before the text, and `end`
-- stands after the text. The chosen letter comes first, as number 0. The external letters follow, with the numbers of
-- their wheels.
abbrev pub IsKeysAnswer : List (Option ℕ) → List (Option ℕ) → AnswerRule PartDamage PinKeys
IsKeysAnswer start end = do
  chosen ← IsKeyLetterAnswer 0 (chosen_copies start end)
  external ← AreKeyLettersAnswer 1 (drop 2 start) (drop 2 end)
  Yields (record { chosen = chosen; external = external })
