-- The first wrong sign of a part's body: a byte that isn't allowed in a body. Its position has three numbers: its line,
-- its place among the letters of this line, and its place among all letters of the body.
-- Test: tests/cases/curator-messages.toml
use Rattle.std.specs.Prelude.{◌≡◌, ◌⊎◌, ℕ, ◌+◌, ◌==◌, IsTrue, IsFalse, List, [], ◌∷◌, ◌++◌, length, All}
use Rattle.std.specs.Prelude.{Option, MatchOption}
use Rattle.std.specs.List.{count_by}
use Rattle.kd_tables.specs.LineWords.{IsWithout}
use Rattle.kd_lost.specs.declared.wrong_sign.WrongSign.{WrongSign}
use Rattle.kd_lost.specs.Lost.{received_letters}
use Rattle.kd_lost.specs.DamagedPart.{is_body_byte}

-- `line` is the last line of `bytes`: whole lines stand before it, and no LF stands in it.
pub record IsLastLine (bytes line : List ℕ) : Type 0 where
  pub before : List ℕ
  pub joined : bytes ≡ before ++ line
  pub whole : (before ≡ []) ⊎ ((front : List ℕ) × (before ≡ front ++ 10 ∷ []))
  pub without : IsWithout 10 line

-- `front` is a prefix of a body, and each byte of `front` is allowed in a body. `front` ends on line `number` of the
-- part, before letter `letter` of this line. The body begins on line 2.
pub record IsReadTo (front : List ℕ) (number letter : ℕ) : Type 0 where
  pub line : List ℕ
  pub allowed : All (λ byte. IsTrue (is_body_byte byte)) front
  pub last : IsLastLine front line
  pub on_line : number ≡ count_by (λ byte. byte == 10) front + 2
  pub at_letter : letter ≡ length (received_letters line) + 1

-- `sign` describes the first byte of `body` that isn't allowed in a body. It has this byte, its line, and its places
-- among the letters of the line and of the body.
pub record IsWrongSign (body : List ℕ) (sign : WrongSign) : Type 0 where
  pub front : List ℕ
  pub rest : List ℕ
  pub joined : body ≡ front ++ sign.byte ∷ rest
  pub before : IsReadTo front sign.line sign.letter
  pub at_place : sign.place ≡ length (received_letters front) + 1
  pub wrong : IsFalse (is_body_byte sign.byte)

-- `sign` is the first wrong sign of `body`; `None` if there is none.
abbrev pub IsFirstWrongSign : List ℕ → Option WrongSign → Type 0
IsFirstWrongSign body sign = MatchOption sign (All (λ byte. IsTrue (is_body_byte byte)) body) (IsWrongSign body)
