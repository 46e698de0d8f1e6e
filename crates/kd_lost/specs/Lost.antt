-- The letters that may have been sent if letters were lost on the air. A lost letter is a `?` or `-`, a small letter
-- means its capital letter, and a tab means a space.
-- Code: the reader puts A in place of each lost letter, deciphers, and leaves out the deciphered letters at these
-- places.
-- Test: tests/messages-as-worked
use Rattle.std.specs.Prelude.{◌≡◌, ℕ, ◌-◌, ◌<◌, ◌==◌, ◌&&◌, ◌||◌, nat_le, Bool, IsTrue, IsFalse, if◌then◌else◌}
use Rattle.std.specs.Prelude.{List, [], ◌∷◌, map, filter_map, Option, Some, None, option_map, unwrap_or}
use Rattle.kd_tables.specs.Text.{is_capital}
use Rattle.kd_form.specs.Sending.{letter_of_byte}

-- ---- Bytes.

-- whether the byte stands for a lost letter: `?` or `-`
abbrev pub is_lost : ℕ → Bool
is_lost byte = byte == 63 || byte == 45

-- the byte that `byte` means: the capital letter for a small letter, a space for a tab, otherwise `byte` itself
abbrev pub meant_byte : ℕ → ℕ
meant_byte byte = if nat_le 97 byte && nat_le byte 122 then byte - 32 else if byte == 9 then 32 else byte

-- The byte `sent` may have been sent where `byte` was received. For a lost letter, `sent` is any capital letter;
-- otherwise `sent` is `meant_byte byte`.
pub data MayHaveBeen (byte sent : ℕ) : Type 0 where
  AnyLetter : IsTrue (is_lost byte) → IsTrue (is_capital sent) → MayHaveBeen byte sent
  AsReceived : IsFalse (is_lost byte) → sent ≡ meant_byte byte → MayHaveBeen byte sent

-- `whole` is a completion of the bytes `received`. For each received byte, `whole` has a byte that may have been sent
-- at this place.
abbrev pub IsCompletion : List ℕ → List ℕ → Type 0
IsCompletion [] [] = Unit {0}
IsCompletion (byte ∷ received) (sent ∷ whole) = MayHaveBeen byte sent × IsCompletion received whole
IsCompletion [] (sent ∷ whole) = ⊥
IsCompletion (byte ∷ received) [] = ⊥

-- ---- Letters: `None` is a lost one.

-- the letter that a byte of a body stands for; `Some None` for a lost letter, `None` if the byte isn't a letter
abbrev pub received_letter : ℕ → Option (Option ℕ)
received_letter byte = if is_lost byte then Some None else option_map Some (letter_of_byte None (meant_byte byte))

-- the letters of a body as they were received
abbrev pub received_letters : List ℕ → List (Option ℕ)
received_letters body = filter_map received_letter body

-- `letter` is the received letter or, if the received letter is lost, any letter.
abbrev pub IsLetterFor : Option ℕ → ℕ → Type 0
IsLetterFor None letter = letter < 26
IsLetterFor (Some got) letter = letter ≡ got

-- `whole` is the received text with some letter in place of each lost letter.
abbrev pub Completes : List (Option ℕ) → List ℕ → Type 0
Completes [] [] = Unit {0}
Completes (got ∷ received) (letter ∷ whole) = IsLetterFor got letter × Completes received whole
Completes [] (letter ∷ whole) = ⊥
Completes (got ∷ received) [] = ⊥

-- `text`, with `None` at each place where `received` has a lost letter
abbrev pub covered : List (Option ℕ) → List ℕ → List (Option ℕ)
covered (got ∷ received) (letter ∷ text) = option_map (λ _. letter) got ∷ covered received text
covered [] text = []
covered (got ∷ received) [] = []

-- ---- What the code holds. No public contract cites this definition.

-- `received`, with A in place of each lost letter
abbrev pub filled : List (Option ℕ) → List ℕ
filled received = map (λ got. unwrap_or got 0) received
