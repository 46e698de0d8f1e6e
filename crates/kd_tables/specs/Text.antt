-- Letters as ASCII codes, and the bytes that a message's text may have.
-- Test: tests/cases/desk-messages.toml
use Rattle.std.specs.Prelude.{ℕ, ◌+◌, nat_le, ◌==◌, Bool, ◌&&◌, ◌||◌, List, map}

-- the text of a list of letters: the ASCII code of each letter, as a capital letter
abbrev pub letters_text : List ℕ → List ℕ
letters_text letters = map (λ letter. letter + 65) letters

-- whether a byte is a capital letter of the alphabet
abbrev pub is_capital : ℕ → Bool
is_capital byte = nat_le 65 byte && nat_le byte 90

-- whether the byte is a space, a carriage return or a line feed
abbrev pub is_separator : ℕ → Bool
is_separator byte = byte == 32 || (byte == 13 || byte == 10)

-- whether the byte may be in a message's text: a capital letter or a separator
abbrev pub is_text_byte : ℕ → Bool
is_text_byte byte = is_capital byte || is_separator byte
