-- This crate's laws: typing on a machine's table gives the letters that the machine itself gives.
use Rattle.std.specs.Prelude.{◌≡◌, ◌<◌, List, ℕ, All}
use Rattle.kd_enigma.specs.Cipher.{RotorKey, enigma_cipher, key_turned}
use Rattle.kd_drum.specs.Converter.{PinKey, converter_cipher, pin_key_turned}
use Rattle.kd_typing.specs.PinTable.{pin_table, printed_text}
use Rattle.kd_typing.specs.TableText.{lines_text, pin_lines, pin_table_in, rotor_lines, rotor_table_in}
use Rattle.kd_typing.specs.RotorTable.{CanShow, rotor_table, typed_by}

-- Typing on the table of a rotor machine gives the machine's own ciphertext, whatever letters the windows show at the
-- start.
abbrev pub TypingOnRotorTable : Type 0
TypingOnRotorTable =
    (key : RotorKey) (window text : List ℕ) → CanShow key window → All (λ letter. letter < 26) text
    → typed_by (rotor_table key) window text ≡ enigma_cipher (key_turned key window) text

-- Typing on the table of a Converter's key gives the ciphertext of a Converter with this key. At the start, the wheels
-- may show any letters.
abbrev pub TypingOnPinTable : Type 0
TypingOnPinTable =
    (key : PinKey) (letters text : List ℕ) → All (λ letter. letter < 26) text
    → printed_text (pin_table key) letters text ≡ converter_cipher (pin_key_turned key letters) text

-- ---- The laws of tables as text.

-- A table that is written as text is read back as the same table. So typing on a table's text gives the same letters as
-- typing on the table itself.
abbrev pub RotorTablesAreRead : Type 0
RotorTablesAreRead = (key : RotorKey) → rotor_table_in (lines_text (rotor_lines (rotor_table key))) ≡ rotor_table key

abbrev pub PinTablesAreRead : Type 0
PinTablesAreRead = (key : PinKey) → pin_table_in (lines_text (pin_lines (pin_table key))) ≡ pin_table key
