-- The laws of the Converter's cipher.
use Rattle.std.specs.Prelude.{◌≡◌, ◌+◌, ◌<◌, ◌++◌, List, ℕ, length, All}
use Rattle.kd_drum.specs.Converter.{PinKey, pin_key_after, converter_cipher}

-- Enciphering twice with the same key gives the text back.
abbrev pub ConverterTwiceGivesBack : Type 0
ConverterTwiceGivesBack =
    (key : PinKey) (text : List ℕ) → All (λ letter. letter < 26) text
    → converter_cipher key (converter_cipher key text) ≡ text

-- The text `first ++ rest` can be enciphered in two chunks. The key for `rest` is the key after the letters of `first`.
abbrev pub ConverterCipherOfChunks : Type 0
ConverterCipherOfChunks =
    (key : PinKey) (first rest : List ℕ)
    → converter_cipher key (first ++ rest)
    ≡ converter_cipher key first ++ converter_cipher (pin_key_after key (length first)) rest

-- The key after `m` letters, and then after `n` more, is the key after `m + n` letters.
abbrev pub ConverterKeyAfterChunks : Type 0
ConverterKeyAfterChunks = (key : PinKey) (m n : ℕ) → pin_key_after (pin_key_after key m) n ≡ pin_key_after key (m + n)
