-- The Converter's cipher, letter by letter.
use Rattle.std.proofs.Common.{List, [], ap, arith, length, map, refl}
use Rattle.{kd_drum.proofs.WheelsAfterLetters.{bars_met_sum}, kd_tables.proofs.Ciphers.{enciphered-append, enciphered-twice}}
use Rattle.kd_drum.{specs.Converter.{PinKey, bars_met, converter_cipher, pin_key_after}}
use Rattle.{kd_drum.specs.Laws.{ConverterCipherOfChunks, ConverterTwiceGivesBack}}
use Rattle.std.{proofs.Common.{sym, ℕ, ◌%◌, ◌++◌, ◌+◌, ◌-◌, ◌<◌, ◌∙◌, ◌∷◌, ◌≡◌}, specs.List.enumerate_from}

-- what `letter` is enciphered to if `met` bars are met
abbrev pub reversed_by : ℕ → ℕ → ℕ
reversed_by met letter = (25 + met - letter) % 26

-- the ciphertext of `text` if its first letter is enciphered after `start` other letters
abbrev pub cipher_from : PinKey → ℕ → List ℕ → List ℕ
cipher_from key start text =
    map (λ numbered. reversed_by (bars_met key numbered.0) numbered.1) (enumerate_from start text)

-- Enciphering a letter twice gives it back, if the same number of bars is met both times.
reversed_twice : (met letter : ℕ) → letter < 26 → reversed_by met (reversed_by met letter) ≡ letter
reversed_twice met letter lt = omega arith

pub twice_gives_back : ConverterTwiceGivesBack
twice_gives_back key text =
    enciphered-twice (λ n. reversed_by (bars_met key n)) 0 text (λ n. reversed_twice (bars_met key n))

-- A text that begins `m` letters later is enciphered with the key after `m` letters.
cipher_from-add : (key : PinKey) (m start : ℕ) (text : List ℕ)
    → cipher_from key (m + start) text ≡ cipher_from (pin_key_after key m) start text
cipher_from-add key m start [] = refl
cipher_from-add key m start (letter ∷ text) =
    let place : m + start + 1 ≡ m + (start + 1) = omega arith in
    let rest = ap (λ n. cipher_from key n text) place ∙ cipher_from-add key m (start + 1) text in
    λ i. reversed_by (sym (bars_met_sum key m start) i) letter ∷ rest i

pub cipher_in_turn : ConverterCipherOfChunks
cipher_in_turn key first rest =
    enciphered-append (λ n. reversed_by (bars_met key n)) 0 first rest
    ∙ ap (λ ls. converter_cipher key first ++ ls)
    (ap (λ n. cipher_from key n rest) (omega arith) ∙ cipher_from-add key (length first) 0 rest)
