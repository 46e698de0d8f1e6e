-- The cipher of a rotor machine, letter by letter.
use Rattle.std.proofs.Common.{List, [], add-suc, add-zero, ap, arith, length, map, refl}
use Rattle.kd_enigma.proofs.{Cables.pairs_make_a_plugboard, Ways.{path_exchanges, paths_lead_back, paths_move_each_letter}}
use Rattle.kd_tables.proofs.Ciphers.{enciphered-append, enciphered-twice}
use Rattle.kd_enigma.{specs.Laws.{EnigmaCipherOfChunks, EnigmaKeyAfterChunks, EnigmaTwiceGivesBack}}
use Rattle.kd_enigma.specs.Laws.{PairedPathsLeadBack, PairedKeysGiveBack, key_with_pairs}
use Rattle.kd_enigma.specs.Cipher.{RotorKey, enigma_cipher, key_after, key_turned, path}
use Rattle.{kd_step.specs.Stepper.{next_window, window_after}, kd_tables.specs.declared.wheel.Wheel.Wheel}
use Rattle.std.proofs.Common.{rules, slice_index, suc, sym, zero, ℕ, ◌++◌, ◌+◌, ◌∙◌, ◌∷◌, ◌≡◌}
use Rattle.std.{specs.List.enumerate_from}

-- `lit_letter` is the letter that lights up after `steps` steps; `cipher_from` is the ciphertext of `text` if its
-- first letter is enciphered after `start` steps
abbrev lit_letter : RotorKey → ℕ → ℕ → ℕ
lit_letter key steps letter = slice_index (path key (window_after key.wheels key.window steps)) letter

abbrev cipher_from : RotorKey → ℕ → List ℕ → List ℕ
cipher_from key start text = map (λ numbered. lit_letter key numbered.0 numbered.1) (enumerate_from start text)

-- Turning a key's wheels doesn't change its path at the window `shown`.
pub path_turned : (key : RotorKey) (window shown : List ℕ) → path (key_turned key window) shown ≡ path key shown
unfolding path
path_turned key window shown = refl

pub twice_gives_back : EnigmaTwiceGivesBack
twice_gives_back key text board =
    enciphered-twice (lit_letter key) 1 text
    (λ n. (path_exchanges key (window_after key.wheels key.window n) board).back)

-- ---- keys whose plugboard is given by its pairs

pub paired_paths_lead_back : PairedPathsLeadBack
paired_paths_lead_back key pairs window are =
    let board = pairs_make_a_plugboard pairs are.once are.letters in
    (paths_lead_back (key_with_pairs key pairs) window board, paths_move_each_letter (key_with_pairs key pairs) window board)

pub paired_keys_give_back : PairedKeysGiveBack
paired_keys_give_back key pairs text are =
    twice_gives_back (key_with_pairs key pairs) text (pairs_make_a_plugboard pairs are.once are.letters)

-- ---- a text in two chunks

window_after_sum : (wheels : List Wheel) (window : List ℕ) (m n : ℕ)
    → window_after wheels (window_after wheels window m) n ≡ window_after wheels window (m + n)
window_after_sum wheels window m zero = ap (window_after wheels window) (sym (add-zero m))
window_after_sum wheels window m (suc n) =
    ap (next_window wheels) (window_after_sum wheels window m n) ∙ ap (window_after wheels window) (sym (add-suc m n))

pub key_in_turn : EnigmaKeyAfterChunks
key_in_turn key m n = ap (key_turned key) (window_after_sum key.wheels key.window m n)

-- A text that begins `m` steps later is enciphered with the key after `m` steps.
cipher_from-add : (key : RotorKey) (m start : ℕ) (text : List ℕ)
    → cipher_from key (m + start) text ≡ cipher_from (key_after key m) start text
cipher_from-add key m start [] = refl
cipher_from-add key m start (letter ∷ text) = search
    (rules, key, window_after_sum, path_turned, cipher_from-add key m (start + 1) text)

pub cipher_in_turn : EnigmaCipherOfChunks
cipher_in_turn key first rest =
    enciphered-append (lit_letter key) 1 first rest
    ∙ ap (λ ls. enigma_cipher key first ++ ls)
    (ap (λ n. cipher_from key n rest) (omega arith) ∙ cipher_from-add key (length first) 1 rest)
