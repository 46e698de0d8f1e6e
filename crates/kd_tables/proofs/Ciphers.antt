-- Ciphers that encipher a text letter by letter.
use Rattle.std.proofs.Common.{All, List, [], add-one, add-zero, ap, arith, drop, get_or, length, map, refl, set, suc}
use Rattle.std.proofs.Common.{sym, take, zero, ℕ, ◌++◌, ◌+◌, ◌<◌, ◌∙◌, ◌∷◌, ◌≡◌}
use Rattle.std.{proofs.lemmas.List.Elements.{All-head, All-tail}, specs.List.{enumerate_from}}

-- the ciphertext of `text` if its first letter has the number `start`; `letter_at n x` is the ciphertext of `x` as
-- letter `n`
abbrev pub enciphered : (ℕ → ℕ → ℕ) → ℕ → List ℕ → List ℕ
enciphered letter_at start text = map (λ numbered. letter_at numbered.0 numbered.1) (enumerate_from start text)

pub enciphered-append : (letter_at : ℕ → ℕ → ℕ) (start : ℕ) (first rest : List ℕ)
    → enciphered letter_at start (first ++ rest)
    ≡ enciphered letter_at start first ++ enciphered letter_at (start + length first) rest
enciphered-append letter_at start [] rest = ap (λ n. enciphered letter_at n rest) (sym (add-zero start))
enciphered-append letter_at start (letter ∷ first) rest =
    grind (arith, letter_at, enciphered-append letter_at (start + 1) first rest)

-- If enciphering a letter twice gives it back, so does enciphering a text twice.
pub enciphered-twice : (letter_at : ℕ → ℕ → ℕ) (start : ℕ) (text : List ℕ)
    → ((n letter : ℕ) → letter < 26 → letter_at n (letter_at n letter) ≡ letter) → All (λ letter. letter < 26) text
    → enciphered letter_at start (enciphered letter_at start text) ≡ text
enciphered-twice letter_at start [] back h = refl
enciphered-twice letter_at start (letter ∷ text) back h =
    ap (λ l. l ∷ enciphered letter_at (start + 1) (enciphered letter_at (start + 1) text))
    (back start letter (All-head (λ l. l < 26) letter text h))
    ∙ ap (λ ls. letter ∷ ls) (enciphered-twice letter_at (start + 1) text back (All-tail (λ l. l < 26) letter text h))

-- `cipher key` enciphers a text with a key, and `after key n` is the key after `n` letters. If a text can be enciphered
-- in two chunks, then enciphering the letters from place `n` on is enciphering letter `n` in place, and then the
-- letters after it with the key after one letter.
pub cipher-set : {K : Type 0} (cipher : K → List ℕ → List ℕ) (after : K → ℕ → K)
    → ((key : K) (first rest : List ℕ)
    → cipher key (first ++ rest) ≡ cipher key first ++ cipher (after key (length first)) rest)
    → (key : K) (text : List ℕ) (n d become : ℕ) → n < length text → cipher key (get_or text n d ∷ []) ≡ become ∷ []
    → take n text ++ cipher key (drop n text)
    ≡ take (n + 1) (set text n become) ++ cipher (after key 1) (drop (n + 1) (set text n become))
cipher-set cipher after in_turn key [] n d become lt e = absurd (omega arith)
cipher-set cipher after in_turn key (letter ∷ text) zero d become lt e =
    in_turn key (letter ∷ []) text ∙ ap (λ l. l ++ cipher (after key 1) text) e
cipher-set cipher after in_turn key (letter ∷ text) (suc n) d become lt e =
    let rest = cipher-set cipher after in_turn key text n d become (omega arith) e in
    rw (add-one (suc n)) (ap (λ l. letter ∷ l) (rw (add-one n) at rest))
