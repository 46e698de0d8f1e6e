-- The laws of plugboards.
-- Source: the published accounts of the plugboard.
-- Test: tests/refusals
use Rattle.std.specs.Prelude.{◌≡◌, ◌↔◌, ◌⊎◌, ◌+◌, ◌<◌, ◌++◌, List, ℕ, length, All, Contains}
use Rattle.kd_tables.specs.Permutation.{exchanged, exchange, IsOwnInverse, MovesEachLetter}
use Rattle.kd_enigma.specs.Cipher.{RotorKey, IsPlugboard, key_after, path, enigma_cipher}
use Rattle.kd_enigma.specs.Plugs.{letters_in_pairs, NoLetterTwice, HavePairOf}

-- Pairs in which no letter occurs twice make a plugboard.
abbrev pub PairsMakeAPlugboard : Type 0
PairsMakeAPlugboard =
    (pairs : List (ℕ × ℕ)) → NoLetterTwice pairs → All (λ letter. letter < 26) (letters_in_pairs pairs)
    → IsPlugboard (exchange pairs)

-- On a plugboard, each letter of a pair becomes the pair's other letter. A letter that is in no pair becomes itself.
abbrev pub PairsExchange : Type 0
PairsExchange =
    (pairs : List (ℕ × ℕ)) (x y : ℕ) → NoLetterTwice pairs
    → (exchanged pairs x ≡ y) ↔ (HavePairOf pairs x y ⊎ ((x ≡ y) × ¬ Contains (letters_in_pairs pairs) x))

-- A plugboard doesn't depend on the order of its pairs, or on the order of a pair's letters.
abbrev pub SamePairsExchangeAlike : Type 0
SamePairsExchangeAlike =
    (ps qs : List (ℕ × ℕ)) → NoLetterTwice ps → NoLetterTwice qs → ((x y : ℕ) → HavePairOf ps x y ↔ HavePairOf qs x y)
    → exchange ps ≡ exchange qs

-- ---- The laws of the path and of the cipher.
-- Source: the published accounts of the current's path.

-- The current's path is its own inverse.
abbrev pub PathsAreOwnInverses : Type 0
PathsAreOwnInverses = (key : RotorKey) (window : List ℕ) → IsPlugboard key.plugs → IsOwnInverse (path key window)

-- The current's path maps no letter to itself.
abbrev pub PathsMoveEachLetter : Type 0
PathsMoveEachLetter = (key : RotorKey) (window : List ℕ) → IsPlugboard key.plugs → MovesEachLetter (path key window)

-- Enciphering twice with the same key gives the text back.
abbrev pub EnigmaTwiceGivesBack : Type 0
EnigmaTwiceGivesBack =
    (key : RotorKey) (text : List ℕ) → IsPlugboard key.plugs → All (λ letter. letter < 26) text
    → enigma_cipher key (enigma_cipher key text) ≡ text

-- ---- The laws of the path and of the cipher if the plugboard is made from pairs of letters.

-- The pairs can be plugged: their letters are letters from A to Z, and no letter occurs twice.
pub record ArePairs (pairs : List (ℕ × ℕ)) : Type 0 where
  pub letters : All (λ letter. letter < 26) (letters_in_pairs pairs)
  pub once : NoLetterTwice pairs

-- `key` with a plugboard that exchanges the two letters of each pair
abbrev pub key_with_pairs : RotorKey → List (ℕ × ℕ) → RotorKey
key_with_pairs key pairs = record key { plugs = exchange pairs }

-- If the plugboard is made from pairs of letters, the current's path is its own inverse, and maps no letter to itself.
abbrev pub PairedPathsLeadBack : Type 0
PairedPathsLeadBack =
    (key : RotorKey) (pairs : List (ℕ × ℕ)) (window : List ℕ) → ArePairs pairs
    → IsOwnInverse (path (key_with_pairs key pairs) window) × MovesEachLetter (path (key_with_pairs key pairs) window)

-- Enciphering twice with the same key gives the text back.
abbrev pub PairedKeysGiveBack : Type 0
PairedKeysGiveBack =
    (key : RotorKey) (pairs : List (ℕ × ℕ)) (text : List ℕ) → ArePairs pairs → All (λ letter. letter < 26) text
    → enigma_cipher (key_with_pairs key pairs) (enigma_cipher (key_with_pairs key pairs) text) ≡ text

-- ---- A text in chunks.

-- The text `first ++ rest` can be enciphered in two chunks. The key for `rest` is the key after the letters of
-- `first`.
abbrev pub EnigmaCipherOfChunks : Type 0
EnigmaCipherOfChunks =
    (key : RotorKey) (first rest : List ℕ)
    → enigma_cipher key (first ++ rest) ≡ enigma_cipher key first ++ enigma_cipher (key_after key (length first)) rest

-- `m` key presses and then `n` more lead to the same key as `m + n` key presses.
abbrev pub EnigmaKeyAfterChunks : Type 0
EnigmaKeyAfterChunks = (key : RotorKey) (m n : ℕ) → key_after (key_after key m) n ≡ key_after key (m + n)
