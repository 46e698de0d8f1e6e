-- The internal key of the Converter M-209: a letter for each of its six wheels, picked from twelve enciphered
-- letters.
-- Source: War Department TM 11-380.
-- Code: `pick_internal_key` goes over the enciphered letters once.
-- Test: tests/cases/desk-messages.toml
use Rattle.std.specs.Prelude.{◌≡◌, ◌++◌, Contains, ◌⊎◌, ℕ, ◌+◌, ◌<◌, ◌≤◌, List, [], ◌∷◌, length, map, slice_index}
use Rattle.kd_tables.specs.Rings.{ring_of}
use Rattle.kd_state.specs.Machine.{AreOnWheels}

-- In the list, each place is greater than the place before it. All places are at least `first`, and below `end`.
abbrev pub AreRising : ℕ → ℕ → List ℕ → Type 0
AreRising first end [] = Unit {0}
AreRising first end (place ∷ places) = (first ≤ place) × (place < end) × AreRising (place + 1) end places

-- The list of places equals the list `others`, or comes before it in lexicographic order. For example, the places 0 2 9
-- come before 0 3 4.
abbrev pub PrecedesOrEquals : List ℕ → List ℕ → Type 0
PrecedesOrEquals [] others = Unit {0}
PrecedesOrEquals (place ∷ places) [] = ⊥
PrecedesOrEquals (place ∷ places) (other ∷ others) = (place < other)
    ⊎ ((place ≡ other) × PrecedesOrEquals places others)

-- `places` are in rising order, and `picked` are the letters of `letters` at these places. Six letters are picked:
-- the first is on wheel 1, the second on wheel 2, and so on.
pub record ArePicked (letters places picked : List ℕ) : Type 0 where
  pub rising : AreRising 0 (length letters) places
  pub taken : picked ≡ map (λ place. slice_index letters place) places
  pub on_wheels : AreOnWheels picked

-- `key` is the internal key, picked from `letters`: from wheel 1 on, each wheel takes the next letter that is on the
-- wheel. So the places of the six letters are the lexicographically first list of places that `ArePicked` allows.
pub record IsInternalKey (letters key : List ℕ) : Type 0 where
  pub places : List ℕ
  pub picked : ArePicked letters places key
  pub first : (others other : List ℕ) → ArePicked letters others other → PrecedesOrEquals places others

-- No internal key can be picked from these letters: no six places in the list satisfy `ArePicked`.
abbrev pub HaveNoInternalKey : List ℕ → Type 0
HaveNoInternalKey letters = (places picked : List ℕ) → ¬ (ArePicked letters places picked)

-- ---- What the code holds. No public contract cites this definition.

-- The list `key` has letters for the first wheels. If the next wheel has `letter`, the list `next` is `key` with
-- `letter` appended. Otherwise `next` equals `key`.
pub data IsTakenInTurn (key : List ℕ) (letter : ℕ) (next : List ℕ) : Type 0 where
  OnWheel : Contains (ring_of (length key + 1)) letter → next ≡ key ++ letter ∷ [] → IsTakenInTurn key letter next
  OffWheel : ¬ (Contains (ring_of (length key + 1)) letter) → next ≡ key → IsTakenInTurn key letter next
