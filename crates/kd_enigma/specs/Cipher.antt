-- The key of a rotor machine before and after key presses, the current's path, and the cipher.
-- Code: `Enigma` has a field for each part of the key, but keeps the window letters in its field `stepper`.
-- Test: the_rings_do_not_turn_the_notches
use Rattle.std.specs.Prelude.{ℕ, List, [], ◌∷◌, ◌++◌, map, reverse, slice_index}
use Rattle.std.specs.List.{enumerate_from}
use Rattle.kd_tables.specs.Permutation.{alphabet, followed_by, inverse, IsPermutation26, IsOwnInverse}
use Rattle.kd_tables.specs.Tables.{reflector_of}
use Rattle.kd_tables.specs.declared.wheel.Wheel.{Wheel}
use Rattle.kd_tables.specs.declared.reflector.Reflector.{Reflector}
use Rattle.kd_step.specs.Stepper.{window_after}
use Rattle.kd_enigma.specs.Rotor.{rotor}

-- A rotor machine's key. The lists of wheels, rings and window letters are in order from the left; `plugs` is the
-- plugboard's permutation.
pub record RotorKey : Type 0 where
  pub wheels : List Wheel
  pub rings : List ℕ
  pub window : List ℕ
  pub reflector : Reflector
  pub plugs : List ℕ

-- The plugboard exchanges letters: it is a permutation that is its own inverse.
pub record IsPlugboard (plugs : List ℕ) : Type 0 where
  pub permutation : IsPermutation26 plugs
  pub own_inverse : IsOwnInverse plugs

-- `key` with the window letters `window` instead of its own
abbrev pub key_turned : RotorKey → List ℕ → RotorKey
key_turned key window = record key { window = window }

-- `key` after `n` key presses, each of which steps the wheels once
abbrev pub key_after : RotorKey → ℕ → RotorKey
key_after key n = key_turned key (window_after key.wheels key.window n)

-- ---- The current's path as a product of permutations, and the cipher that steps the wheels before each letter.
-- Source: the published accounts of the current's path.
-- Code: `Enigma` keeps the whole path as one table, for the letters that the windows show now. Each step makes this
-- table anew.
-- Test: tests/refusals

-- for each wheel, its permutation at the given ring letter and window letter; all lists are in order from the left
unfoldable pub rotors : List Wheel → List ℕ → List ℕ → List (List ℕ)
rotors (wheel ∷ wheels) (ring ∷ rings) (letter ∷ window) = rotor wheel ring letter ∷ rotors wheels rings window
rotors _ _ _ = []

-- the product of a list of permutations; the first in the list is applied first
unfoldable pub product : List (List ℕ) → List ℕ
product [] = alphabet
product (p ∷ ps) = followed_by p (product ps)

-- the current's path: plugboard, wheels from right to left, reflector, wheels from left to right, plugboard
unfoldable pub path : RotorKey → List ℕ → List ℕ
path key window =
    let wheels = rotors key.wheels key.rings window in
    product (key.plugs ∷ reverse wheels ++ reflector_of key.reflector ∷ map inverse wheels ++ key.plugs ∷ [])

-- The ciphertext of `text`. The wheels step before each letter, so the first letter takes the path after one step.
abbrev pub enigma_cipher : RotorKey → List ℕ → List ℕ
enigma_cipher key text =
    map (λ numbered. slice_index (path key (window_after key.wheels key.window numbered.0)) numbered.1)
    (enumerate_from 1 text)
