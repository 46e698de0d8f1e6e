-- What holds of each setting that an item gives holds of all settings that a list of items gives.
use Rattle.std.proofs.Common.{◌≡◌, ℕ, zero, suc, ◌+◌, Bool, true, false, not, List, [], ◌∷◌, ◌++◌, map, zip, All}
use Rattle.std.proofs.Common.{Contains, arith, refl, ap, subst, Some, None, get_or, flat_map}
use Rattle.std.specs.Prelude.{Option, option_map, slice_get, if◌then◌else◌}
use Rattle.std.specs.Option.{option_map_or}
use Rattle.std.proofs.lemmas.List.Elements.{All-append, All-contains_itself, All-cons, All-filter, All-map, All-nil}
use Rattle.std.proofs.lemmas.List.Elements.{filter_passes}
use Rattle.kd_tables.specs.{Pairs.has_letter}
use Rattle.kd_state.specs.declared.setting.Setting.{Setting}
use Rattle.kd_state.proofs.Slots.{has_letter-Decides}
use Rattle.kd_card.specs.Loose.{lines_from, setting_unless}
use Rattle.kd_card.proofs.Leading.Counting.{lines_of_each}
use Rattle.kd_plan.specs.Moves.{letters_outside}

-- an item of two lists side by side has an item of each
pub slice_get-zip : {A B : Type 0} (xs : List A) (ys : List B) (k : ℕ) (z : A × B) → slice_get (zip xs ys) k ≡ Some z
    → (slice_get xs k ≡ Some z.0) × (slice_get ys k ≡ Some z.1)
slice_get-zip [] ys k z is = absurd (cc)
slice_get-zip (x ∷ xs) [] k z is = absurd (cc)
slice_get-zip (x ∷ xs) (y ∷ ys) zero z is = (ap (option_map (λ v. v.0)) is, ap (option_map (λ v. v.1)) is)
slice_get-zip (x ∷ xs) (y ∷ ys) (suc k) z is = slice_get-zip xs ys k z is

module _ (P : Setting → Type 0) where
  All-lines_from : {Z : Type 0} (lines : ℕ → Z → List Setting) (number : ℕ) (zs : List Z)
      → ((k n : ℕ) (z : Z) → n ≡ k + number → slice_get zs k ≡ Some z → All P (lines n z))
      → All P (lines_from lines number zs)
  All-lines_from lines number [] each = All-nil P
  All-lines_from lines number (z ∷ zs) each =
      All-append P (lines number z) _ (each zero number z (omega arith) refl)
      (All-lines_from lines (number + 1) zs (λ k n v e at. each (suc k) n v (omega (arith, e)) at))

  -- the settings of each item and its number, which counts from 1
  pub All-lines : {Z : Type 0} (lines : ℕ → Z → List Setting) (zs : List Z)
      → ((k : ℕ) (z : Z) → slice_get zs k ≡ Some z → All P (lines (suc k) z)) → All P (lines_from lines 1 zs)
  All-lines lines zs each = All-lines_from lines 1 zs (λ k n z e at.
      let number : suc k ≡ n = omega (arith, e) in subst (λ i. All P (lines i z)) number (each k z at))

  -- the settings of each item
  pub All-flat_map : {Z : Type 0} (lines : Z → List Setting) (zs : List Z)
      → ((k : ℕ) (z : Z) → slice_get zs k ≡ Some z → All P (lines z)) → All P (flat_map lines zs)
  All-flat_map lines zs each = rw (lines_of_each lines zs 1) (All-lines (λ n z. lines z) zs each)

  pub All-unless : (so : Bool) (x : Setting) → (so ≡ false → P x) → All P (setting_unless so x)
  All-unless true x is = All-nil P
  All-unless false x is = All-cons P x [] (is refl) (All-nil P)

  pub All-option : {Z : Type 0} (lines : Z → List Setting) (one : Option Z)
      → ((z : Z) → one ≡ Some z → All P (lines z)) → All P (option_map_or lines one [])
  All-option lines None is = All-nil P
  All-option lines (Some z) is = is z refl

  pub All-either_order : (first : Bool) (xs ys : List Setting) → All P xs → All P ys
      → All P (if first then xs ++ ys else ys ++ xs)
  All-either_order true xs ys one two = All-append P xs ys one two
  All-either_order false xs ys one two = All-append P ys xs two one

  -- the settings of each letter that is in `letters`, but not in `others`
  pub All-letters_outside : (f : ℕ → Setting) (letters others : List ℕ)
      → ((letter : ℕ) → has_letter letters letter ≡ true → has_letter others letter ≡ false → P (f letter))
      → All P (map f (letters_outside letters others))
  All-letters_outside f letters others each =
      let outside = λ (letter : ℕ). not (has_letter others letter) in
      let kept = letters_outside letters others in
      All-map P f kept (λ k d lt.
      let has = All-filter outside (Contains letters) letters (All-contains_itself letters) k d lt in
      let passes = filter_passes outside letters k d lt in
      each (get_or kept k d) ((has_letter-Decides letters (get_or kept k d)).1 has) (grind (arith, passes)))
