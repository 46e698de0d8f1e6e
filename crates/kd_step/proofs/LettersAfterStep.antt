-- The letters of a window after a step: which move and which stay.
use Rattle.std.proofs.Common.{◌≡◌, ℕ, ◌-◌, ◌<◌, ◌≤◌, Bool, true, false, List, refl, length, take, drop, map, get_or}
use Rattle.std.proofs.Common.{slice_index, ap, ◌∙◌, arith, length-append, length-drop}
use Rattle.std.proofs.lemmas.List.{get_or-append_right, get_or-map, get_or-drop, length-take-le, length-map}
use Rattle.std.proofs.lemmas.List.{take-append-le, take_all}
use Rattle.kd_tables.specs.declared.wheel.Wheel.{Wheel}
use Rattle.kd_step.specs.Stepper.{next_letter, with_last_moved, stands_at_notch, IsStep}

-- each of the last `count` letters becomes the next letter
slice_index-with_last_moved : (count : ℕ) (window : List ℕ) (slot : ℕ) → count ≤ length window
    → length window - count ≤ slot
    → slot < length window
    → slice_index (with_last_moved count window) slot ≡ next_letter (slice_index window slot)
slice_index-with_last_moved count window slot fits from within =
    let front = length window - count in
    let rest = drop front window in
    get_or-append_right (take front window) (map next_letter rest) front slot 0
    (length-take-le front window (omega arith)) from
    ∙ get_or-map next_letter rest (slot - front) 0 0 (omega (arith, length-drop front window))
    ∙ ap next_letter (get_or-drop front window (slot - front) 0 ∙ ap (λ k. get_or window k 0) (omega arith))

length-with_last_moved : (count : ℕ) (window : List ℕ) → count ≤ length window
    → length (with_last_moved count window) ≡ length window
length-with_last_moved count window fits =
    let front = length window - count in
    let rest = drop front window in
    omega (
      arith,
      length-append (take front window) (map next_letter rest),
      length-take-le front window (omega arith),
      length-map rest next_letter,
      length-drop front window,
    )

-- the letters of all wheels but the right one
abbrev slow_letters : List ℕ → List ℕ
slow_letters window = take (length window - 1) window

-- if a step leaves the middle wheel's letter, it leaves the letters of all wheels but the right one
pub slow_still : (wheels : List Wheel) (before after : List ℕ) → IsStep wheels before after → 3 ≤ length before
    → slice_index after (length before - 2) ≡ slice_index before (length before - 2)
    → slow_letters after ≡ slow_letters before
slow_still wheels before after step least same =
    at (stands_at_notch wheels before 1) (stands_at_notch wheels before 0) refl refl
  where
    no_other : (count : ℕ) → 2 ≤ count → count ≤ length before → after ≡ with_last_moved count before
        → slow_letters after ≡ slow_letters before
    no_other count some fits e =
        let moves : slice_index after (length before - 2) ≡ next_letter (slice_index before (length before - 2)) =
        ap (λ w. slice_index w (length before - 2)) e
        ∙ slice_index-with_last_moved count before (length before - 2) fits (omega arith) (omega arith) in
        absurd (omega arith)

    one : after ≡ with_last_moved 1 before → slow_letters after ≡ slow_letters before
    one e =
        let front = take (length before - 1) before in
        ap (λ n. take (n - 1) after) (ap length e ∙ length-with_last_moved 1 before (omega arith))
        ∙ ap (take (length before - 1)) e
        ∙ take-append-le (length before - 1) front (map next_letter (drop (length before - 1) before))
        (omega (arith, length-take-le (length before - 1) before (omega arith)))
        ∙ take_all (length before - 1) front (omega (arith, length-take-le (length before - 1) before (omega arith)))

    at : (middle right : Bool) → stands_at_notch wheels before 1 ≡ middle → stands_at_notch wheels before 0 ≡ right
        → slow_letters after ≡ slow_letters before
    at true right is_middle is_right = no_other 3 (omega arith) least (step.from_middle_notch is_middle)
    at false true not_middle is_right =
        no_other 2 (omega arith) (omega arith) (step.from_right_notch not_middle is_right)
    at false false not_middle not_right = one (step.from_no_notch not_middle not_right)
