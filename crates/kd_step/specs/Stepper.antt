-- One step of the wheels: the letters in the windows decide which wheels move. Wheels are counted from the right: 0 is
-- the right wheel, 1 the middle wheel, 2 the left wheel. On the M4, 3 is the Greek wheel, which never moves.
-- Source: the published accounts of the stepping, with its double step.
-- Code: `Stepper` keeps a table of notches for the middle wheel, and one for the right wheel.
-- Test: wheels_step
use Rattle.std.specs.Prelude.{◌≡◌, ◌↔◌, ℕ, zero, suc, ◌+◌, ◌-◌, ◌%◌, ◌≤◌, List, ◌++◌, length, take, drop, map}
use Rattle.std.specs.Prelude.{slice_get, slice_index, Bool, false, IsTrue, IsFalse, if◌then◌else◌}
use Rattle.std.specs.Option.{option_map_or}
use Rattle.kd_tables.specs.Tables.{is_notch}
use Rattle.kd_tables.specs.declared.wheel.Wheel.{Wheel}

-- A stepper as contracts describe it: its wheels, and the letters in their windows. Both lists begin at the left.
pub record Stepping : Type 0 where
  pub wheels : List Wheel
  pub window : List ℕ

-- the next letter, with A after Z
abbrev pub next_letter : ℕ → ℕ
next_letter letter = (letter + 1) % 26

-- whether wheel `from_right` is at one of its notches; 0 is the right wheel, and 1 is the middle wheel
abbrev pub stands_at_notch : List Wheel → List ℕ → ℕ → Bool
stands_at_notch wheels window from_right =
    let index = length window - (from_right + 1) in
    option_map_or (λ wheel. is_notch wheel (slice_index window index)) (slice_get wheels index) false

-- `window`, after each of its last `count` letters has become the next letter: A becomes B, and Z becomes A
abbrev pub with_last_moved : ℕ → List ℕ → List ℕ
with_last_moved count window = take (length window - count) window
    ++ map next_letter (drop (length window - count) window)

-- One step leads from the window `before` to the window `after`. If the middle wheel is at a notch, the left, middle
-- and right wheels move. Otherwise, if the right wheel is at a notch, the middle and right wheels move. If neither is
-- at a notch, only the right wheel moves.
pub record IsStep (wheels : List Wheel) (before after : List ℕ) : Type 0 where
  pub from_middle_notch : IsTrue (stands_at_notch wheels before 1) → after ≡ with_last_moved 3 before
  pub from_right_notch : IsFalse (stands_at_notch wheels before 1) → IsTrue (stands_at_notch wheels before 0)
      → after ≡ with_last_moved 2 before
  pub from_no_notch : IsFalse (stands_at_notch wheels before 1) → IsFalse (stands_at_notch wheels before 0)
      → after ≡ with_last_moved 1 before

-- ---- Several steps: a relation between the first and the last window, and a function for the ciphers.
-- Code: `Stepper` overwrites the letters of its window at each step.

-- `n` steps, one after another, change the window from `first` to `last`.
abbrev pub LeadsInSteps : List Wheel → List ℕ → ℕ → List ℕ → Type 0
LeadsInSteps wheels first zero last = last ≡ first
LeadsInSteps wheels first (suc n) last =
    (between : List ℕ) × LeadsInSteps wheels first n between × IsStep wheels between last

-- the window after one step from `window`
abbrev pub next_window : List Wheel → List ℕ → List ℕ
next_window wheels window =
    if stands_at_notch wheels window 1 then with_last_moved 3 window
    else (if stands_at_notch wheels window 0 then with_last_moved 2 window else with_last_moved 1 window)

-- the window after `n` steps from `window`
abbrev pub window_after : List Wheel → List ℕ → ℕ → List ℕ
window_after wheels window zero = window
window_after wheels window (suc n) = next_window wheels (window_after wheels window n)

-- From each window, `n` steps lead to exactly one window: the window that `window_after` gives.
abbrev pub ChainsEndInWindowAfter : Type 0
ChainsEndInWindowAfter =
    (wheels : List Wheel) (first last : List ℕ) (n : ℕ)
    → LeadsInSteps wheels first n last ↔ (last ≡ window_after wheels first n)

-- If a step doesn't move the middle wheel, it moves only the right wheel.
abbrev pub SlowWheelsMoveTogether : Type 0
SlowWheelsMoveTogether =
    (wheels : List Wheel) (before after : List ℕ) → IsStep wheels before after → 3 ≤ length before
    → slice_index after (length before - 2) ≡ slice_index before (length before - 2)
    → take (length after - 1) after ≡ take (length before - 1) before
