-- A chain of steps leads to `window_after`, and to no other window.
use Rattle.std.proofs.Common.{◌≡◌, ℕ, zero, suc, Bool, true, false, cond, List, refl, sym, ap, ◌∙◌}
use Rattle.kd_tables.specs.declared.wheel.Wheel.{Wheel}
use Rattle.kd_step.specs.Stepper.{stands_at_notch, IsStep, LeadsInSteps, next_window, window_after}

cond-true : {X : Type 0} (b : Bool) (x y : X) → b ≡ true → cond b x y ≡ x
cond-true true x y h = refl
cond-true false x y h = cc

cond-false : {X : Type 0} (b : Bool) (x y : X) → b ≡ false → cond b x y ≡ y
cond-false true x y h = cc
cond-false false x y h = refl

-- one step leads from `window` to `next_window`
pub IsStep-next_window : (wheels : List Wheel) (window : List ℕ) → IsStep wheels window (next_window wheels window)
IsStep-next_window wheels window =
    let middle = stands_at_notch wheels window 1 in
    let right = stands_at_notch wheels window 0 in
    record {
      from_middle_notch = λ is_middle. cond-true middle _ _ is_middle;
      from_right_notch = λ not_middle is_right. cond-false middle _ _ not_middle ∙ cond-true right _ _ is_right;
      from_no_notch = λ not_middle not_right. cond-false middle _ _ not_middle ∙ cond-false right _ _ not_right;
    }

next_window-by_notch : (wheels : List Wheel) (before after : List ℕ) → IsStep wheels before after
    → (middle right : Bool)
    → stands_at_notch wheels before 1 ≡ middle → stands_at_notch wheels before 0 ≡ right
    → after ≡ next_window wheels before
next_window-by_notch wheels before after step true right is_middle is_right =
    step.from_middle_notch is_middle ∙ sym ((IsStep-next_window wheels before).from_middle_notch is_middle)
next_window-by_notch wheels before after step false true not_middle is_right =
    step.from_right_notch not_middle is_right
    ∙ sym ((IsStep-next_window wheels before).from_right_notch not_middle is_right)
next_window-by_notch wheels before after step false false not_middle not_right =
    step.from_no_notch not_middle not_right
    ∙ sym ((IsStep-next_window wheels before).from_no_notch not_middle not_right)

-- one step leads to no window but `next_window`
pub next_window-only : (wheels : List Wheel) (before after : List ℕ) → IsStep wheels before after
    → after ≡ next_window wheels before
next_window-only wheels before after step = next_window-by_notch wheels before after step _ _ refl refl

pub window_after-only : (wheels : List Wheel) (first last : List ℕ) (n : ℕ) → LeadsInSteps wheels first n last
    → last ≡ window_after wheels first n
window_after-only wheels first last zero chain = chain
window_after-only wheels first last (suc n) chain =
    next_window-only wheels chain.0 last chain.2
    ∙ ap (next_window wheels) (window_after-only wheels first chain.0 n chain.1)

pub LeadsInSteps-window_after : (wheels : List Wheel) (first : List ℕ) (n : ℕ)
    → LeadsInSteps wheels first n (window_after wheels first n)
LeadsInSteps-window_after wheels first zero = refl
LeadsInSteps-window_after wheels first (suc n) = (
  window_after wheels first n,
  LeadsInSteps-window_after wheels first n,
  IsStep-next_window wheels (window_after wheels first n),
)
