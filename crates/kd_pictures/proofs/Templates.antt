-- Values filled into a template.
use Rattle.std.proofs.Common.{◌≡◌, ℕ, Bool, List, [], ◌∷◌, ◌++◌, Option, map, sym, subst, refl, length, ◌<◌, arith}
use Rattle.std.specs.List.{before_first, after_first}
use Rattle.kd_language.specs.declared.language.Language.{Language}
use Rattle.kd_pictures.specs.declared.template.Value.{Value}
unfoldable use Rattle.kd_language.specs.Template.{filled}
use Rattle.kd_language.specs.Template.{is_gap}
use Rattle.kd_pictures.specs.Template.{value_text}
use Rattle.kd_pictures.specs.Drawing.{Draws}
use Rattle.kd_pictures.proofs.Drawings.{Draws_then}

-- The first piece of a template, the first value, and the rest of the template filled with the other values.
pub fills_next : {W : Type 0} (taken : W → Option (List ℕ)) (failed : W → Bool) (start next after end : W)
    (l : Language) (template piece rest : List ℕ) (values more : List Value) (value : Value)
    → piece ≡ before_first is_gap template → rest ≡ after_first is_gap template
    → Draws taken failed start next piece → Draws taken failed next after (value_text l value)
    → Draws taken failed after end (filled rest (map (value_text l) more))
    → values ≡ value ∷ more → Draws taken failed start end (filled template (map (value_text l) values))
unfolding filled
fills_next taken failed start next after end l template piece rest values more value cut left one two three is =
    rw (is, ← cut, ← left) (Draws_then taken failed start after end (piece ++ value_text l value) _
    (Draws_then taken failed start next after piece (value_text l value) one two) three)

-- Without values, a template is written as it is.
pub filled-none : (template : List ℕ) → filled template [] ≡ template
unfolding filled
filled-none template = refl

pub fills_none : {W : Type 0} (taken : W → Option (List ℕ)) (failed : W → Bool) (old new : W) (l : Language) (template : List ℕ)
    (values : List Value) → length values < 1 → Draws taken failed old new template
    → Draws taken failed old new (filled template (map (value_text l) values))
fills_none taken failed old new l template [] none draws =
    subst (Draws taken failed old new) (sym (filled-none template)) draws
fills_none taken failed old new l template (value ∷ values) none draws = absurd (omega arith)
