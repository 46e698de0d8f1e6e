-- Lines that are written one part after another.
use Rattle.std.proofs.Common.{ℕ, List, ◌++◌, ◌≡◌, ◌∙◌, ap, sym, append_assoc}
use Rattle.std.proofs.lemmas.List.Folds.{concat-append}
use Rattle.std.specs.List.{concat}

pub lines_joined : (before middle after : List ℕ) (a b : List (List ℕ)) → middle ≡ before ++ concat a
    → after ≡ middle ++ concat b → after ≡ before ++ concat (a ++ b)
lines_joined before middle after a b one two =
    two ∙ ap (λ text. text ++ concat b) one ∙ append_assoc before (concat a) (concat b)
    ∙ ap (λ text. before ++ text) (sym (concat-append a b))
