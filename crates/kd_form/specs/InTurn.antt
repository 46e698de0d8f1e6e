-- How a list is tested item by item: the first item that fails gives the fault.
use Rattle.std.specs.Prelude.{ℕ, ◌+◌, List, [], ◌∷◌}
use Rattle.kd_state.specs.AnswerRules.{AnswerRule, ◌>>=◌, Yields}

-- The result of testing the items of a list in turn: success, or the fault of the first item that fails.
-- `Test n item` is the rule for the item with the number `n`. The first item has the number `number`, and the next
-- items count on from it.
abbrev pub InTurn : {F X : Type 0} → (ℕ → X → AnswerRule F (Unit {0})) → ℕ → List X → AnswerRule F (Unit {0})
InTurn Test number [] = Yields tt
InTurn Test number (item ∷ items) = do
  _ ← Test number item
  InTurn Test (number + 1) items
