-- The meaning of a `do` block: its steps run in order. The first step that gives `None` ends the block, and the block
-- gives `None`, too.
-- Code: `?` returns `None`.
use Rattle.std.specs.Prelude.{Option}
use Rattle.std.specs.Option.{option_and_then}

-- the function `next`, applied to the value in `known`; `None` if `known` is `None`
infixl 10 ◌>>=◌
abbrev pub ◌>>=◌ : {A B : Type 0} → Option A → (A → Option B) → Option B
known >>= next = option_and_then next known
