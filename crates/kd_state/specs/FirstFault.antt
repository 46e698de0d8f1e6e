-- Definitions that test step by step: each step gives a value or a fault. The steps of a `do` block run in order. The
-- first fault is the result of the whole block.
-- Code: the operator `?` returns the first fault.
use Rattle.std.specs.Prelude.{Bool, Result, Ok, Err, if◌then◌else◌}

-- Applies the function on the right to the value on the left. If there is a fault on the left, the result is this
-- fault.
infixl 10 ◌>>=◌
abbrev pub ◌>>=◌ : {A B F : Type 0} → Result A F → (A → Result B F) → Result B F
(Ok x) >>= next = next x
(Err fault) >>= next = Err fault

-- If the test on the left succeeds, the result is the right operand. Otherwise, the result is the fault of the test.
infixl 10 ◌>>◌
abbrev pub ◌>>◌ : {B F : Type 0} → Result (Unit {0}) F → Result B F → Result B F
test >> next = test >>= (λ _. next)

-- success if `test` is true, otherwise the fault `fault`
abbrev pub demand : {F : Type 0} → Bool → F → Result (Unit {0}) F
demand test fault = if test then Ok tt else Err fault
