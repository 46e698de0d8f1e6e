-- Rules for results: a rule says which values and which faults are right answers of a function. A `do` block has the
-- rules of several steps, in the order of testing. If a step fails, its fault is the right answer, and the later steps
-- don't matter.
use Rattle.std.specs.Prelude.{◌≡◌, Result, Ok, Err}

-- a rule for the answers of a function: it says which values `Ok x` and which faults `Err fault` are right
abbrev pub AnswerRule : Type 0 → Type 0 → Type 1
AnswerRule F X = Result X F → Type 0

-- The rule for two successive steps. If the first step has a fault, the result must be this fault. If the first step
-- finds a value `x`, the result must satisfy the rule `Next x`.
pub data ThenNext {F X Y : Type 0} (First : Result X F → Type 0) (Next : X → Result Y F → Type 0)
    (answer : Result Y F) : Type 0 where
  HasFault : (fault : F) → First (Err fault) → answer ≡ Err fault → ThenNext First Next answer
  GoesOn : (x : X) → First (Ok x) → Next x answer → ThenNext First Next answer

-- Joins the rules of two steps: `says >>= next` is `ThenNext says next`. If the first step finds the value `x`,
-- `next x` is the rule for the second step.
infixl 10 ◌>>=◌
abbrev pub ◌>>=◌ : {F X Y : Type 0} → AnswerRule F X → (X → AnswerRule F Y) → AnswerRule F Y
says >>= next = ThenNext says next

-- the rule by which only the answer `Ok x` is right
abbrev pub Yields : {F X : Type 0} → X → AnswerRule F X
Yields x answer = answer ≡ Ok x

-- the rule of a search for a value that satisfies `Holds`. If there are such values, each of them is right. If there
-- are none, only the fault `due` is right.
abbrev pub Finds : {F X : Type 0} → (X → Type 0) → F → AnswerRule F X
Finds Holds due (Ok x) = Holds x
Finds {X} Holds due (Err fault) = ((x : X) → ¬ (Holds x)) × (fault ≡ due)

-- The rule of a test. If `Holds` is true, only success is right. Otherwise, only the fault `due` is right.
abbrev pub Demands : {F : Type 0} → Type 0 → F → AnswerRule F (Unit {0})
Demands Holds due = Finds (λ _. Holds) due

-- The rule of a step without faults: each value that satisfies `Holds` is right. For example, a step reads all kinds
-- at the beginning of some bytes; there may be none.
abbrev pub FindsAlways : {F X : Type 0} → (X → Type 0) → AnswerRule F X
FindsAlways Holds (Ok x) = Holds x
FindsAlways Holds (Err fault) = ⊥

-- By the rule, at most one answer is right: one value or one fault.
abbrev pub HasOneAnswer : {F X : Type 0} → AnswerRule F X → Type 0
HasOneAnswer {F} {X} rule = (answer other : Result X F) → rule answer → rule other → answer ≡ other
