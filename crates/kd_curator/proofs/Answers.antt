-- The answers of the calls that read a machine file or a key sheet.
use Rattle.std.proofs.Common.{◌≡◌, ◌⊎◌, Result, Ok, Err, MatchResult, inl, inr, subst}
use Rattle.kd_curator.specs.MachineAndSheet.{IsAnswerOn, LacksMemory}
use Rattle.kd_curator.specs.declared.fault.Refused.{Refused}

module _ {A : Type 0} (meant : Result A Refused) (Does : A → Type 0) (answer : Result (Unit {0}) Refused) where
  abbrev AnswersTo : Result A Refused → Type 0
  AnswersTo found = MatchResult found Does (λ refused. answer ≡ Err refused)

  pub on_found : (value : A) → (Ok value ≡ meant) ⊎ LacksMemory {A = A} (Ok value) → Does value
      → IsAnswerOn meant Does answer
  on_found value (inl is) done = inl (subst AnswersTo is done)
  on_found value (inr lacks) done = absurd (cc)

-- an answer for what is found is one for whatever follows from it
pub on_kept : {A : Type 0} (found : Result A Refused) (Holds Other : A → Type 0) (answer : Result (Unit {0}) Refused)
    → ((value : A) → Holds value → Other value) → IsAnswerOn found Holds answer → IsAnswerOn found Other answer
on_kept (Ok value) Holds Other answer more (inl holds) = inl (more value holds)
on_kept (Err refused) Holds Other answer more (inl is) = inl is
on_kept found Holds Other answer more (inr lacks) = inr lacks
