-- Whether a machine is ready and on the day's key, and the fault that a call returns otherwise.
-- Test: tests/cases/desk-messages.toml
use Rattle.std.specs.Prelude.{◌≡◌, ◌⊎◌, Result, Err, MatchResult}
use Rattle.kd_state.specs.declared.machine.parts.Parts.{Parts}
use Rattle.kd_state.specs.SheetDay.{Day}
use Rattle.kd_state.specs.OnKey.{OnKey}
use Rattle.kd_state.specs.TwoCiphers.{IsReady}
use Rattle.kd_form.specs.declared.fault.FormFault.{FormFault}
use Rattle.kd_form.specs.declared.fault.FormFault.TheVariants.{NotReady, NoMemory, NotOnKey}

-- The machine is ready and on the day's key.
pub record IsReadyOnKey (m : Parts) (s : Day) : Type 0 where
  pub ready : IsReady m
  pub on_key : OnKey m s

-- The fault is `NotReady` if the machine isn't ready. It is `NotOnKey` if the machine is ready, but not on
-- the day's key.
abbrev pub IsKeyFault : Parts → Day → FormFault → Type 0
IsKeyFault m s fault = (¬ (IsReady m) × (fault ≡ NotReady)) ⊎ (IsReady m × ¬ (OnKey m s) × (fault ≡ NotOnKey))

-- `fault` satisfies `is_fault`, or is `NoMemory`. `NoMemory` is possible only if the condition `takes_memory` is true.
abbrev pub IsFaultOrNoMemory : (FormFault → Type 0) → Type 0 → FormFault → Type 0
IsFaultOrNoMemory is_fault takes_memory fault = (takes_memory × (fault ≡ NoMemory)) ⊎ is_fault fault

-- The answer of a call that needs the machine `m` on the key of the day `s`:
-- - `OffKey`: the machine isn't ready, or isn't on the key. The answer is `NotReady` or `NotOnKey`.
-- - `WithKey`: the machine is ready and on the key. The answer is a result that satisfies `is_due`, or a fault that
--   satisfies `IsFaultOrNoMemory`.
pub data IsAnswerOnKey {X : Type 0} (m : Parts) (s : Day) (is_due : X → Type 0) (is_fault : FormFault → Type 0)
    (takes_memory : Type 0) (answer : Result X FormFault) : Type 0 where
  OffKey : (fault : FormFault) → IsKeyFault m s fault → answer ≡ Err fault
      → IsAnswerOnKey m s is_due is_fault takes_memory answer
  WithKey : IsReadyOnKey m s → MatchResult answer is_due (IsFaultOrNoMemory is_fault takes_memory)
      → IsAnswerOnKey m s is_due is_fault takes_memory answer
