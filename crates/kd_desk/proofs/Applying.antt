-- The answer of `run_apply`, once the machine file and the settings are read.
use Rattle.kd_desk.proofs.Prelude.{◌≡◌, ◌⊎◌, ℕ, List, Result, Ok, Err, IfOk, IsErrAnd, IsFalse, MatchResult, inl, inr, subst}
use Rattle.kd_desk.proofs.Prelude.{AgreesOrNoMemory}
use Rattle.kd_desk.proofs.Prelude.{sym, Parts, Setting, DeskFault, begins_as_card, AreSettings, OfList, IsSettingsFault}
use Rattle.{kd_desk.proofs.Prelude.InList, kd_state.specs.Line.IsListText, kd_state.specs.Line.IsListFault}
use Rattle.kd_state.specs.declared.setting.list.ListFault.{ListFault}
use Rattle.kd_desk.specs.declared.fault.DeskFault.TheVariants as faults

-- what holds of the machine that was read holds of the machine of the file
pub of_read : {F : Type 0} {no_memory : F} (meant : Result Parts F) (m : Parts) (P : Parts → Type 0) (Q : Type 0)
    → AgreesOrNoMemory no_memory meant (Ok m) → P m → IfOk meant (λ n. P n ⊎ Q)
of_read meant m P Q (inl is) p = subst (λ (r : Result _ _). IfOk r (λ n. P n ⊎ Q)) is (inl p)
of_read meant m P Q (inr lacks) p = absurd (cc)

-- bytes that don't begin as a card are read as a list
pub list_read : {T : Type 0} (items : T → List Setting) (bytes : List ℕ) (read : Result T ListFault)
    (answer : Result T DeskFault) → IsFalse (begins_as_card bytes)
    → MatchResult read (λ s. IsListText bytes (items s)) (IsListFault bytes)
    → MatchResult read (λ x. answer ≡ Ok x) (λ e. IsErrAnd answer (λ made. made ≡ faults.List e))
    → MatchResult answer (λ s. AreSettings bytes (items s)) (IsSettingsFault bytes)
list_read items bytes (Ok x) answer other is same =
    subst (λ a. MatchResult a (λ s. AreSettings bytes (items s)) (IsSettingsFault bytes)) (sym same) (OfList other is)
list_read items bytes (Err e) (Ok x) other is made = absurd made
list_read items bytes (Err e) (Err fault) other is made = InList other e is made
