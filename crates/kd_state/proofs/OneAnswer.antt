-- At most one result is right by a rule of `AnswerRules`, if this is so for each step.
use Rattle.kd_state.specs.AnswerRules.{Demands, Finds, FindsAlways, GoesOn, HasFault, HasOneAnswer, ThenNext, Yields}
use Rattle.std.specs.Prelude.{◌≡◌, Result, Ok, Err, refl}
use Rattle.std.proofs.Common.{sym, ap, ◌∙◌, subst}

abbrev pub Succeeds : {F X : Type 0} → Result X F → Type 0
Succeeds (Ok x) = Unit {0}
Succeeds (Err fault) = ⊥

abbrev pub value_or : {F X : Type 0} → X → Result X F → X
value_or d (Ok x) = x
value_or d (Err fault) = d

abbrev pub fault_or : {F X : Type 0} → F → Result X F → F
fault_or d (Ok x) = d
fault_or d (Err fault) = fault

pub Yields-Ok : {F X : Type 0} {x y : X} → Yields {F = F} y (Ok x) → x ≡ y
Yields-Ok {x} e = ap (value_or x) e

pub HasOneAnswer-ThenNext : {F X Y : Type 0} {First : Result X F → Type 0} {Next : X → Result Y F → Type 0}
    → HasOneAnswer First
    → ((x : X) → First (Ok x) → HasOneAnswer (Next x)) → HasOneAnswer (ThenNext First Next)
HasOneAnswer-ThenNext only next v w (HasFault f a e) (HasFault g b d) =
    e ∙ ap Err (ap (fault_or f) (only (Err f) (Err g) a b)) ∙ sym d
HasOneAnswer-ThenNext only next v w (HasFault f a e) (GoesOn y b m) = absurd
    (subst Succeeds (only (Ok y) (Err f) b a) tt)
HasOneAnswer-ThenNext only next v w (GoesOn x a l) (HasFault g b d) = absurd
    (subst Succeeds (only (Ok x) (Err g) a b) tt)
HasOneAnswer-ThenNext {Next} only next v w (GoesOn x a l) (GoesOn y b m) =
    next y b v w (subst (λ z. Next z v) (ap (value_or x) (only (Ok x) (Ok y) a b)) l) m

pub HasOneAnswer-Yields : {F X : Type 0} (x : X) → HasOneAnswer {F = F} (Yields x)
HasOneAnswer-Yields x v w a b = a ∙ sym b

pub HasOneAnswer-Finds : {F X : Type 0} {Holds : X → Type 0} (due : F) → ((x y : X) → Holds x → Holds y → x ≡ y)
    → HasOneAnswer (Finds Holds due)
HasOneAnswer-Finds due one (Ok x) (Ok y) a b = ap Ok (one x y a b)
HasOneAnswer-Finds due one (Ok x) (Err f) a b = absurd (b.0 x a)
HasOneAnswer-Finds due one (Err f) (Ok y) a b = absurd (a.0 y b)
HasOneAnswer-Finds due one (Err f) (Err g) a b = ap Err (a.1 ∙ sym b.1)

pub HasOneAnswer-Demands : {F : Type 0} (Holds : Type 0) (due : F) → HasOneAnswer (Demands Holds due)
HasOneAnswer-Demands Holds due = HasOneAnswer-Finds due (λ x y a b. refl)

pub HasOneAnswer-FindsAlways : {F X : Type 0} {Holds : X → Type 0} → ((x y : X) → Holds x → Holds y → x ≡ y)
    → HasOneAnswer {F = F} (FindsAlways Holds)
HasOneAnswer-FindsAlways one (Ok x) (Ok y) a b = ap Ok (one x y a b)
HasOneAnswer-FindsAlways one (Ok x) (Err f) a b = absurd b
HasOneAnswer-FindsAlways one (Err f) w a b = absurd a

-- The first step finds a value, and with this value the next steps find `y`.
pub record BothSucceed {F X Y : Type 0} (First : Result X F → Type 0) (Next : X → Result Y F → Type 0) (y : Y) : Type
    0 where
  pub found : X
  pub says : First (Ok found)
  pub next : Next found (Ok y)

pub ThenNext-Ok : {F X Y : Type 0} {First : Result X F → Type 0} {Next : X → Result Y F → Type 0} {y : Y}
    → ThenNext First Next (Ok y)
    → BothSucceed First Next y
ThenNext-Ok (HasFault f a e) = absurd (subst Succeeds e tt)
ThenNext-Ok (GoesOn x a next) = record { found = x; says = a; next = next }
