-- The first number of a range that passes a test.
use Rattle.std.proofs.Common.{◌≡◌, ℕ, suc, zero, ◌+◌, ◌<◌, ◌≤◌, Bool, true, false, List, length, map, get_or, slice_get}
use Rattle.std.proofs.Common.{Option, Some, None, option_map, Result, Ok, Err, IfErr, IsErr, IsErrAnd, OnErr, OnOk, find, add-one, ap, sym, ◌∙◌, inl, inr, subst, arith, refl}
use Rattle.std.proofs.lemmas.Option.{slice_get-get_or, slice_get-map}
use Rattle.kd_state.specs.SameParts.{numbered_item}
use Rattle.kd_tables.proofs.Failing.{err_is}
use Rattle.kd_sheet.specs.declared.fault.SheetFault.{SheetFault}
use Rattle.kd_sheet.specs.declared.fault.SheetFault.TheVariants.{BadRow}
use Rattle.kd_sheet.specs.declared.key.Key.{Key}
use Rattle.toml.specs.Data.{Data}
use Rattle.kd_slips.specs.Items.{HasFault, IsOfItem, IsOfItsRow, row_in, type_fault}
use Rattle.kd_slips.specs.declared.slip.Slip.{Slip}
use Rattle.kd_slips.specs.declared.slip.Slip.TheVariants as slips
use Rattle.std.proofs.lemmas.Bool.{cases_lt}
use Rattle.std.specs.List.{range_with_len}

-- no number passes
pub finds_none : (test : ℕ → Bool) (first count : ℕ)
    → ((number : ℕ) → first ≤ number → number < first + count → test number ≡ false)
    → find test (range_with_len first count) ≡ None
finds_none test first zero fail = refl
finds_none test first (suc count) fail =
    let fails : test first ≡ false = fail first (omega arith) (omega arith) in
    rw fails (finds_none test (first + 1) count (λ number from to. fail number (omega arith) (omega arith)))

-- a number passes, and none before it
pub finds_first : (test : ℕ → Bool) (first count number : ℕ) → first ≤ number → number < first + count
    → test number ≡ true → ((before : ℕ) → first ≤ before → before < number → test before ≡ false)
    → find test (range_with_len first count) ≡ Some number
finds_first test first zero number from to pass fail = absurd (omega arith)
finds_first test first (suc count) number from to pass fail =
    elim (cases_lt first number) [
      | inl later ↦
          let fails : test first ≡ false = fail first (omega arith) later in
          rw fails (finds_first test (first + 1) count number (omega arith) (omega arith) pass
          (λ before above below. fail before (omega arith) below))
      | inr earlier ↦
          let same : number ≡ first = omega arith in
          let passes : test first ≡ true = subst (λ n. test n ≡ true) same pass in
          rw (passes, same) refl
    ]

-- the item at a place has the number after the place
pub numbered-at : {X Y : Type 0} (form : X → Y) (xs : List X) (place : ℕ) (x : X) → place < length xs
    → get_or xs place x ≡ x → numbered_item (map form xs) (place + 1) ≡ Some (form x)
numbered-at form xs place x within is =
    let found : slice_get xs place ≡ Some x = slice_get-get_or xs place x within ∙ ap Some is in
    rw add-one (slice_get-map form xs place ∙ ap (λ item. option_map form item) found)

-- ---- slips that `?` hands on

-- what holds of a slip holds of the slip in an answer that hands it on
pub handed_on : {T : Type 0} (answer : Result T Slip) (slip : Slip) (P : Slip → Type 0)
    → IsErrAnd answer (λ made. made ≡ slip) → P slip → IfErr answer P
handed_on answer slip P made holds = subst (λ a. IfErr a P) (sym (err_is answer slip made)) holds

pub of_row : (number told : ℕ) (slip : Slip) → told ≡ number → HasFault (BadRow number) (Some told) slip
    → HasFault (BadRow number) (Some number) slip
of_row number told (slips.Fault found item words) same is = (is.0, is.1 ∙ ap Some same)
of_row number told slips.NoMemory same is = tt

pub item-same : (told other : Option ℕ) (slip : Slip) → other ≡ told → IsOfItem told slip → IsOfItem other slip
item-same told other (slips.Fault found item words) same is = is ∙ sym same
item-same told other slips.NoMemory same is = tt

-- an answer that refuses has no value
pub no_value : {T : Type 0} (answer : Result T Slip) (P : Type 0) → IsErr answer → OnOk answer P
no_value (Ok value) P refused = cc
no_value (Err slip) P refused = tt

pub on_err : {T : Type 0} (answer : Result T Slip) (P : Type 0) → P → OnErr answer P
on_err (Ok value) P holds = tt
on_err (Err slip) P holds = holds

-- words for an item are words for what that item is
pub same_item : {T : Type 0} (answer : Result T Slip) (told other : Option ℕ) → other ≡ told
    → IfErr answer (IsOfItem told) → IfErr answer (IsOfItem other)
same_item (Ok value) told other same is = tt
same_item (Err slip) told other same is = item-same told other slip same is

-- ---- slips without an item number

-- a slip without an item number is right if no item is refused
pub no_item : (fault : SheetFault) (told : Option ℕ) (slip : Slip) → told ≡ None → HasFault fault None slip
    → IsOfItem told slip
no_item fault told (slips.Fault found item words) none is = is.1 ∙ sym none
no_item fault told slips.NoMemory none is = tt

pub type_fault-row : (key : Key) (value : Option Data) → row_in (type_fault key value) ≡ None
type_fault-row key None = refl
type_fault-row key (Some value) = refl

-- a slip without an item number is right if its fault gives no row number
pub no_row : (fault : SheetFault) (slip : Slip) → row_in fault ≡ None → HasFault fault None slip → IsOfItsRow slip
no_row fault (slips.Fault found item words) none is = is.1 ∙ sym none ∙ ap row_in (sym is.0)
no_row fault slips.NoMemory none is = tt

pub refused-no_row : {T : Type 0} (answer : Result T Slip) (fault : SheetFault) → row_in fault ≡ None
    → IfErr answer (HasFault fault None) → IfErr answer IsOfItsRow
refused-no_row (Ok value) fault none is = tt
refused-no_row (Err slip) fault none is = no_row fault slip none is

pub of_its_row : {T : Type 0} (answer : Result T Slip) (number : ℕ)
    → IfErr answer (HasFault (BadRow number) (Some number)) → IfErr answer IsOfItsRow
of_its_row (Ok value) number is = tt
of_its_row (Err (slips.Fault found item words)) number is = is.1 ∙ ap row_in (sym is.0)
of_its_row (Err slips.NoMemory) number is = tt
