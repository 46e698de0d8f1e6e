-- Rules of several steps, and of items tested in turn: which faults they allow, and that they allow one answer.
use Rattle.kd_form.proofs.Prelude.{◌≡◌, ℕ, ◌+◌, ◌<◌, List, [], ◌∷◌, ◌++◌, length, take, drop, get_or, Result, Ok, Err}
use Rattle.kd_form.proofs.Prelude.{arith, subst, sym, refl, ◌∙◌, All, All-head, All-tail, InTurn, Demands, ThenNext-Ok}
use Rattle.kd_form.proofs.Prelude.{GoesOn, HasFault, HasOneAnswer-ThenNext, zero, suc, HasOneAnswer-Yields}
use Rattle.kd_form.proofs.Prelude.{take-append-drop, drop_more, length-take-le, take_more, Day, Keys, IsKeysAnswer}
use Rattle.kd_form.proofs.Prelude.{IsByteAnswer, IsBytesAnswer, IsTrue, IsFalse, is_text_byte, BadByte, false≢true}
use Rattle.kd_form.proofs.Prelude.{HasOneAnswer, Yields-Ok, MatchResult}
use Rattle.kd_form.specs.OrderSteps.{AreSuitedKeys}
use Rattle.kd_state.specs.AnswerRules.{ThenNext, Yields, Finds, FindsAlways}
use Rattle.kd_state.proofs.OneAnswer.{HasOneAnswer-Demands, HasOneAnswer-Finds, HasOneAnswer-FindsAlways}

-- each fault that the rule allows has the property
pub record FaultsAre {F X : Type 0} (Q : F → Type 0) (rule : Result X F → Type 0) : Type 0 where
  pub are : (fault : F) → rule (Err fault) → Q fault

module _ {F X : Type 0} {Q : F → Type 0} where
  pub FaultsAre-ThenNext : {Y : Type 0} {First : Result X F → Type 0} {Next : X → Result Y F → Type 0}
      → FaultsAre Q First → ((x : X) → FaultsAre Q (Next x)) → FaultsAre Q (ThenNext First Next)
  FaultsAre-ThenNext {First = First} {Next = Next} first next = record { are = told } where
    told : (fault : F) → ThenNext First Next (Err fault) → Q fault
    told fault (HasFault f is e) = let same : f ≡ fault = cc in subst Q same (first.are f is)
    told fault (GoesOn x is found) = (next x).are fault found

  pub FaultsAre-Finds : {Holds : X → Type 0} {due : F} → Q due → FaultsAre Q (Finds Holds due)
  FaultsAre-Finds of = record { are = λ fault told. subst Q (sym told.1) of }

  pub FaultsAre-Yields : {x : X} → FaultsAre Q (Yields x)
  FaultsAre-Yields = record { are = λ fault is. absurd (cc) }

  pub FaultsAre-FindsAlways : {Holds : X → Type 0} → FaultsAre Q (FindsAlways {F = F} Holds)
  FaultsAre-FindsAlways = record { are = λ fault none. absurd none }

-- ---- two steps

-- if the first step finds a value, and the second only tests it, the value is the first step's
pub ThenNext-tested : {F X : Type 0} {First : Result X F → Type 0} {Test : X → Result (Unit {0}) F → Type 0} {x : X}
    → ThenNext First (λ x. ThenNext (Test x) (λ _. Yields x)) (Ok x) → First (Ok x) × Test x (Ok tt)
ThenNext-tested is = let found = ThenNext-Ok is in
    let tested = ThenNext-Ok found.next in rw (Yields-Ok tested.next) (found.says, tested.says)

-- a fault of two steps stays if the first step's fault stays or, after a value, the second step's fault
pub ThenNext-stays : {F X Y Z W : Type 0} {First : Result X F → Type 0} {Next : X → Result Y F → Type 0}
    {Other : Result Z F → Type 0} {Then : Z → Result W F → Type 0} {fault : F} (to : X → Z)
    → (First (Err fault) → Other (Err fault))
    → ((x : X) → First (Ok x) → Next x (Err fault) → Other (Ok (to x)) × Then (to x) (Err fault))
    → ThenNext First Next (Err fault) → ThenNext Other Then (Err fault)
ThenNext-stays {First = First} {fault = fault} to stays goes (HasFault f is e) =
    let same : f ≡ fault = cc in HasFault fault (stays (subst (λ f. First (Err f)) same is)) refl
ThenNext-stays to stays goes (GoesOn x is found) = let (one, other) = goes x is found in GoesOn (to x) one other

-- a fault of a test stays, whatever step follows
pub ThenNext-first : {F X Y : Type 0} {Test Other : Result (Unit {0}) F → Type 0} {x : X}
    {Then : Unit {0} → Result Y F → Type 0} {fault : F} → (Test (Err fault) → Other (Err fault))
    → ThenNext Test (λ _. Yields x) (Err fault) → ThenNext Other Then (Err fault)
ThenNext-first stays = ThenNext-stays (λ x. x) stays (λ _ _ none. absurd (cc))

-- if a call's answers are right by a rule, some answer is right
pub some_answer : {F X : Type 0} (rule : Result X F → Type 0) (v : Result (Unit {0}) F)
    → MatchResult v (λ _. (x : X) × rule (Ok x)) (λ fault. rule (Err fault)) → (answer : Result X F) × rule answer
some_answer rule (Ok done) (x, is) = (Ok x, is)
some_answer rule (Err fault) is = (Err fault, is)

-- ---- items tested in turn

-- the rule for testing one item, which has this number
abbrev pub TurnRule : Type 0 → Type 0 → Type 1
TurnRule F X = ℕ → X → Result (Unit {0}) F → Type 0

pub HasOneAnswer-InTurn : {F X : Type 0} {Test : TurnRule F X} → ((number : ℕ) (x : X) → HasOneAnswer (Test number x))
    → (number : ℕ) (xs : List X) → HasOneAnswer (InTurn Test number xs)
HasOneAnswer-InTurn one number [] = HasOneAnswer-Yields tt
HasOneAnswer-InTurn one number (x ∷ xs) =
    HasOneAnswer-ThenNext (one number x) (λ _ _. HasOneAnswer-InTurn one (number + 1) xs)

pub FaultsAre-InTurn : {F X : Type 0} {Q : F → Type 0} {Test : TurnRule F X}
    → ((number : ℕ) (x : X) → FaultsAre Q (Test number x)) → (number : ℕ) (xs : List X)
    → FaultsAre Q (InTurn Test number xs)
FaultsAre-InTurn of number [] = FaultsAre-Yields
FaultsAre-InTurn of number (x ∷ xs) = FaultsAre-ThenNext (of number x) (λ _. FaultsAre-InTurn of (number + 1) xs)

pub ruleset faults = (FaultsAre-ThenNext, FaultsAre-Finds, FaultsAre-Yields, FaultsAre-FindsAlways, FaultsAre-InTurn)

pub ruleset one_answers = (
  HasOneAnswer-ThenNext,
  HasOneAnswer-Finds,
  HasOneAnswer-Demands,
  HasOneAnswer-Yields,
  HasOneAnswer-FindsAlways,
  HasOneAnswer-InTurn,
)

-- if the first items pass, the answer for all items is that for the rest
pub InTurn-append : {F X : Type 0} (Test : TurnRule F X) (number : ℕ) (xs ys : List X) (v : Result (Unit {0}) F)
    → InTurn Test number xs (Ok tt) → InTurn Test (number + length xs) ys v → InTurn Test number (xs ++ ys) v
InTurn-append Test number [] ys v passed next = let place : number + 0 ≡ number = omega arith in rw place at next
InTurn-append Test number (x ∷ xs) ys v passed next =
    let first = ThenNext-Ok passed in
    let place : number + length (x ∷ xs) ≡ number + 1 + length xs = omega arith in
    GoesOn tt first.says (InTurn-append Test (number + 1) xs ys v first.next (rw place at next))

-- more items don't change a fault
pub InTurn-stays : {F X : Type 0} (Test : TurnRule F X) (number : ℕ) (xs ys : List X) (fault : F)
    → InTurn Test number xs (Err fault) → InTurn Test number (xs ++ ys) (Err fault)
InTurn-stays Test number [] ys fault = λ none. absurd (cc)
InTurn-stays Test number (x ∷ xs) ys fault =
    ThenNext-stays (λ d. d) (λ a. a) (λ done a next. (a, InTurn-stays Test (number + 1) xs ys fault next))

-- each item has passed the test
pub InTurn-at : {F X : Type 0} (Test : TurnRule F X) (number : ℕ) (xs : List X) (place : ℕ) (d : X)
    → InTurn Test number xs (Ok tt) → place < length xs → Test (number + place) (get_or xs place d) (Ok tt)
InTurn-at Test number [] place d passed less = absurd (omega arith)
InTurn-at Test number (x ∷ xs) zero d passed less =
    let n : number + 0 ≡ number = omega arith in rw n (ThenNext-Ok passed).says
InTurn-at Test number (x ∷ xs) (suc place) d passed less =
    let n : number + suc place ≡ number + 1 + place = omega arith in
    rw n (InTurn-at Test (number + 1) xs place d (ThenNext-Ok passed).next (omega arith))

-- in a loop: one more item passes, or fails
pub turn_passes : {F X : Type 0} (Test : TurnRule F X) (xs : List X) (index : ℕ) (x : X)
    → InTurn Test 1 (take index xs) (Ok tt) → index < length xs → get_or xs index x ≡ x → Test (index + 1) x (Ok tt)
    → InTurn Test 1 (take (index + 1) xs) (Ok tt)
turn_passes Test xs index x passed inside is one =
    let place : index + 1 ≡ 1 + length (take index xs) = omega (arith, length-take-le index xs (omega arith)) in
    rw (take_more xs index x inside, is)
    (InTurn-append Test 1 (take index xs) (x ∷ []) (Ok tt) passed (GoesOn tt (rw place at one) refl))

pub turn_fails : {F X : Type 0} (Test : TurnRule F X) (xs : List X) (index : ℕ) (x : X) (fault : F)
    → InTurn Test 1 (take index xs) (Ok tt) → index < length xs → get_or xs index x ≡ x
    → Test (index + 1) x (Err fault) → InTurn Test 1 xs (Err fault)
turn_fails Test xs index x fault passed inside is one =
    let place : index + 1 ≡ 1 + length (take index xs) = omega (arith, length-take-le index xs (omega arith)) in
    let whole : take index xs ++ x ∷ drop (index + 1) xs ≡ xs =
    cc (take-append-drop index xs, drop_more xs index x inside, is) in
    subst (λ l. InTurn Test 1 l (Err fault)) whole
    (InTurn-append Test 1 (take index xs) (x ∷ drop (index + 1) xs) (Err fault) passed
    (HasFault fault (rw place at one) refl))

-- if the test of an item is that it has a property, then all items pass if all have the property
pub InTurn-All : {F X : Type 0} (P : X → Type 0) (due : ℕ → F) (number : ℕ) (xs : List X) → All P xs
    → InTurn (λ n x. Demands (P x) (due n)) number xs (Ok tt)
InTurn-All P due number [] all = refl
InTurn-All P due number (x ∷ xs) all =
    GoesOn tt (All-head P x xs all) (InTurn-All P due (number + 1) xs (All-tail P x xs all))

-- ---- the bytes of a text

pub bytes_allowed : (position : ℕ) (text : List ℕ) → All (λ b. IsTrue (is_text_byte b)) text
    → IsBytesAnswer position text (Ok tt)
bytes_allowed = InTurn-All (λ b. IsTrue (is_text_byte b)) BadByte

-- after allowed bytes, a byte that isn't allowed is the fault
pub bad_behind : (position : ℕ) (front rest : List ℕ) (byte : ℕ) → All (λ b. IsTrue (is_text_byte b)) front
    → IsFalse (is_text_byte byte)
    → IsBytesAnswer position (front ++ byte ∷ rest) (Err (BadByte (position + length front)))
bad_behind position front rest byte allowed bad =
    InTurn-append IsByteAnswer position front (byte ∷ rest) _ (bytes_allowed position front allowed)
    (HasFault _ ((λ _ good. false≢true (sym bad ∙ good)), refl) refl)

-- ---- keys

-- keys that all suit the day suit it one by one
pub suited_at : (s : Day) (keys : List Keys) (index : ℕ) (k : Keys) → AreSuitedKeys s keys → index < length keys
    → get_or keys index k ≡ k → IsKeysAnswer s (index + 1) k (Ok tt)
suited_at s keys index k are inside is =
    let place : 1 + index ≡ index + 1 = omega arith in
    rw (place, is) at (InTurn-at (IsKeysAnswer s) 1 keys index k are.suited inside)
