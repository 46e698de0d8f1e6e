-- The file of several orders: its pages, one after another.
use Rattle.std.proofs.Common.{◌≡◌, ℕ, ◌+◌, Bool, All, List, [], ◌∷◌, flat_map, map, Option, Result, Ok, Err, IfOk, inl, inr}
use Rattle.std.proofs.Common.{refl, subst}
use Rattle.std.specs.Prelude.{IfErr}
use Rattle.std.proofs.lemmas.List.Elements.{All-cons, All-head, All-nil, All-tail, All-weaker}
use Rattle.kd_state.specs.SheetDay.{Day}
use Rattle.kd_pictures.specs.Drawing.{Draws}
use Rattle.kd_pictures.proofs.Drawings.{both}
use Rattle.kd_language.specs.declared.language.Language.{Language}
use Rattle.kd_pictures.specs.declared.results.Results.{Results}
use Rattle.kd_message.specs.declared.booklet.OrderFault.{OrderFault}
use Rattle.kd_message.specs.declared.booklet.OrderFile.{OrderFile}
use Rattle.kd_state.specs.declared.machine.parts.Parts.{Parts}
use Rattle.kd_message.proofs.SendPages.{begins}
use Rattle.kd_message.specs.SendBooklet.{AreOrderPages, CanBeSent, IsFirstRefusal, IsOrderPage, IsSendBooklet}
use Rattle.kd_message.specs.SendBooklet.{OrderText, order_text}
use Rattle.kd_message.specs.SendPage.{HasForm, IsSendRefusal}

abbrev pub AreGood : Day → List OrderFile → Type 0
AreGood s orders = All (λ (order : OrderText). HasForm s order.bytes) (map order_text orders)

-- what holds of all orders holds of the first order, and of the rest
pub good_first : (s : Day) (order : OrderFile) (rest orders : List OrderFile) → orders ≡ order ∷ rest → AreGood s orders
    → HasForm s order.bytes.now
good_first s order rest orders is good =
    All-head (λ (o : OrderText). HasForm s o.bytes) (order_text order) (map order_text rest) (subst (AreGood s) is good)

pub good_rest : (s : Day) (order : OrderFile) (rest orders : List OrderFile) → orders ≡ order ∷ rest → AreGood s orders
    → AreGood s rest
good_rest s order rest orders is good =
    All-tail (λ (o : OrderText). HasForm s o.bytes) (order_text order) (map order_text rest) (subst (AreGood s) is good)

-- ---- Which orders can be sent.

abbrev pub AreSendable : Parts → Day → List OrderFile → Type 0
AreSendable m s orders = All (λ (order : OrderText). CanBeSent m s order.bytes) (map order_text orders)

-- orders that can be sent have a form
pub all_good : (m : Parts) (s : Day) (orders : List OrderFile) → AreSendable m s orders → AreGood s orders
all_good m s orders sendable =
    All-weaker (λ (o : OrderText). CanBeSent m s o.bytes) (λ (o : OrderText). HasForm s o.bytes) (λ o can. can.1)
    (map order_text orders) sendable

pub none_refused : (m : Parts) (s : Day) (orders : List OrderFile) → orders ≡ [] → AreSendable m s orders
none_refused m s orders none = rw none (All-nil (λ (o : OrderText). CanBeSent m s o.bytes))

module _ (m : Parts) (s : Day) (place : ℕ) (order : OrderFile) (rest orders : List OrderFile)
    (same : orders ≡ order ∷ rest) where
  pub first_refused : (fault : OrderFault) → fault.place ≡ place → IsSendRefusal m s order.bytes.now fault.why
      → IsFirstRefusal m s place (map order_text orders) fault
  first_refused fault is why = rw same (inl (is, why))

  pub sent_next : (answer : Result (Unit {0}) OrderFault) → CanBeSent m s order.bytes.now
      → IfOk answer (λ done. AreSendable m s rest) → IfOk answer (λ done. AreSendable m s orders)
  sent_next (Ok done) can sendable = rw same
      (All-cons (λ (o : OrderText). CanBeSent m s o.bytes) (order_text order) (map order_text rest) can sendable)
  sent_next (Err fault) can sendable = tt

  pub refused_next : (answer : Result (Unit {0}) OrderFault) → CanBeSent m s order.bytes.now
      → IfErr answer (IsFirstRefusal m s (place + 1) (map order_text rest))
      → IfErr answer (IsFirstRefusal m s place (map order_text orders))
  refused_next (Ok done) can refused = tt
  refused_next (Err fault) can refused = rw same (inr (can, refused))

-- ---- The pages.

module _ {W : Type 0} {taken : W → Option (List ℕ)} {failed : W → Bool} {old mid new : W} (results : Results)
    (l : Language) (s : Day) (number : ℕ) where
  pub pages_next : (order : OrderFile) (rest orders : List OrderFile) → orders ≡ order ∷ rest
      → ((page : List ℕ) × IsOrderPage results l s number (order_text order) page × Draws taken failed old mid page)
      → ((pages : List (List ℕ)) × AreOrderPages results l s (number + 1) (map order_text rest) pages
      × Draws taken failed mid new (flat_map (λ page. page) pages))
      → (pages : List (List ℕ)) × AreOrderPages results l s number (map order_text orders) pages
      × Draws taken failed old new (flat_map (λ page. page) pages)
  pages_next order rest orders same (page, is, one) (pages, are, two) =
      (page ∷ pages, rw same (page, pages, is, are, refl), both one two)

-- a file isn't empty
pub booklet_begins : (results : Results) (l : Language) (s : Day) (orders : List OrderText) (text : List ℕ)
    → IsSendBooklet results l s orders text → (first : ℕ) × ((rest : List ℕ) × (text ≡ first ∷ rest))
booklet_begins results l s orders text booklet = rw booklet.whole (begins _ _ _)
