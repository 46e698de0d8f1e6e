-- If a result is right for the prices that were found for rows and columns, it is right for the check of the card.
use Rattle.kd_prices.proofs.Prelude.{AreModelPrices, ArePricesInRange, IsCheckedAnswer, PriceMissing, day_prices, ℤ}
use Rattle.kd_prices.proofs.Prelude.{AreExpanded, AreKindsOf, MatchOption, Parts, cable_format, pair_format, version_of}
use Rattle.kd_prices.proofs.Prelude.{ArePrices, CableKinds, KindFormat, PriceParts, bar_format, row_format}
use Rattle.kd_prices.proofs.Prelude.{BarKinds, ByNumber, Expanded, HasFault, Rotor, Setting, day_model, model_of}
use Rattle.kd_prices.proofs.Prelude.{Bars, Cables, Doubt, Expands, GoesOn, Pin, Option, Result, Rotor, arith, subst}
use Rattle.kd_prices.proofs.Prelude.{Day, Err, List, None, Pin, Same, Some, machine_prices, refl, sym, ◌∙◌, ◌≡◌}
use Rattle.kd_prices.{proofs.{Prelude.{Ok, PricesSuitMachine, ap}, Runs.prices_alike}}
use Rattle.kd_prices.{specs.Doubt.{ArePricesFound, IsByNumberAnswer}}
use Rattle.std.specs.{Option.{ok_or, option_zip}, Result.MatchResult}

-- ---- prices by kind

same_lists : (m : Parts) (s : Day) (prices numbered other : PriceParts) → ArePrices prices
    → AreExpanded m s prices numbered → AreExpanded m s prices other → numbered ≡ other
same_lists (Rotor m) (Rotor s) (CableKinds row col) (Cables a b) (Cables c d) are one two =
    let rows = prices_alike cable_format _ row.items a c are.0.in_order one.0 two.0 in
    let columns = prices_alike pair_format _ col.items b d are.1.in_order one.1 two.1 in
    cc
same_lists (Pin m) (Pin s) (BarKinds row col) (Bars a b) (Bars c d) are one two =
    let rows = prices_alike bar_format _ row.items a c are.0.in_order one.0 two.0 in
    let columns = prices_alike row_format _ col.items b d are.1.in_order one.1 two.1 in
    cc
same_lists m s prices numbered other are one two = absurd (assumption)

by_kind : (m : Parts) (s : Day) (prices numbered : PriceParts) → AreExpanded m s prices numbered
    → ¬ (version_of prices ≡ ByNumber)
by_kind m s prices numbered e by = grind arith

pub one_expansion : (m : Parts) (s : Day) (prices numbered other : PriceParts) → Expands m s prices numbered
    → Expands m s prices other → numbered ≡ other
one_expansion m s prices numbered other (Same by e) (Same also f) = sym e ∙ f
one_expansion m s prices numbered other (Same by e) (Expanded are good is) = absurd (by_kind m s prices other is by)
one_expansion m s prices numbered other (Expanded are good is) (Same by f) = absurd (by_kind m s prices numbered is by)
one_expansion m s prices numbered other (Expanded are good is) (Expanded also fine same) =
    same_lists m s prices numbered other are is same

-- ---- models

-- Prices, and the prices by number that they expand to, are for the same format of machine.
pub belong : (m : Parts) (s : Day) (prices numbered : PriceParts) → Expands m s prices numbered
    → AreModelPrices m numbered → PricesSuitMachine m prices
belong m s prices numbered expands are = grind arith

pub are_numbered : (m : Parts) (s : Day) (prices numbered : PriceParts) → Expands m s prices numbered
    → PricesSuitMachine m prices → AreModelPrices m numbered
are_numbered m s prices numbered expands belong = grind arith

-- ---- from the prices that were found to the check

module _ (m : Parts) (s : Day) (settings : List Setting) (prices : PriceParts) (make : List ℤ → List ℤ → PriceParts)
    (model : model_of m ≡ day_model s) where
  by_found : (found : List ℤ × List ℤ) (answer : Result (Unit {0}) Doubt)
      → ArePricesFound m s prices make (Ok found) → IsByNumberAnswer m s settings (make found.0 found.1) answer
      → IsCheckedAnswer m s settings prices answer
  by_found found answer (HasFault fault none e) says = absurd (cc)
  by_found found answer (GoesOn x belong expands) says =
      GoesOn tt model (GoesOn x belong (GoesOn (make found.0 found.1) expands says))

  by_fault : ((numbered : PriceParts) → AreModelPrices m numbered
      → make (machine_prices numbered) (day_prices numbered) ≡ numbered) → (doubt : Doubt)
      → ArePricesFound m s prices make (Err doubt) → IsCheckedAnswer m s settings prices (Err doubt)
  by_fault made doubt (HasFault fault none e) = GoesOn tt model (HasFault fault none (cc))
  by_fault made doubt (GoesOn x belong none) =
      GoesOn tt model (GoesOn x belong (HasFault PriceMissing (
        (λ numbered expands.
            none.0 (machine_prices numbered, day_prices numbered)
            (subst (Expands m s prices) (sym (made numbered (are_numbered m s prices numbered expands belong)))
            expands)),
        refl,
      ) (ap Err none.1)))

  -- what is right once the prices were found, or once they weren't, is right for the check of the card
  pub by_prices : ((numbered : PriceParts) → AreModelPrices m numbered
      → make (machine_prices numbered) (day_prices numbered) ≡ numbered) → (found : Result (List ℤ × List ℤ) Doubt)
      → (answer : Result (Unit {0}) Doubt) → ArePricesFound m s prices make found
      → MatchResult found (λ lists. IsByNumberAnswer m s settings (make lists.0 lists.1) answer)
      (λ doubt. answer ≡ Err doubt)
      → IsCheckedAnswer m s settings prices answer
  by_prices made (Ok lists) answer found says = by_found lists answer found says
  by_prices made (Err doubt) answer found says = rw says (by_fault made doubt found)

-- ---- prices of kinds

-- `found` are the prices of the keys by their kinds, or `None` if the kinds don't count exactly these keys.
abbrev pub AreFound : {K X : Type 0} → KindFormat K X → List X → List K → Option (List ℤ) → Type 0
AreFound format keys kinds found =
    MatchOption found ((prices : List ℤ) → ¬ (AreKindsOf format keys prices kinds))
    (λ prices. AreKindsOf format keys prices kinds × ArePricesInRange prices)

module _ {R X C Y : Type 0} (rows : KindFormat R X) (columns : KindFormat C Y) (xs : List X) (ys : List Y)
    (row : List R) (col : List C) (m : Parts) (s : Day) (prices : PriceParts) (make : List ℤ → List ℤ → PriceParts)
    (belong : PricesSuitMachine m prices)
    (to : (found : List ℤ × List ℤ) → AreFound rows xs row (Some found.0) → AreFound columns ys col (Some found.1)
    → Expands m s prices (make found.0 found.1))
    (from : (found : List ℤ × List ℤ) → Expands m s prices (make found.0 found.1)
    → AreKindsOf rows xs found.0 row × AreKindsOf columns ys found.1 col) where
  pub kinds_found : (a b : Option (List ℤ)) → AreFound rows xs row a → AreFound columns ys col b
      → ArePricesFound m s prices make (ok_or (option_zip a b) PriceMissing)
  kinds_found None b none also = GoesOn tt belong ((λ found expands. none found.0 (from found expands).0), refl)
  kinds_found (Some x) None is none = GoesOn tt belong ((λ found expands. none found.1 (from found expands).1), refl)
  kinds_found (Some x) (Some y) is also = GoesOn tt belong (to (x, y) is also)
