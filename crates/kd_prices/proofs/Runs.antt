-- Sorted keys with their prices are grouped into kinds. Valid kinds determine the price of each key.
use Rattle.{kd_card.specs.Kinds.{KeyComesBefore, key_cmp}, std.proofs.{Common.add-one, lemmas.Cmp.nat_list_cmp_total}}
use Rattle.kd_prices.{proofs.Taking.eq_decides, specs.Grouping.AreSorted}
use Rattle.kd_prices.proofs.Prelude.{All, All-contains, All-permutation, All-replicate, IsPermutation, length-replicate}
use Rattle.kd_prices.proofs.Prelude.{All-append, All-weaker, AreKindsOf, CanBeKinds, KindFormat, expansion, true≢false}
use Rattle.kd_prices.proofs.Prelude.{All-contains_itself, Contains-permutation, HaveOnePriceEach, IsPermutation-sym, []}
use Rattle.kd_prices.proofs.Prelude.{All-head, All-nil, All-tail, AreKinds, Contains, Greater, Ordering, map, replicate}
use Rattle.kd_prices.proofs.Prelude.{AppendsKinds, append_assoc, common_steps, kind_of_one, tied_itself}
use Rattle.kd_prices.proofs.Prelude.{Equal, IsKind, IsValidKeyAndPrice, KindOf, Less, List, None, Option, arith, false}
use Rattle.kd_prices.proofs.Prelude.{length, Some, ap, refl, suc, zip, ℤ, ◌++◌, ◌+◌, ◌∙◌, ◌∷◌, ◌≡◌, ◌≢◌, ◌≤◌, ◌⊎◌}
use Rattle.std.proofs.lemmas.List.{get_or-replicate, replicate_more, Elements.Contains-append_cases}
use Rattle.std.specs.{List.refill, Ordering.{is_eq, is_lt, ordering_reverse}}

-- ---- grouping

-- a key that doesn't come before another one, and isn't tied with it, comes after it
comes_before : (p o : Ordering) → o ≡ ordering_reverse p → is_lt p ≡ false → p ≢ Equal → o ≡ Less
comes_before Less o back h apart = absurd (true≢false h)
comes_before Equal o back h apart = absurd (apart refl)
comes_before Greater o back h apart = back

pub refilled : {X : Type 0} (xs new : List X) → length new ≡ length xs → refill (length xs) xs new ≡ new
refilled xs new same = grind (arith, common_steps)

module _ {K X : Type 0} (format : KindFormat K X) where
  can_tail : (pair : X × ℤ) (pairs : List (X × ℤ)) → CanBeKinds format (pair ∷ pairs) → CanBeKinds format pairs
  can_tail pair pairs can = record {
    sorted = λ k d low inside. rw add-one (rw add-one at (can.sorted (suc k) d (omega arith) (omega (arith, inside))));
    one_price = λ key price other a b.
        can.one_price key price other (suc a.0, omega (arith, a.1), a.2) (suc b.0, omega (arith, b.1), b.2);
    fine = All-tail (IsValidKeyAndPrice format) pair pairs can.fine;
  }

  pub can_be_kinds : (pairs sorted : List (X × ℤ)) → IsPermutation pairs sorted → AreSorted format sorted
      → HaveOnePriceEach pairs → All (IsValidKeyAndPrice format) pairs → CanBeKinds format sorted
  can_be_kinds pairs sorted moved rise one fine =
      let back = Contains-permutation sorted pairs in
      let moved_back = IsPermutation-sym pairs sorted moved in record {
        sorted = rise;
        one_price = λ key price other a b.
            one key price other (back (key, price) moved_back a) (back (key, other) moved_back b);
        fine = All-permutation (IsValidKeyAndPrice format) pairs sorted moved fine;
      }

  pub all_kinds : (pairs rest : List (X × ℤ)) (pair : X × ℤ) (kinds : List K) → pairs ≡ pair ∷ rest
      → AppendsKinds format (kind_of_one pair) rest [] kinds
      → (expansion (map format.kind kinds) ≡ pairs) × (CanBeKinds format pairs → AreKinds format None kinds)
  all_kinds pairs rest pair kinds split appends =
      rw (split, appends.is) (appends.expand, λ can. appends.in_order None can (λ first same. tt))

  module _ (kind : KindOf X) (some : 1 ≤ kind.count) (few : kind.count ≤ 255) (old new : List K) where
    valid : (made : K) (pairs : List (X × ℤ)) → format.kind made ≡ kind
        → CanBeKinds format ((kind.key, kind.price) ∷ pairs) → IsKind format made
    valid made pairs is can =
        let fine = All-head (IsValidKeyAndPrice format) (kind.key, kind.price) pairs can.fine in
        record { form = rw is fine.0; some = rw is some; most = rw is few; in_range = rw is fine.1 }

    pub appends_one : (made : K) → format.kind made ≡ kind → new ≡ old ++ made ∷ []
        → AppendsKinds format kind [] old new
    appends_one made is same = record {
      made = made ∷ [];
      is = same;
      expand = rw is refl;
      in_order = λ last can comes. (valid made [] is can, comes made (ap (λ (k : KindOf X). k.key) is), tt);
    }

    pub counts_more : (pair : X × ℤ) (pairs : List (X × ℤ)) → pair ≡ (kind.key, kind.price)
        → AppendsKinds format (record kind { count = kind.count + 1 }) pairs old new
        → AppendsKinds format kind (pair ∷ pairs) old new
    counts_more pair pairs same inner = record {
      made = inner.made;
      is = inner.is;
      expand = rw same (inner.expand ∙ rw (← replicate_more, append_assoc));
      in_order = λ last can comes.
          inner.in_order last (rw same at (can_tail (kind.key, kind.price) (pair ∷ pairs) can)) comes;
    }

    pub begins_another : ((x y : X) → format.order x ≡ format.order y → x ≡ y) → (made : K) (pair : X × ℤ)
        (pairs : List (X × ℤ)) → format.kind made ≡ kind → ¬ (pair ≡ (kind.key, kind.price))
        → AppendsKinds format (kind_of_one pair) pairs (old ++ made ∷ []) new
        → AppendsKinds format kind (pair ∷ pairs) old new
    begins_another told made pair pairs is other inner = record {
      made = made ∷ inner.made;
      is = inner.is ∙ append_assoc old (made ∷ []) inner.made;
      expand = rw is (ap (λ rest. replicate kind.count (kind.key, kind.price) ++ rest) inner.expand);
      in_order = λ last can comes.
          let key = ap (λ (k : KindOf X). k.key) is in
          let apart : key_cmp format pair.0 kind.key ≢ Equal = λ tied.
          let same = (eq_decides format told pair.0 kind.key).0 (ap is_eq tied) in
          let price = can.one_price kind.key pair.1 kind.price in
          let equal = price (1, omega arith, ap (λ x. (x, pair.1)) same) (0, omega arith, refl) in
          other (cc) in
          let back = nat_list_cmp_total.antisymm (format.order kind.key) (format.order pair.0) in
          let less =
          comes_before (key_cmp format pair.0 kind.key) (key_cmp format kind.key pair.0) back
          (can.sorted 0 pair (omega arith) (omega arith)) apart in (
            valid made (pair ∷ pairs) is can,
            comes made key,
            inner.in_order (Some made) (can_tail (kind.key, kind.price) (pair ∷ pairs) can)
                (λ next is_next. rw (key, is_next) less),
          );
    }

-- ---- prices of valid kinds

module _ {K X : Type 0} (format : KindFormat K X) where
  not_before_itself : (x : X) → ¬ (KeyComesBefore format x x)
  not_before_itself x before = let tied = tied_itself nat_list_cmp_total (format.order x) in cc

  comes_before-trans : (x y z : X) → KeyComesBefore format x y → KeyComesBefore format y z → KeyComesBefore format x z
  comes_before-trans x y z = nat_list_cmp_total.trans (format.order x) (format.order y) (format.order z)

  abbrev After : K → X × ℤ → Type 0
  After last z = KeyComesBefore format (format.kind last).key z.0

  behind : (last : K) (kinds : List K) → AreKinds format (Some last) kinds
      → All (After last) (expansion (map format.kind kinds))
  behind last [] are = All-nil (After last)
  behind last (kind ∷ kinds) are =
      let rest = expansion (map format.kind kinds) in
      All-append (After last) _ rest (All-replicate (After last) _ _ are.1)
      (All-weaker (After kind) (After last) (λ z. comes_before-trans _ _ z.0 are.1) rest (behind kind kinds are.2))

  first_or_later : (last : Option K) (kind : K) (kinds : List K) (z : X × ℤ) → AreKinds format last (kind ∷ kinds)
      → Contains (expansion (map format.kind (kind ∷ kinds))) z
      → (z ≡ ((format.kind kind).key, (format.kind kind).price))
      ⊎ (KeyComesBefore format (format.kind kind).key z.0 × Contains (expansion (map format.kind kinds)) z)
  first_or_later last kind kinds z are has =
      let k = format.kind kind in
      let rest = expansion (map format.kind kinds) in
      grind (
        arith,
        get_or-replicate,
        length-replicate,
        Contains-append_cases (replicate k.count (k.key, k.price)) rest z has,
        All-contains (After kind) rest z (behind kind kinds are.2),
      )

  pub one_price : (last : Option K) (kinds : List K) → AreKinds format last kinds
      → HaveOnePriceEach (expansion (map format.kind kinds))
  one_price last [] are x price other one two = absurd (omega (arith, one.1))
  one_price last (kind ∷ kinds) are x price other one two =
      grind (
        arith,
        not_before_itself,
        first_or_later last kind kinds (x, price) are one,
        first_or_later last kind kinds (x, other) are two,
        one_price (Some kind) kinds are.2 x price other,
      )

same_prices : {X : Type 0} (all : List (X × ℤ)) → HaveOnePriceEach all → (keys : List X) (prices others : List ℤ)
    → length prices ≡ length keys → length others ≡ length keys → All (Contains all) (zip keys prices)
    → All (Contains all) (zip keys others) → prices ≡ others
same_prices all one [] [] [] number same has have = refl
same_prices {X} all one (x ∷ keys) (p ∷ prices) (q ∷ others) number same has have =
    let In : X × ℤ → Type 0 = Contains all in
    let first = one x p q (All-head In (x, p) (zip keys prices) has) (All-head In (x, q) (zip keys others) have) in
    let rest =
    same_prices all one keys prices others (omega arith) (omega arith) (All-tail In (x, p) (zip keys prices) has)
    (All-tail In (x, q) (zip keys others) have) in
    cc
same_prices all one keys prices others number same has have = absurd (omega arith)

pub prices_alike : {K X : Type 0} (format : KindFormat K X) (keys : List X) (kinds : List K) (prices others : List ℤ)
    → AreKinds format None kinds → AreKindsOf format keys prices kinds → AreKindsOf format keys others kinds
    → prices ≡ others
prices_alike {X = X} format keys kinds prices others are of also =
    let all = expansion (map format.kind kinds) in
    let has = λ (prices : List ℤ) (of : AreKindsOf format keys prices kinds).
    All-permutation (Contains all) all (zip keys prices) (IsPermutation-sym (zip keys prices) all of.expand)
    (All-contains_itself all) in
    same_prices all (one_price format None kinds are) keys prices others of.number also.number (has prices of)
    (has others also)
