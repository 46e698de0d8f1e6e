-- Prices by kind. Those of a card that proves itself show that no list is shorter. If prices show this, it is so.
use Rattle.kd_card.proofs.Months.{AreBounds-prices, HasCounts, fold_of_both, prices_moved, reordered, sum_of}
use Rattle.kd_card.proofs.Months.{proving_cards_are_as_long, thirteen_columns, column_is, count_by-cons, zip-seconds}
use Rattle.kd_card.proofs.OneCard.{all_kinds}
use Rattle.kd_card.specs.declared.prices.PriceParts.{PriceParts, TheVariants.{BarKinds, Bars, CableKinds, Cables}}
use Rattle.kd_card.specs.declared.{kinds.KindOf.KindOf, prices.Version.TheVariants.{ByKind}}
use Rattle.kd_card.specs.Kinds.{AreKindsOf, IsGroup, IsKind, KindFormat, bar_format, cable_format}
use Rattle.kd_card.specs.{Kinds.{pair_format, row_format}, Laws.{ProvingPricesShow, ShownListsAreShortest}}
use Rattle.kd_card.specs.Prices.{ArePrices, PricesFit, cost_at, price_at, price_sum, version_of}
use Rattle.kd_card.specs.Proving.{AreExpanded, AreModelPrices, Expanded, Expands, ProvesByNumber, Same}
use Rattle.kd_card.specs.Shortest.{KindPricesFit, ShowShortest}
use Rattle.kd_state.specs.Costs.{bar_cost, cable_cost, column_letters, columns_of, cost_table, costs_by, exactly_one}
use Rattle.kd_state.specs.{Costs.loose_count, Machine.IsMachine, declared.setting.Setting.Setting}
use Rattle.kd_state.specs.{Machine.cable_letters, OnKey.{cable_of_column, columns_in_order, pair_in_order}}
use Rattle.kd_state.specs.SheetDay.{Day, IsLegalDay, Pin, Rotor}
use Rattle.kd_state.specs.declared.machine.parts.Parts.{Parts, TheVariants.{Pin, Rotor}}
use Rattle.kd_tables.specs.{Pairs.has_letter, Permutation.alphabet, declared.place.Place.{TheVariants.One}}
use Rattle.std.proofs.Common.{Bool, IsPermutation, List, None, Option, Some, ap, ap₂, arith, count_by, flat_map, get_or}
use Rattle.std.proofs.Common.{fold, length}
use Rattle.std.proofs.Common.{map, pos, refl, replicate, suc, subst, sym, zero, zip, ℕ, ℤ, ◌++◌, ◌+ℤ◌, ◌<◌, ◌∙◌, ◌∷◌}
use Rattle.std.proofs.Common.{[], ◌≡◌, ◌≤ℤ◌, ◌≤◌}
use Rattle.std.proofs.lemmas.{Grind.common_steps, Int.ints, List.{get_or-map, length-map, map-append}}
use Rattle.std.proofs.lemmas.List.Elements.{All-append, All-cons, All-from_get_or, All-get_or, All-head, All-nil}
use Rattle.std.proofs.lemmas.List.Elements.{All-replicate, All-tail, All-weaker}
use Rattle.std.proofs.lemmas.List.Sorted.{All-permutation, IsPermutation-map, IsPermutation-sym}
use Rattle.std.proofs.lemmas.{List.Folds.flat_map-map, Slice.Zip.{AllZip-long, firsts-zip, get_or-zip, length-zip}}
use Rattle.std.specs.List.{All, AllZip}

-- ---- items that are repeated

map-replicate : {A B : Type 0} (f : A → B) (n : ℕ) (x : A) → map f (replicate n x) ≡ replicate n (f x)
map-replicate f zero x = refl
map-replicate f (suc n) x = ap (λ xs. f x ∷ xs) (map-replicate f n x)

-- what `value` gives for each item, repeated as often as `count` says
abbrev repeated : {K A : Type 0} → (K → ℕ) → (K → A) → List K → List A
repeated count value items = flat_map (λ k. replicate (count k) (value k)) items

module _ {A : Type 0} (P : A → Type 0) (x : A) (rest : List A) where
  run_first : (n : ℕ) → 1 ≤ n → All P (replicate n x ++ rest) → P x
  run_first zero some all = absurd (omega arith)
  run_first (suc n) some all = All-head P x (replicate n x ++ rest) all

  run_rest : (n : ℕ) → All P (replicate n x ++ rest) → All P rest
  run_rest zero all = all
  run_rest (suc n) all = run_rest n (All-tail P x (replicate n x ++ rest) all)

module _ {K A : Type 0} (count : K → ℕ) (value : K → A) where
  map-repeated : {B : Type 0} (f : A → B) (items : List K)
      → map f (repeated count value items) ≡ repeated count (λ k. f (value k)) items
  map-repeated f [] = refl
  map-repeated f (k ∷ items) =
      map-append f (replicate (count k) (value k)) (repeated count value items)
      ∙ ap (λ xs. xs ++ map f (repeated count value items)) (map-replicate f (count k) (value k))
      ∙ ap (λ xs. replicate (count k) (f (value k)) ++ xs) (map-repeated f items)

  module _ (P : A → Type 0) where
    All-repeated : (items : List K) → All (λ k. P (value k)) items → All P (repeated count value items)
    All-repeated [] all = All-nil P
    All-repeated (k ∷ items) all =
        All-append P (replicate (count k) (value k)) (repeated count value items)
        (All-replicate P (count k) (value k) (All-head (λ k. P (value k)) k items all))
        (All-repeated items (All-tail (λ k. P (value k)) k items all))

    All-from_repeated : (items : List K) → All (λ k. 1 ≤ count k) items → All P (repeated count value items)
        → All (λ k. P (value k)) items
    All-from_repeated [] some all = All-nil (λ k. P (value k))
    All-from_repeated (k ∷ items) some all =
        let rest = repeated count value items in
        All-cons (λ k. P (value k)) k items
        (run_first P (value k) rest (count k) (All-head (λ k. 1 ≤ count k) k items some) all)
        (All-from_repeated items (All-tail (λ k. 1 ≤ count k) k items some)
        (run_rest P (value k) rest (count k) all))

-- ---- prices of two kinds add up to at most the cost

module _ {X Y : Type 0} (cost : X → Y → ℕ) where
  -- The prices of the two add up to at most the cost.
  abbrev FitTwo : X × ℤ → Y × ℤ → Type 0
  FitTwo one other = (one.1 +ℤ other.1) ≤ℤ pos (cost one.0 other.0)

  abbrev FitAllOf : List (Y × ℤ) → X × ℤ → Type 0
  FitAllOf others one = All (FitTwo one) others

  abbrev FitPairwise : List (X × ℤ) → List (Y × ℤ) → Type 0
  FitPairwise ones others = All (FitAllOf others) ones

  reorder : (xs us : List (X × ℤ)) (ys vs : List (Y × ℤ)) → IsPermutation xs us → IsPermutation ys vs
      → FitPairwise xs ys → FitPairwise us vs
  reorder xs us ys vs first second fit =
      All-permutation (FitAllOf vs) xs us first
      (All-weaker (FitAllOf ys) (FitAllOf vs) (λ one. All-permutation (FitTwo one) ys vs second) xs fit)

  -- kinds of rows and of columns, with their counts, keys and prices
  module _ {R C : Type 0} (row : R → KindOf X) (column : C → KindOf Y) (rows : List R) (columns : List C) where
    abbrev row_pair : R → X × ℤ
    row_pair k = ((row k).key, (row k).price)

    abbrev column_pair : C → Y × ℤ
    column_pair k = ((column k).key, (column k).price)

    abbrev row_pairs : List (X × ℤ)
    row_pairs = repeated (λ k. (row k).count) row_pair rows

    abbrev column_pairs : List (Y × ℤ)
    column_pairs = repeated (λ k. (column k).count) column_pair columns

    abbrev FitOfKinds : Type 0
    FitOfKinds = All (λ k. All (λ other. FitTwo (row_pair k) (column_pair other)) columns) rows

    repeat_fit : FitOfKinds → FitPairwise row_pairs column_pairs
    repeat_fit fit =
        All-repeated (λ k. (row k).count) row_pair (FitAllOf column_pairs) rows
        (All-weaker (λ k. All (λ other. FitTwo (row_pair k) (column_pair other)) columns)
        (λ k. FitAllOf column_pairs (row_pair k))
        (λ k. All-repeated (λ k. (column k).count) column_pair (FitTwo (row_pair k)) columns) rows fit)

    gather_fit : All (λ k. 1 ≤ (row k).count) rows → All (λ k. 1 ≤ (column k).count) columns
        → FitPairwise row_pairs column_pairs → FitOfKinds
    gather_fit some any fit =
        All-weaker (λ k. FitAllOf column_pairs (row_pair k))
        (λ k. All (λ other. FitTwo (row_pair k) (column_pair other)) columns)
        (λ k. All-from_repeated (λ k. (column k).count) column_pair (FitTwo (row_pair k)) columns any) rows
        (All-from_repeated (λ k. (row k).count) row_pair (FitAllOf column_pairs) rows some fit)

  -- In each cell of the table of `n` rows and columns, the prices of row and column add up to at most the cost.
  abbrev FitInTable : List X → List Y → List ℤ → List ℤ → ℕ → Type 0
  FitInTable xs ys rows columns n =
      (i j : ℕ) → i < n → j < n → (price_at rows i +ℤ price_at columns j) ≤ℤ pos (cost_at (costs_by cost xs ys) i j)

  module _ (a : X) (b : Y) (xs : List X) (ys : List Y) (rows columns : List ℤ) (n : ℕ) (xs_count : length xs ≡ n)
      (ys_count : length ys ≡ n) (row_count : length rows ≡ n) (column_count : length columns ≡ n) where
    at : (i j : ℕ) → i < n → j < n → cost_at (costs_by cost xs ys) i j ≡ cost (get_or xs i a) (get_or ys j b)
    at i j lt lt' = grind (arith, get_or-map)

    row_at : (i : ℕ) → i < n → get_or (zip xs rows) i (a, pos 0) ≡ (get_or xs i a, price_at rows i)
    row_at i lt = get_or-zip xs rows i (a, pos 0) (omega arith) (omega arith)

    column_at : (j : ℕ) → j < n → get_or (zip ys columns) j (b, pos 0) ≡ (get_or ys j b, price_at columns j)
    column_at j lt = get_or-zip ys columns j (b, pos 0) (omega arith) (omega arith)

    pairwise_fit : FitInTable xs ys rows columns n → FitPairwise (zip xs rows) (zip ys columns)
    pairwise_fit fit =
        All-from_get_or (FitAllOf (zip ys columns)) (zip xs rows) (a, pos 0) (λ i lt.
        let inside : i < n = omega (arith, length-zip xs rows) in
        rw (row_at i inside) (All-from_get_or (FitTwo (get_or xs i a, price_at rows i)) (zip ys columns) (b, pos 0)
        (λ j lt'.
        let within : j < n = omega (arith, length-zip ys columns) in
        rw (column_at j within, ← at i j inside within) (fit i j inside within))))

    table_fit : FitPairwise (zip xs rows) (zip ys columns) → FitInTable xs ys rows columns n
    table_fit fit i j lt lt' =
        let here = All-get_or (FitAllOf (zip ys columns)) (zip xs rows) i (a, pos 0)
        (omega (arith, length-zip xs rows)) fit in
        let there = All-get_or (FitTwo (get_or (zip xs rows) i (a, pos 0))) (zip ys columns) j (b, pos 0)
        (omega (arith, length-zip ys columns)) here in
        rw (at i j lt lt') (rw (row_at i lt, column_at j lt') at there)

-- ---- a pair's letters in alphabetical order cost the same

count_by-agree : (p q : ℕ → Bool) → ((letter : ℕ) → p letter ≡ q letter) → (letters : List ℕ)
    → count_by p letters ≡ count_by q letters
count_by-agree p q same [] = refl
count_by-agree p q same (letter ∷ letters) =
    grind (arith, common_steps, count_by-cons, same letter, count_by-agree p q same letters)

letters_in_order : (column : Option (ℕ × ℕ)) → column_letters (pair_in_order column) ≡ cable_letters (cable_of_column column)
letters_in_order None = refl
letters_in_order (Some pair) = refl

cost_in_order : (cable : Option ℕ × Option ℕ) (column : Option (ℕ × ℕ))
    → cable_cost cable (pair_in_order column) ≡ cable_cost cable column
cost_in_order cable column =
    count_by-agree _ _ (λ letter. ap (exactly_one (has_letter (cable_letters cable) letter))
    (ap (λ letters. has_letter letters letter) (letters_in_order column) ∙ column_is column letter)) alphabet

costs_in_order : (cable : Option ℕ × Option ℕ) (columns : List (Option (ℕ × ℕ)))
    → map (cable_cost cable) (map pair_in_order columns) ≡ map (cable_cost cable) columns
costs_in_order cable [] = refl
costs_in_order cable (column ∷ columns) = grind (arith, cost_in_order, costs_in_order cable columns)

table_in_order : (cables : List (Option ℕ × Option ℕ)) (columns : List (Option (ℕ × ℕ)))
    → costs_by cable_cost cables (map pair_in_order columns) ≡ costs_by cable_cost cables columns
table_in_order [] columns = refl
table_in_order (cable ∷ cables) columns = grind (arith, costs_in_order, table_in_order cables columns)

-- ---- prices by kind and by number

module _ {X : Type 0} where
  abbrev firsts : List (X × ℤ) → List X
  firsts pairs = map (λ (z : X × ℤ). z.0) pairs

  abbrev seconds : List (X × ℤ) → List ℤ
  seconds pairs = map (λ (z : X × ℤ). z.1) pairs

  beside_firsts : (pairs : List (X × ℤ)) → AllZip (λ key (z : X × ℤ). key ≡ z.0) (firsts pairs) pairs
  beside_firsts [] = tt
  beside_firsts (pair ∷ pairs) = (refl, beside_firsts pairs)

  -- A price for each key, if each key has one of the prices in `pairs`.
  abbrev ArePricesFor : List X → List (X × ℤ) → List ℤ → Type 0
  ArePricesFor keys pairs prices = (length prices ≡ length keys) × IsPermutation (zip keys prices) pairs

  prices_for : (keys : List X) (pairs : List (X × ℤ)) → IsPermutation keys (firsts pairs)
      → (prices : List ℤ) × ArePricesFor keys pairs prices
  prices_for keys pairs order =
      let there = reordered (λ key (z : X × ℤ). key ≡ z.0) (firsts pairs) keys pairs
      (IsPermutation-sym keys (firsts pairs) order) (beside_firsts pairs) in (
        seconds there.0,
        (
          length-map there.0 (λ (z : X × ℤ). z.1) ∙ AllZip-long _ keys there.0 there.2,
          subst (λ zs. IsPermutation zs pairs) (sym (zip-seconds keys there.0 there.2))
              (IsPermutation-sym pairs there.0 there.1),
        ),
      )

  -- the counts of kinds, and their keys and prices, repeated as often as the counts say
  module _ {K : Type 0} (kind : K → KindOf X) (kinds : List K) where
    abbrev kind_count : K → ℕ
    kind_count k = (kind k).count

    abbrev kind_pairs : List (X × ℤ)
    kind_pairs = repeated kind_count (λ k. ((kind k).key, (kind k).price)) kinds

    abbrev kind_keys : List X
    kind_keys = repeated kind_count (λ k. (kind k).key) kinds

    abbrev kind_prices : List ℤ
    kind_prices = repeated kind_count (λ k. (kind k).price) kinds

    firsts-pairs : firsts kind_pairs ≡ kind_keys
    firsts-pairs = map-repeated kind_count (λ k. ((kind k).key, (kind k).price)) (λ (z : X × ℤ). z.0) kinds

    seconds-pairs : seconds kind_pairs ≡ kind_prices
    seconds-pairs = map-repeated kind_count (λ k. ((kind k).key, (kind k).price)) (λ (z : X × ℤ). z.1) kinds

    sum-prices : (xs : List X) (numbers : List ℤ) → ArePricesFor xs kind_pairs numbers
        → sum_of kind_prices ≡ sum_of numbers
    sum-prices xs numbers are = ap sum_of (sym seconds-pairs) ∙ prices_moved xs numbers kind_pairs are.0 are.1

    keys-permuted : (xs : List X) (numbers : List ℤ) → ArePricesFor xs kind_pairs numbers → IsPermutation xs kind_keys
    keys-permuted xs numbers are =
        subst (λ zs. IsPermutation zs kind_keys) (firsts-zip xs numbers are.0)
        (subst (IsPermutation (firsts (zip xs numbers))) firsts-pairs
        (IsPermutation-map (λ (z : X × ℤ). z.0) (zip xs numbers) kind_pairs are.1))

module _ {K X : Type 0} (format : KindFormat K X) where
  prices_of_keys : (keys : List X) (prices : List ℤ) (kinds : List K) → AreKindsOf format keys prices kinds
      → ArePricesFor keys (kind_pairs format.kind kinds) prices
  prices_of_keys keys prices kinds are = (
    are.number,
    subst (IsPermutation (zip keys prices))
        (flat_map-map (λ (k : KindOf X). replicate k.count (k.key, k.price)) format.kind kinds) are.expand,
  )

  some_of_each : (n : ℕ) (kinds : List K) → IsGroup format n kinds → All (λ k. 1 ≤ (format.kind k).count) kinds
  some_of_each n kinds group =
      All-weaker (IsKind format) (λ k. 1 ≤ (format.kind k).count) (λ k is. is.some) kinds
      (all_kinds format None kinds group.in_order)

-- kinds of rows and of columns, and the rows and columns that they count
module _ {R X C Y : Type 0} (row : R → KindOf X) (column : C → KindOf Y) (cost : X → Y → ℕ) (a : X) (b : Y)
    (xs : List X) (ys : List Y) (ones : List R) (others : List C) (n : ℕ) where
  sums_alike : (rows columns : List ℤ) → ArePricesFor xs (kind_pairs row ones) rows
      → ArePricesFor ys (kind_pairs column others) columns
      → fold (λ sum price. sum +ℤ price) (pos 0) (kind_prices row ones ++ kind_prices column others)
      ≡ fold (λ sum price. sum +ℤ price) (pos 0) (rows ++ columns)
  sums_alike rows columns first second =
      fold_of_both (kind_prices row ones) (kind_prices column others)
      ∙ ap₂ (λ one other. one +ℤ other) (sum-prices row ones xs rows first) (sum-prices column others ys columns second)
      ∙ sym (fold_of_both rows columns)

  -- The kinds count exactly the rows and the columns, and their prices fit.
  abbrev KindsFit : Type 0
  KindsFit =
      IsPermutation xs (kind_keys row ones) × IsPermutation ys (kind_keys column others)
      × FitOfKinds cost row column ones others

  kinds_fit : All (λ k. 1 ≤ (row k).count) ones → All (λ k. 1 ≤ (column k).count) others → (rows columns : List ℤ)
      → ArePricesFor xs (kind_pairs row ones) rows → ArePricesFor ys (kind_pairs column others) columns → length rows ≡ n
      → length columns ≡ n → FitInTable cost xs ys rows columns n → KindsFit
  kinds_fit some any rows columns first second row_count column_count fit =
      let pairwise = pairwise_fit cost a b xs ys rows columns n (sym first.0 ∙ row_count) (sym second.0 ∙ column_count)
      row_count column_count fit in (
        keys-permuted row ones xs rows first,
        keys-permuted column others ys columns second,
        gather_fit cost row column ones others some any
            (reorder cost (zip xs rows) (kind_pairs row ones) (zip ys columns) (kind_pairs column others) first.1 second.1
            pairwise),
      )

  -- prices by number that the prices by kind mean
  record AreNumbers : Type 0 where
    rows : List ℤ
    columns : List ℤ
    row_count : length rows ≡ n
    column_count : length columns ≡ n
    fit : FitInTable cost xs ys rows columns n
    sum : fold (λ sum price. sum +ℤ price) (pos 0) (kind_prices row ones ++ kind_prices column others)
        ≡ fold (λ sum price. sum +ℤ price) (pos 0) (rows ++ columns)

  numbers_of_kinds : length xs ≡ n → length ys ≡ n → KindsFit → AreNumbers
  numbers_of_kinds xs_count ys_count fits =
      let first = prices_for xs (kind_pairs row ones)
      (subst (IsPermutation xs) (sym (firsts-pairs row ones)) fits.0) in
      let second = prices_for ys (kind_pairs column others)
      (subst (IsPermutation ys) (sym (firsts-pairs column others)) fits.1) in
      let row_count = first.1.0 ∙ xs_count in
      let column_count = second.1.0 ∙ ys_count in
      record {
        rows = first.0;
        columns = second.0;
        row_count = row_count;
        column_count = column_count;
        fit = table_fit cost a b xs ys first.0 second.0 n xs_count ys_count row_count column_count
            (reorder cost (kind_pairs row ones) (zip xs first.0) (kind_pairs column others) (zip ys second.0)
            (IsPermutation-sym (zip xs first.0) (kind_pairs row ones) first.1.1)
            (IsPermutation-sym (zip ys second.0) (kind_pairs column others) second.1.1)
            (repeat_fit cost row column ones others fits.2));
        sum = sums_alike first.0 second.0 first.1 second.1;
      }

-- ---- cards by kind that prove themselves

-- The prices by kind fit, and have the sum of the prices by number.
abbrev AreLikeNumbered : Parts → Day → PriceParts → PriceParts → Type 0
AreLikeNumbered m s prices numbered = KindPricesFit m s prices × (price_sum prices ≡ price_sum numbered)

like_numbered : (m : Parts) (s : Day) (prices numbered : PriceParts) → ArePrices prices → ArePrices numbered
    → AreExpanded m s prices numbered → PricesFit (cost_table m s) numbered → AreLikeNumbered m s prices numbered
like_numbered (Rotor m) (Rotor s) (CableKinds row col) (Cables rows columns) are counts expanded fits =
    let first = prices_of_keys cable_format m.cables rows row.items expanded.0 in
    let second = prices_of_keys pair_format (columns_in_order s.pairs) columns col.items expanded.1 in
    let fit = subst (λ costs. PricesFit costs (Cables rows columns)) (sym (table_in_order m.cables (columns_of s.pairs)))
    fits in (
      kinds_fit cable_format.kind pair_format.kind cable_cost (None, None) None m.cables (columns_in_order s.pairs)
          row.items col.items 13 (some_of_each cable_format 13 row.items are.0) (some_of_each pair_format 13 col.items are.1)
          rows columns first second counts.0.count counts.1.count fit,
      sums_alike cable_format.kind pair_format.kind cable_cost (None, None) None m.cables (columns_in_order s.pairs)
          row.items col.items 13 rows columns first second,
    )
like_numbered (Pin m) (Pin s) (BarKinds row col) (Bars rows columns) are counts expanded fits =
    let first = prices_of_keys bar_format m.bars rows row.items expanded.0 in
    let second = prices_of_keys row_format s.rows columns col.items expanded.1 in (
      kinds_fit bar_format.kind row_format.kind bar_cost (One, One) (0, 0) m.bars s.rows row.items col.items 27
          (some_of_each bar_format 27 row.items are.0) (some_of_each row_format 27 col.items are.1)
          rows columns first second counts.0.count counts.1.count fits,
      sums_alike bar_format.kind row_format.kind bar_cost (One, One) (0, 0) m.bars s.rows row.items col.items 27 rows
          columns first second,
    )
like_numbered m s prices numbered are counts expanded fits = absurd expanded

shown_if_like : (m : Parts) (s : Day) (settings : List Setting) (prices numbered : PriceParts)
    → AreLikeNumbered m s prices numbered
    → pos (length settings) ≡ (pos (loose_count m s) +ℤ price_sum numbered) → ShowShortest m s settings prices
shown_if_like m s settings prices numbered like as_many = record { fit = like.0; as_many = rw like.1 as_many }

shown_by_expansion : (m : Parts) (s : Day) (settings : List Setting) (prices numbered : PriceParts)
    → version_of prices ≡ ByKind → Expands m s prices numbered → ProvesByNumber m s settings numbered
    → ShowShortest m s settings prices
shown_by_expansion m s settings prices numbered by_kind (Same by_number same) proves = absurd (cc)
shown_by_expansion m s settings prices numbered by_kind (Expanded are counts expanded) proves =
    shown_if_like m s settings prices numbered (like_numbered m s prices numbered are counts expanded proves.fits)
    (proving_cards_are_as_long m s settings numbered proves)

pub proving_prices_show : ProvingPricesShow
proving_prices_show m s settings prices by_kind h =
    shown_by_expansion m s settings prices h.numbered by_kind h.expands h.proves

-- ---- what prices by kind show is so

record HasNumbered (m : Parts) (s : Day) (prices : PriceParts) : Type 0 where
  numbered : PriceParts
  counts : HasCounts numbered
  kind : AreModelPrices m numbered
  fits : PricesFit (cost_table m s) numbered
  sum : price_sum prices ≡ price_sum numbered

has_numbered : (m : Parts) (s : Day) (prices : PriceParts) → IsMachine m → IsLegalDay s → KindPricesFit m s prices
    → HasNumbered m s prices
has_numbered (Rotor m) (Rotor s) (CableKinds row col) machine legal fit =
    let thirteen = length-map (columns_of s.pairs) pair_in_order ∙ thirteen_columns s.pairs legal.pairs.few in
    let numbers = numbers_of_kinds cable_format.kind pair_format.kind cable_cost (None, None) None m.cables
    (columns_in_order s.pairs) row.items col.items 13 machine.legal.cables.count thirteen fit in
    record {
      numbered = Cables numbers.rows numbers.columns;
      counts = (numbers.row_count, numbers.column_count);
      kind = tt;
      fits = subst (λ costs. PricesFit costs (Cables numbers.rows numbers.columns))
          (table_in_order m.cables (columns_of s.pairs)) numbers.fit;
      sum = numbers.sum;
    }
has_numbered (Pin m) (Pin s) (BarKinds row col) machine legal fit =
    let numbers = numbers_of_kinds bar_format.kind row_format.kind bar_cost (One, One) (0, 0) m.bars s.rows row.items
    col.items 27 machine.legal.bars legal.count fit in
    record {
      numbered = Bars numbers.rows numbers.columns;
      counts = (numbers.row_count, numbers.column_count);
      kind = tt;
      fits = numbers.fit;
      sum = numbers.sum;
    }
has_numbered m s prices machine legal fit = absurd fit

pub shown_lists_are_shortest : ShownListsAreShortest
shown_lists_are_shortest m s settings prices machine legal shown others reached =
    let has = has_numbered m s prices machine legal shown.fit in
    let below = AreBounds-prices m reached.0 s has.numbered others machine legal has.counts has.kind has.fits reached.1
    reached.2 in
    omega (arith, ints, shown.as_many, below.bound, has.sum)
