-- When prices by number, one for each key, can become prices by kind, one for equal keys; and which these are.
use Rattle.kd_prices.proofs.{AlikeKeys.{AreTold, each_told}, Taking.size}
use Rattle.kd_prices.proofs.AlikeKeys.{cables_are_in_form, columns_are_in_form, columns_told, one_price_is}
use Rattle.kd_prices.proofs.{Prelude.{All, Day, One, Pin, map, sym, zip, ◌<◌, ◌↔◌, ◌∙◌, ◌≡◌}, Runs.one_price}
use Rattle.kd_prices.proofs.Prelude.{AreKinds, BarKinds, Expanded, Rotor, PairKind, PinParts, RotorDay, model_of, ℤ}
use Rattle.kd_prices.proofs.Prelude.{AreKindsOf, CanBeByKind, MatchOption, cable_format, pair_format, pair_in_order, ℕ}
use Rattle.kd_prices.proofs.Prelude.{AreModelPrices, IsPermutation, day_prices, columns_in_order, thirteen_columns}
use Rattle.kd_prices.proofs.Prelude.{ArePrices, CableKind, IsMachine, List, ReadAlike, day_model, expansion, version_of}
use Rattle.kd_prices.proofs.Prelude.{ArePricesInRange, Bars, Contains-permutation, HaveOnePriceEach, length_permutation}
use Rattle.kd_prices.proofs.Prelude.{BarKind, ByKind, Cables, Expands, IfSome, IsGroup, None, RowKind, price_at}
use Rattle.kd_prices.proofs.Prelude.{CableKinds, IsLegalDay, KindFormat, PriceParts, RotorParts, StandAlike, bar_format}
use Rattle.kd_prices.proofs.Prelude.{IsSome, IsValidKeyAndPrice, Pin, Option, Parts, PinDay, Rotor, Some, arith}
use Rattle.kd_prices.proofs.Prelude.{length, refl, subst, columns_of, get_or-zip, length-map, length-zip, row_format}
use Rattle.kd_prices.proofs.Prelude.{machine_prices, table_size}

-- what `kinds_of` ensures of the kinds of `keys` with `prices`
abbrev pub AreGrouped : {K X : Type 0} → KindFormat K X → List X → List ℤ → List K → Type 0
AreGrouped format keys prices kinds = record {
  expand : IsPermutation (zip keys prices) (expansion (map format.kind kinds));
  in_order : HaveOnePriceEach (zip keys prices) → All (IsValidKeyAndPrice format) (zip keys prices)
      → AreKinds format None kinds;
}

-- The kinds are those of the keys with these prices, and they are valid exactly if equal keys have equal prices.
record AreKindsFor {K X : Type 0} (format : KindFormat K X) (keys : List X) (n : ℕ) (Alike : ℕ → ℕ → Type 0)
    (prices : List ℤ) (kinds : List K) : Type 0 where
  of : AreKindsOf format keys prices kinds
  valid : ((i k : ℕ) → i < n → k < n → Alike i k → price_at prices i ≡ price_at prices k) → IsGroup format n kinds
  equal : IsGroup format n kinds → (i k : ℕ) → i < n → k < n → Alike i k → price_at prices i ≡ price_at prices k

are_kinds_for : {K X : Type 0} (format : KindFormat K X) (keys : List X) (d : X)
    (Alike : ℕ → ℕ → Type 0) → AreTold keys d Alike → All format.InForm keys → (n : ℕ) → length keys ≡ n
    → (prices : List ℤ) → length prices ≡ n → ArePricesInRange prices → (kinds : List K)
    → AreGrouped format keys prices kinds → AreKindsFor format keys n Alike prices kinds
are_kinds_for format keys d Alike told forms n many prices number reach kinds grouped =
    let pairs = zip keys prices in
    let all = expansion (map format.kind kinds) in
    let iff = one_price_is keys d Alike told prices n many number in
    let fine : All (IsValidKeyAndPrice format) pairs =
    λ i z inside. grind (arith, get_or-zip, length-zip keys prices, forms i z.0, reach i z.1) in
    let same = length_permutation pairs all grouped.expand in
    record {
      of = record { number = number ∙ sym many; expand = grouped.expand };
      valid = λ equal. record {
        in_order = grouped.in_order (iff.1 equal) fine;
        count = omega (arith, size format kinds, same, length-zip keys prices, many, number);
      };
      equal = λ group.
          iff.0 (λ key price other a b.
          one_price format None kinds group.in_order key price other
          (Contains-permutation pairs all (key, price) grouped.expand a)
          (Contains-permutation pairs all (key, other) grouped.expand b));
    }

-- What `prices_by_kind` ensures of its result: prices by kind, unless equal cables, columns, bars or rows have
-- different prices in `prices`.
abbrev pub ArePricesByKind : Parts → Day → PriceParts → Option PriceParts → Type 0
ArePricesByKind m s prices result = record {
  some : IsSome result ↔ CanBeByKind m s prices;
  kinds : IfSome result (λ kinds. (version_of kinds ≡ ByKind) × Expands m s kinds prices);
}

module _ {R X C Y : Type 0} (rows : KindFormat R X) (columns : KindFormat C Y) (m : Parts) (s : Day)
    (prices made : PriceParts) (xs : List X) (ys : List Y) (row : List R) (col : List C) where
  made_by_kind : model_of m ≡ day_model s → AreModelPrices m prices → version_of made ≡ ByKind
      → AreKindsFor rows xs (table_size prices) (StandAlike m) (machine_prices prices) row
      → AreKindsFor columns ys (table_size prices) (ReadAlike s) (day_prices prices) col
      → ArePrices made ↔ (IsGroup rows (table_size prices) row × IsGroup columns (table_size prices) col)
      → (ArePrices made → AreKindsOf rows xs (machine_prices prices) row
      → AreKindsOf columns ys (day_prices prices) col → Expands m s made prices) → (result : Option PriceParts)
      → MatchOption result (¬ (ArePrices made)) (λ prices. prices ≡ made) → IfSome result ArePrices
      → ArePricesByKind m s prices result
  made_by_kind model kind version a b groups expands None none are = record {
    some = (
      λ some. absurd (cc),
      λ can. absurd (none (groups.1 (a.valid can.equal.rows, b.valid can.equal.columns))),
    );
    kinds = tt;
  }
  made_by_kind model kind version a b groups expands (Some other) is are =
      let both = groups.0 (subst ArePrices is are) in
      record {
        some = (
          λ some. record {
            model = model;
            kind = kind;
            equal = record { rows = a.equal both.0; columns = b.equal both.1 };
          },
          λ can. refl,
        );
        kinds = rw is (version, expands (subst ArePrices is are) a.of b.of);
      }

pub cables_by_kind : (m : RotorParts) (s : RotorDay) (rows columns : List ℤ) (row : List CableKind)
    (col : List PairKind) → IsMachine (Rotor m) → IsLegalDay (Rotor s) → ArePrices (Cables rows columns)
    → model_of (Rotor m) ≡ day_model (Rotor s) → AreGrouped cable_format m.cables rows row
    → AreGrouped pair_format (columns_in_order s.pairs) columns col → (result : Option PriceParts)
    → MatchOption result (¬ (ArePrices (CableKinds (record { items = row }) (record { items = col }))))
    (λ made. made ≡ CableKinds (record { items = row }) (record { items = col })) → IfSome result ArePrices
    → ArePricesByKind (Rotor m) (Rotor s) (Cables rows columns) result
cables_by_kind m s rows columns row col machine legal are same first second =
    let thirteen : length (columns_in_order s.pairs) ≡ 13 = length-map (columns_of s.pairs) pair_in_order
    ∙ thirteen_columns s.pairs legal.pairs.few in
    made_by_kind cable_format pair_format (Rotor m) (Rotor s) (Cables rows columns)
    (CableKinds (record { items = row }) (record { items = col })) m.cables (columns_in_order s.pairs) row col
    same tt refl
    (are_kinds_for cable_format m.cables (None, None) (StandAlike (Rotor m)) (each_told m.cables (None, None))
    (cables_are_in_form m machine) 13 machine.legal.cables.count rows are.0.count are.0.in_range row first)
    (are_kinds_for pair_format (columns_in_order s.pairs) None (ReadAlike (Rotor s)) (columns_told s legal)
    (columns_are_in_form s legal) 13 thirteen columns are.1.count are.1.in_range col second)
    (λ good. good, λ good. good) (λ good of also. Expanded good are (of, also))

pub bars_by_kind : (m : PinParts) (s : PinDay) (rows columns : List ℤ) (row : List BarKind) (col : List RowKind)
    → IsMachine (Pin m) → IsLegalDay (Pin s) → ArePrices (Bars rows columns)
    → model_of (Pin m) ≡ day_model (Pin s) → AreGrouped bar_format m.bars rows row
    → AreGrouped row_format s.rows columns col → (result : Option PriceParts)
    → MatchOption result (¬ (ArePrices (BarKinds (record { items = row }) (record { items = col }))))
    (λ made. made ≡ BarKinds (record { items = row }) (record { items = col })) → IfSome result ArePrices
    → ArePricesByKind (Pin m) (Pin s) (Bars rows columns) result
bars_by_kind m s rows columns row col machine legal are same first second =
    made_by_kind bar_format row_format (Pin m) (Pin s) (Bars rows columns)
    (BarKinds (record { items = row }) (record { items = col })) m.bars s.rows row col same tt refl
    (are_kinds_for bar_format m.bars (One, One) (StandAlike (Pin m)) (each_told m.bars (One, One)) machine.legal.apart
    27 machine.legal.bars rows are.0.count are.0.in_range row first)
    (are_kinds_for row_format s.rows (0, 0) (ReadAlike (Pin s)) (each_told s.rows (0, 0)) legal.rows 27 legal.count
    columns are.1.count are.1.in_range col second)
    (λ good. good, λ good. good) (λ good of also. Expanded good are (of, also))
