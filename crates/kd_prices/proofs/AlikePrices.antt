-- In a card by number that proves itself, equal keys have equal prices. For equal rows have equal costs in each
-- column, and each row has a column where the two prices add up to the cost; likewise for equal columns.
use Rattle.kd_prices.proofs.Prelude.{Rotor, columns_are_the_pairs, proving_prices_are_tight}
use Rattle.kd_prices.proofs.Prelude.{AlikePricesAreEqual, AreEqualWhereAlike, ap, thirteen_columns, unwrap_or-slice_get}
use Rattle.kd_prices.proofs.Prelude.{ArePricesTight, PriceParts, StandAlike, cable_cost, slice_get_past}
use Rattle.kd_prices.proofs.Prelude.{PricesFit, ReadAlike, columns_of, get_or-map, no_rotors, slice_get, table_size, ℕ}
use Rattle.kd_prices.proofs.Prelude.{Cables, Pin, Parts, Rotor, arith, bar_cost, cost_at, get_or, length, unwrap_or}
use Rattle.kd_prices.proofs.Prelude.{Bars, Day, List, None, One, Pin, ints, map, sym, ◌<◌, ◌∙◌, ◌≡◌, ◌≤◌}

-- Prices that fit a table of costs. Each row has a column, and each column has a row, where the two prices add up
-- to the cost.
module _ {A B : Type 0} (cost : A → B → ℕ) (rows : List A) (columns : List B) (a : A) (b : B) (m : Parts) (s : Day)
    (prices : PriceParts)
    (many_rows : length rows ≡ table_size prices) (many_columns : length columns ≡ table_size prices)
    (fits : PricesFit (map (λ row. map (cost row) columns) rows) prices)
    (tight : ArePricesTight (map (λ row. map (cost row) columns) rows) prices) where
  at : (i j : ℕ) → i < table_size prices → j < table_size prices
      → cost_at (map (λ row. map (cost row) columns) rows) i j ≡ cost (get_or rows i a) (get_or columns j b)
  at i j lt lt' = grind (arith, get_or-map)

  equal_where_alike : ((i k : ℕ) → StandAlike m i k → (column : B)
      → cost (get_or rows i a) column ≡ cost (get_or rows k a) column)
      → ((j k : ℕ) → ReadAlike s j k → get_or columns j b ≡ get_or columns k b) → AreEqualWhereAlike m s prices
  equal_where_alike stand read = record {
    rows = λ i k lt lt' alike.
        let same = λ (j : ℕ) (within : j < table_size prices). at i j lt within ∙ stand i k alike (get_or columns j b)
        ∙ sym (at k j lt' within) in
        let one = tight.column_of i lt in
        let two = tight.column_of k lt' in
        omega (arith, ints, fits k one.0 lt' one.1, fits i two.0 lt two.1, same one.0 one.1, same two.0 two.1);
    columns = λ j k lt lt' alike.
        let same = λ (i : ℕ) (within : i < table_size prices). at i j within lt
        ∙ ap (cost (get_or rows i a)) (read j k alike) ∙ sym (at i k within lt') in
        let one = tight.row_of j lt in
        let two = tight.row_of k lt' in
        omega (arith, ints, fits one.0 k one.1 lt', fits two.0 j two.1 lt, same one.0 one.1, same two.0 two.1);
  }

-- If `slice_get` finds the same at two places of a list, so does `get_or`.
pub same_at : {X : Type 0} (xs : List X) (i k : ℕ) (d : X) → slice_get xs i ≡ slice_get xs k
    → get_or xs i d ≡ get_or xs k d
same_at xs i k d e = sym (unwrap_or-slice_get xs i d) ∙ ap (λ found. unwrap_or found d) e ∙ unwrap_or-slice_get xs k d

pub nothing_at : (pairs : List (ℕ × ℕ)) (place : ℕ) → length pairs ≤ place → get_or (columns_of pairs) place None ≡ None
nothing_at pairs place past = columns_are_the_pairs pairs place ∙ slice_get_past pairs place past

pub alike_prices_are_equal : AlikePricesAreEqual
alike_prices_are_equal (Rotor m) (Rotor s) settings (Cables row column) machine legal are_prices h =
    equal_where_alike cable_cost m.cables (columns_of s.pairs) (None, None) None (Rotor m) (Rotor s)
    (Cables row column) machine.legal.cables.count (thirteen_columns s.pairs legal.pairs.few) h.fits
    (proving_prices_are_tight (Rotor m) (Rotor s) settings (Cables row column) machine legal are_prices h)
    (λ i k alike column. ap (λ cable. cable_cost cable column) (same_at m.cables i k (None, None) alike))
    (λ j k alike. nothing_at s.pairs j alike.0 ∙ sym (nothing_at s.pairs k alike.1))
alike_prices_are_equal (Pin m) (Pin s) settings (Bars row column) machine legal are_prices h =
    equal_where_alike bar_cost m.bars s.rows (One, One) (0, 0) (Pin m) (Pin s)
    (Bars row column) machine.legal.bars legal.count h.fits
    (proving_prices_are_tight (Pin m) (Pin s) settings (Bars row column) machine legal are_prices h)
    (λ i k alike column. ap (λ bar. bar_cost bar column) (same_at m.bars i k (One, One) alike))
    (λ j k alike. same_at s.rows j k (0, 0) alike)
alike_prices_are_equal (Rotor m) (Pin s) settings prices machine legal are_prices h =
    absurd (no_rotors m.model m.reflector h.model machine.legal.reflector)
alike_prices_are_equal (Pin m) (Rotor s) settings prices machine legal are_prices h =
    absurd (no_rotors s.model s.reflector (sym h.model) legal.reflector)
alike_prices_are_equal m s settings prices machine legal are_prices h = absurd h.kind
