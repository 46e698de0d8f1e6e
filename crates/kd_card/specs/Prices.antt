-- The prices of a card, and when they fit a table of costs. A rotor machine's table has a row for each cable, and 13
-- columns: the day's pairs, and then empty columns. A Converter's table has a row for each bar, and a column for each
-- row of the sheet. Rows and columns are counted from 0. With prices *by number*, each row and each column has its own
-- price. With prices *by kind*, equal rows share one price, and so do equal columns.
use Rattle.kd_card.specs.Kinds.{cable_format, pair_format, bar_format, row_format, IsGroup}
use Rattle.kd_card.specs.declared.prices.PriceParts.TheVariants.{Cables, Bars, CableKinds, BarKinds}
use Rattle.kd_card.specs.{declared.prices.Version.TheVariants.{ByNumber, ByKind}, declared.prices.PriceParts.PriceParts}
use Rattle.kd_card.specs.declared.prices.Version.{Version}
use Rattle.std.specs.Prelude.{◌≡◌, ℕ, ◌<◌, ◌≤◌, List, [], ◌++◌, length, All, fold, slice_index, slice_index_or, ℤ}
use Rattle.std.specs.Prelude.{pos, unsigned_abs, ◌+ℤ◌, ◌≤ℤ◌, flat_map, replicate}

-- whether the prices are by number or by kind
abbrev pub version_of : PriceParts → Version
version_of (CableKinds cables columns) = ByKind
version_of (BarKinds bars rows) = ByKind
version_of _ = ByNumber

-- the prices of all cables or all bars; with prices by kind, a kind with the count 3 gives its price three times
abbrev pub machine_prices : PriceParts → List ℤ
machine_prices (Cables cables columns) = cables
machine_prices (Bars bars rows) = bars
machine_prices (CableKinds cables columns) = flat_map (λ k. replicate k.count k.price) cables.items
machine_prices (BarKinds bars rows) = flat_map (λ k. replicate k.count k.price) bars.items

-- the prices of the day's columns or rows; with prices by kind, a kind with the count 3 gives its price three times
abbrev pub day_prices : PriceParts → List ℤ
day_prices (Cables cables columns) = columns
day_prices (Bars bars rows) = rows
day_prices (CableKinds cables columns) = flat_map (λ k. replicate k.count k.price) columns.items
day_prices (BarKinds bars rows) = flat_map (λ k. replicate k.count k.price) rows.items

-- the number of rows of the table of costs, which is also its number of columns
abbrev pub table_size : PriceParts → ℕ
table_size (Cables cables columns) = 13
table_size (CableKinds cables columns) = 13
table_size _ = 27

-- All prices are from -9999 to 9999.
abbrev pub ArePricesInRange : List ℤ → Type 0
ArePricesInRange prices = All (λ price. unsigned_abs price ≤ 9999) prices

-- There are `number` prices, each from -9999 to 9999.
pub record IsPriceList (number : ℕ) (prices : List ℤ) : Type 0 where
  pub count : length prices ≡ number
  pub in_range : ArePricesInRange prices

-- Each row and column of the table of costs has a price from -9999 to 9999. If the prices are by kind, the kinds are
-- valid and strictly ascending.
abbrev pub ArePrices : PriceParts → Type 0
ArePrices (Cables cables columns) = IsPriceList 13 cables × IsPriceList 13 columns
ArePrices (Bars bars rows) = IsPriceList 27 bars × IsPriceList 27 rows
ArePrices (CableKinds cables columns) = IsGroup cable_format 13 cables.items × IsGroup pair_format 13 columns.items
ArePrices (BarKinds bars rows) = IsGroup bar_format 27 bars.items × IsGroup row_format 27 rows.items

-- the cost in row `i` and column `j`
abbrev pub cost_at : List (List ℕ) → ℕ → ℕ → ℕ
cost_at costs i j = slice_index (slice_index_or costs i []) j

-- item `i` of a list of prices, counted from 0. In a list of prices by number, it is the price of row or column `i`.
abbrev pub price_at : List ℤ → ℕ → ℤ
price_at prices i = slice_index_or prices i (pos 0)

-- The prices of row `i` and column `j` add up to at most the cost in their cell.
abbrev pub PricesFitAt : List (List ℕ) → PriceParts → ℕ → ℕ → Type 0
PricesFitAt costs prices i j =
    (price_at (machine_prices prices) i +ℤ price_at (day_prices prices) j) ≤ℤ pos (cost_at costs i j)

-- In each cell of the table, the prices of its row and column add up to at most the cost.
abbrev pub PricesFit : List (List ℕ) → PriceParts → Type 0
PricesFit costs prices = (i j : ℕ) → i < table_size prices → j < table_size prices → PricesFitAt costs prices i j

-- the sum of all prices: of the machine's cables or bars, and of the day's columns or rows
abbrev pub price_sum : PriceParts → ℤ
price_sum prices = fold (λ sum price. sum +ℤ price) (pos 0) (machine_prices prices ++ day_prices prices)

-- The prices of row `i` and column `j` add up to exactly the cost in their cell.
abbrev pub IsPriceTightAt : List (List ℕ) → PriceParts → ℕ → ℕ → Type 0
IsPriceTightAt costs prices i j =
    (price_at (machine_prices prices) i +ℤ price_at (day_prices prices) j) ≡ pos (cost_at costs i j)

-- Each row and each column of the table of costs has a tight cell. In a tight cell, the prices of row and column add up
-- to exactly the cost.
pub record ArePricesTight (costs : List (List ℕ)) (prices : PriceParts) : Type 0 where
  pub column_of : (i : ℕ) → i < table_size prices → (j : ℕ) × (j < table_size prices) × IsPriceTightAt costs prices i j
  pub row_of : (j : ℕ) → j < table_size prices → (i : ℕ) × (i < table_size prices) × IsPriceTightAt costs prices i j
