-- The text of a card: lines that end with LF. In each line, one space stands between two words.
use Rattle.kd_card.specs.Kinds.{kind_line, letters_text}
use Rattle.kd_card.specs.declared.prices.PriceParts.TheVariants.{Cables, Bars, CableKinds, BarKinds}
use Rattle.kd_card.specs.{declared.prices.Version.Version}
use Rattle.kd_card.specs.{declared.prices.Version.TheVariants.{ByNumber, ByKind}, declared.prices.PriceParts.PriceParts}
use Rattle.kd_card.specs.{Prices.{version_of, price_sum, ArePrices}}
use Rattle.kd_state.specs.{Line.{setting_words, IsSettingInRange}, declared.setting.Setting.Setting}
use Rattle.kd_tables.specs.LineWords.{line_of}
use Rattle.kd_state.specs.{Costs.column_letters, Machine.cable_letters, SheetDay.IsDayNumber}
use Rattle.kd_tables.specs.Places.{standing_text, reading_text}
use Rattle.std.specs.Prelude.{codes, decimal, ◌≡◌, ℕ, ◌≤◌, List, [], ◌∷◌, ◌++◌, length, map, All}
use Rattle.std.specs.{Fmt.signed_decimal, List.flat_map}

-- the words of a card's first line, such as `CARD 2 DAY 31`. Version 1 has prices by number, and version 2 has prices
-- by kind.
abbrev pub head_words : Version → ℕ → List (List ℕ)
head_words ByNumber day = codes "CARD" ∷ codes "1" ∷ codes "DAY" ∷ decimal day ∷ []
head_words ByKind day = codes "CARD" ∷ codes "2" ∷ codes "DAY" ∷ decimal day ∷ []

-- the text of `lines`: the words of each line with single spaces between them, and then LF
abbrev pub lines_text : List (List (List ℕ)) → List ℕ
lines_text lines = flat_map (λ words. line_of words ++ 10 ∷ []) lines

-- the price lines, as lists of words: a line for each kind, or two lines of prices by number
abbrev pub price_lines : PriceParts → List (List (List ℕ))
price_lines (Cables cables columns) =
    (codes "CABLES" ∷ map signed_decimal cables) ∷ (codes "PAIRS" ∷ map signed_decimal columns) ∷ []
price_lines (Bars bars rows) = (codes "BARS" ∷ map signed_decimal bars) ∷ (codes "ROWS" ∷ map signed_decimal rows) ∷ []
price_lines (CableKinds cables columns) =
    map (λ k. kind_line (codes "CABLE") (letters_text (cable_letters k.ends)) k.count k.price) cables.items
    ++ map (λ k. kind_line (codes "PAIR") (letters_text (column_letters k.pair)) k.count k.price) columns.items
price_lines (BarKinds bars rows) =
    map (λ k. kind_line (codes "BAR") (standing_text k.standing) k.count k.price) bars.items
    ++ map (λ k. kind_line (codes "ROW") (reading_text k.reading) k.count k.price) rows.items

-- the text of a card: first line, settings, number of settings, prices, and sum of prices
abbrev pub card_text : ℕ → List Setting → PriceParts → List ℕ
card_text day settings prices = lines_text (
    head_words (version_of prices) day ∷ map setting_words settings
    ++ (codes "SETTINGS" ∷ decimal (length settings) ∷ []) ∷ price_lines prices
    ++ (codes "SUM" ∷ signed_decimal (price_sum prices) ∷ []) ∷ [])

-- `bytes` are the text of the card with `day`, `settings` and `prices`, all of which are valid.
pub record IsCard (bytes : List ℕ) (day : ℕ) (settings : List Setting) (prices : PriceParts) : Type 0 where
  pub text : bytes ≡ card_text day settings prices
  pub of_month : IsDayNumber day
  pub in_range : All IsSettingInRange settings
  pub few : length settings ≤ 192
  pub are_prices : ArePrices prices
