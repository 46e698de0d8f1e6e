-- The result of reading bytes as a card: the card, or the first fault. Lines are counted from 1.
use Rattle.kd_card.specs.declared.prices.CostTable.{CostTable, TheVariants.{Bars, Cables}}
use Rattle.kd_card.specs.Kinds.{KindFormat, cable_format, pair_format, bar_format, row_format, kind_words, kinds_text}
use Rattle.kd_card.specs.Kinds.{total_count, IsKind, AreKinds, ComesAfter}
use Rattle.kd_card.specs.declared.fault.CardFault.TheVariants.{BadHead, BadLine, TooMany, PriceMissing, CountWrong}
use Rattle.kd_card.specs.declared.fault.CardFault.TheVariants.{Trailing}
use Rattle.kd_card.specs.declared.prices.PriceParts.TheVariants.{Cables, Bars, CableKinds, BarKinds}
use Rattle.kd_card.specs.{CardText.{head_words, price_lines}, declared.prices.Version.Version}
use Rattle.kd_card.specs.{declared.prices.Version.TheVariants.{ByNumber, ByKind}, declared.prices.PriceParts.PriceParts}
use Rattle.kd_card.specs.Prices.{price_sum, ArePricesInRange}
use Rattle.kd_card.specs.declared.fault.CardFault.{CardFault}
use Rattle.kd_state.specs.{AnswerRules.{AnswerRule, ◌>>=◌, Yields, Finds, Demands, FindsAlways}, SheetDay.IsDayNumber}
use Rattle.kd_state.specs.{Line.{BeginsWithSettingLines, BeginsWithAllSettings}}
use Rattle.kd_tables.specs.LineWords.{words_of, line_then, IsFirstPart}
use Rattle.kd_state.specs.declared.setting.Setting.{Setting}
use Rattle.std.specs.Prelude.{codes, decimal, ◌≡◌, ◌≢◌, ℕ, ◌+◌, ◌≤◌, ◌⊎◌, List, [], ◌∷◌, ◌++◌, length, map, All, ℤ}
use Rattle.std.specs.Prelude.{Bool, true, false, Ok, Err, Option, Some, None}
use Rattle.std.specs.Fmt.{signed_decimal}

-- ---- numbers and prices as they are written

-- The byte is a decimal digit.
abbrev pub IsDigit : ℕ → Type 0
IsDigit byte = (48 ≤ byte) × (byte ≤ 57)

-- The text is an unsigned number of any length: decimal digits without leading zeros.
abbrev pub IsNumberText : List ℕ → Type 0
IsNumberText [] = ⊥
IsNumberText (digit ∷ digits) = IsDigit digit × All IsDigit digits × ((digit ≡ 48) → (digits ≡ []))

-- The text is a decimal number without leading zeros. If the first argument is `true`, the number may be negative, but
-- not `-0`.
abbrev pub IsNumeral : Bool → List ℕ → Type 0
IsNumeral false text = IsNumberText text
IsNumeral true text =
    IsNumberText text ⊎ ((digits : List ℕ) × (text ≡ 45 ∷ digits) × IsNumberText digits × (digits ≢ codes "0"))

-- ---- lines

-- The first line of `bytes` ends with LF. The list `words` is this line, split at each space. The bytes after the LF
-- are `rest`.
pub record HasLineWords (bytes : List ℕ) (words : List (List ℕ)) (rest : List ℕ) : Type 0 where
  pub line : List ℕ
  pub first : IsFirstPart 10 bytes line rest
  pub parts : words_of line ≡ words

-- The result of reading a line such as `SUM 12`: the bytes after the line, or a fault. In this example, `prefix` is
-- `SUM ` and `due` is `12`. If another number follows the prefix, the fault is `CountWrong`. If the line has another
-- form or no LF, the fault is `BadLine`.
abbrev pub IsValueAnswer : Bool → List ℕ → List ℕ → ℕ → List ℕ → AnswerRule CardFault (List ℕ)
IsValueAnswer signed prefix due line bytes = do
  found ← Finds
      (λ (found : List ℕ × List ℕ). IsNumeral signed found.0 × (bytes ≡ prefix ++ found.0 ++ 10 ∷ found.1))
      (BadLine line)
  _ ← Demands (found.0 ≡ due) CountWrong
  Yields found.1

-- The result of reading a price line: a fault, or three values. The values are the line's first word, its other words,
-- and the bytes after the line.
abbrev pub IsLineAnswer : ℕ → List ℕ → AnswerRule CardFault (List ℕ × List (List ℕ) × List ℕ)
IsLineAnswer line bytes = do
  _ ← Demands (bytes ≢ []) PriceMissing
  Finds (λ (found : List ℕ × List (List ℕ) × List ℕ). HasLineWords bytes (found.0 ∷ found.1) found.2) (BadLine line)

-- ---- the head and the settings

-- `bytes` begin with a card's first line, such as `CARD 2 DAY 31` for the day 31 and prices by kind. `rest` follows
-- this line.
pub record BeginsWithHead (bytes : List ℕ) (version : Version) (day : ℕ) (rest : List ℕ) : Type 0 where
  pub text : bytes ≡ line_then (head_words version day) rest
  pub of_month : IsDayNumber day

-- The result of reading a card's first line: the version, the day and the bytes after the line, or the fault `BadHead`.
abbrev pub IsHeadAnswer : List ℕ → AnswerRule CardFault (Version × ℕ × List ℕ)
IsHeadAnswer bytes = Finds (λ (head : Version × ℕ × List ℕ). BeginsWithHead bytes head.0 head.1 head.2) BadHead

-- The result of reading a card's settings: the settings, and the bytes after them. The settings end before the first
-- line that isn't a setting. If the first 193 lines are settings, the fault is `TooMany`.
abbrev pub IsSettingsAnswer : List ℕ → AnswerRule CardFault (List Setting × List ℕ)
IsSettingsAnswer bytes (Ok list) = BeginsWithAllSettings bytes list.0 list.1
IsSettingsAnswer bytes (Err fault) =
    ((settings : List Setting) × (rest : List ℕ) × BeginsWithSettingLines bytes settings rest × (length settings ≡ 193))
    × (fault ≡ TooMany)

-- ---- prices by number: two lines

-- the first word of the first price line: `CABLES` or `BARS` in version 1, and `CABLE` or `BAR` in version 2
abbrev pub first_text : Version → CostTable → List ℕ
first_text ByNumber Cables = codes "CABLES"
first_text ByNumber Bars = codes "BARS"
first_text ByKind Cables = cable_format.word
first_text ByKind Bars = bar_format.word

-- Which table of costs the prices are for, or a fault. The first word of the first price line names the table.
abbrev pub IsTableAnswer : Version → ℕ → List ℕ → AnswerRule CardFault CostTable
IsTableAnswer version line bytes = do
  found ← IsLineAnswer line bytes
  Finds (λ table. found.0 ≡ first_text version table) PriceMissing

-- The result of reading `words` as `number` prices: the prices, or a fault. If a word isn't a price, the fault is
-- `BadLine line`. If there are more or fewer prices than `number`, the fault is `PriceMissing`.
abbrev pub IsPricesAnswer : ℕ → ℕ → List (List ℕ) → AnswerRule CardFault (List ℤ)
IsPricesAnswer number line words = do
  prices ← Finds (λ prices. (words ≡ map signed_decimal prices) × ArePricesInRange prices) (BadLine line)
  _ ← Demands (length prices ≡ number) PriceMissing
  Yields prices

-- The result of reading a line that has `word` and then `number` prices: the prices and the following bytes, or a
-- fault.
abbrev pub IsPriceLineAnswer : List ℕ → ℕ → ℕ → List ℕ → AnswerRule CardFault (List ℤ × List ℕ)
IsPriceLineAnswer word number line bytes = do
  found ← IsLineAnswer line bytes
  _ ← Demands (found.0 ≡ word) PriceMissing
  prices ← IsPricesAnswer number line found.1
  Yields (prices, found.2)

-- The result of reading two price lines: both lists of prices and the following bytes, or a fault. Each line has a
-- first word and then `number` prices. The first line is for the rows of the table of costs, and the second line is for
-- its columns.
abbrev pub IsListsAnswer : List ℕ → List ℕ → ℕ → ℕ → List ℕ → AnswerRule CardFault (List ℤ × List ℤ × List ℕ)
IsListsAnswer row_word column_word number line bytes = do
  rows ← IsPriceLineAnswer row_word number line bytes
  columns ← IsPriceLineAnswer column_word number (line + 1) rows.1
  Yields (rows.0, columns.0, columns.1)

-- ---- prices by kind: two groups of lines

-- The first line of `bytes` ends with LF, and its first word is `word`.
pub record BeginsWithWord (word bytes : List ℕ) : Type 0 where
  pub behind : List (List ℕ)
  pub rest : List ℕ
  pub has : HasLineWords bytes (word ∷ behind) rest

-- A group of lines with the first word `word` ends before `bytes`. Either `bytes` are empty, or their first line ends
-- with LF and has another first word.
pub data EndsGroup (word bytes : List ℕ) : Type 0 where
  AtNothing : bytes ≡ [] → EndsGroup word bytes
  AtOther : (other : List ℕ) → BeginsWithWord other bytes → other ≢ word → EndsGroup word bytes

-- The first line of `bytes` is the line of `kind`, and `rest` follows this line. The kind is valid. If there is a kind
-- `last`, `kind` comes after `last` in the order of a card's lines.
pub record IsNextKind {K X : Type 0} (format : KindFormat K X) (last : Option K) (bytes : List ℕ) (kind : K)
    (rest : List ℕ) : Type 0 where
  pub good : IsKind format kind
  pub after : ComesAfter format last kind
  pub line : HasLineWords bytes (kind_words format kind) rest

-- `bytes` don't begin with the line of a valid kind that may follow the kind `last`.
abbrev pub HasNoNext : {K X : Type 0} → KindFormat K X → Option K → List ℕ → Type 0
HasNoNext {K} format last bytes = (kind : K) (rest : List ℕ) → ¬ (IsNextKind format last bytes kind rest)

-- the last kind in the list `kinds`, or `last` if this list is empty
abbrev pub last_of : {K : Type 0} → Option K → List K → Option K
last_of last [] = last
last_of last (kind ∷ kinds) = last_of (Some kind) kinds

-- `bytes` begin with the lines of `kinds`, and `rest` follows these lines. The kinds are valid and strictly ascending.
-- If there is a kind `last`, all of `kinds` come after it. No further kind can be read: `rest` doesn't begin with the
-- line of a valid kind that could come next.
pub record BeginsWithKinds {K X : Type 0} (format : KindFormat K X) (last : Option K) (bytes : List ℕ) (kinds : List K)
    (rest : List ℕ) : Type 0 where
  pub lines : bytes ≡ kinds_text format kinds ++ rest
  pub in_order : AreKinds format last kinds
  pub none_more : HasNoNext format (last_of last kinds) rest

-- The result of reading a group of kinds: the kinds and the bytes after them, or a fault.
-- - `BadLine`: the line after the kinds has no LF, or has the group's first word but isn't the line of a valid next
--   kind.
-- - `PriceMissing`: the kinds' counts don't add up to `number`.
-- Code: the reader keeps at most `number` kinds, and stops adding counts at `number + 1`.
abbrev pub IsGroupAnswer : {K X : Type 0} → KindFormat K X → ℕ → ℕ → List ℕ → AnswerRule CardFault (List K × List ℕ)
IsGroupAnswer {K} format number line bytes = do
  group ← FindsAlways (λ (group : List K × List ℕ). BeginsWithKinds format None bytes group.0 group.1)
  _ ← Demands (EndsGroup format.word group.1) (BadLine (line + length group.0))
  _ ← Demands (total_count format group.0 ≡ number) PriceMissing
  Yields group

-- The result of reading two groups of kinds: both groups and the bytes after them, or a fault. The first group is for
-- the rows of the table of costs, and the second group for its columns.
abbrev pub IsGroupsAnswer : {R X C Y : Type 0} → KindFormat R X → KindFormat C Y → ℕ → ℕ → List ℕ
    → AnswerRule CardFault (List R × List C × List ℕ)
IsGroupsAnswer row_format column_format number line bytes = do
  rows ← IsGroupAnswer row_format number line bytes
  columns ← IsGroupAnswer column_format number (line + length rows.0) rows.1
  Yields (rows.0, columns.0, columns.1)

-- ---- the card

-- The result of reading the prices for one table of costs. The first price line is line `line` of the card.
abbrev pub IsTablePricesAnswer : Version → CostTable → ℕ → List ℕ → AnswerRule CardFault (PriceParts × List ℕ)
IsTablePricesAnswer ByNumber Cables line bytes = do
  lists ← IsListsAnswer (codes "CABLES") (codes "PAIRS") 13 line bytes
  Yields (Cables lists.0 lists.1, lists.2)
IsTablePricesAnswer ByNumber Bars line bytes = do
  lists ← IsListsAnswer (codes "BARS") (codes "ROWS") 27 line bytes
  Yields (Bars lists.0 lists.1, lists.2)
IsTablePricesAnswer ByKind Cables line bytes = do
  groups ← IsGroupsAnswer cable_format pair_format 13 line bytes
  Yields (CableKinds (record { items = groups.0 }) (record { items = groups.1 }), groups.2)
IsTablePricesAnswer ByKind Bars line bytes = do
  groups ← IsGroupsAnswer bar_format row_format 27 line bytes
  Yields (BarKinds (record { items = groups.0 }) (record { items = groups.1 }), groups.2)

-- The result of reading a card's prices from line `line` on: the prices and the following bytes, or a fault.
abbrev pub IsAllPricesAnswer : Version → ℕ → List ℕ → AnswerRule CardFault (PriceParts × List ℕ)
IsAllPricesAnswer version line bytes = do
  table ← IsTableAnswer version line bytes
  IsTablePricesAnswer version table line bytes

-- The result of reading a card from the line `SETTINGS` on: the card's day, settings and prices, or a fault. The day
-- and the settings come from the lines above `SETTINGS`.
abbrev pub IsRestAnswer : Version → ℕ → List Setting → ℕ → List ℕ → AnswerRule CardFault (ℕ × List Setting × PriceParts)
IsRestAnswer version day settings number bytes = do
  rest ← IsValueAnswer false (codes "SETTINGS ") (decimal number) (number + 2) bytes
  prices ← IsAllPricesAnswer version (number + 3) rest
  end ← IsValueAnswer true (codes "SUM ") (signed_decimal (price_sum prices.0))
      (number + 3 + length (price_lines prices.0)) prices.1
  _ ← Demands (end ≡ []) Trailing
  Yields (day, settings, prices.0)

-- The result of reading `bytes` as a card: its day, its settings and its prices, or the first fault.
abbrev pub IsCardAnswer : List ℕ → AnswerRule CardFault (ℕ × List Setting × PriceParts)
IsCardAnswer bytes = do
  head ← IsHeadAnswer bytes
  list ← IsSettingsAnswer head.2
  IsRestAnswer head.0 head.1 list.0 (length list.0) list.1

-- `fault` is the first fault of `bytes`, which aren't a card.
abbrev pub IsCardFault : List ℕ → CardFault → Type 0
IsCardFault bytes fault = IsCardAnswer bytes (Err fault)
