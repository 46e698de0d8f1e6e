-- A kind is a set of equal cables, equal columns, equal bars or equal rows. A kind has a count, and the price of a
-- single member.
use Rattle.kd_card.specs.{declared.kinds.CableKind.CableKind, declared.kinds.PairKind.PairKind}
use Rattle.kd_card.specs.{declared.kinds.BarKind.BarKind, declared.kinds.RowKind.RowKind, declared.kinds.KindOf.KindOf}
use Rattle.kd_state.specs.{Costs.{column_letters, one_unless}, Machine.cable_letters}
use Rattle.kd_tables.specs.LineWords.{line_of}
use Rattle.kd_tables.specs.Text as tables
use Rattle.kd_tables.specs.Places.{standing_text, reading_text, place_rank, IsBefore, IsReading}
use Rattle.kd_tables.specs.declared.place.Place.{Place}
use Rattle.std.specs.Prelude.{codes, decimal, ◌≡◌, ℕ, ◌+◌, ◌<◌, ◌≤◌, List, [], ◌∷◌, ◌++◌, length, map, replicate}
use Rattle.std.specs.Prelude.{flat_map, ℤ, unsigned_abs, Option, Some, None, is_some, IsPermutation, zip}
use Rattle.std.specs.{Cmp.Lexicographic.slice_cmp, Fmt.signed_decimal, Ordering.nat_cmp}
use Rattle.std.specs.declared.cmp.Ordering.{Ordering, TheVariants.Less}

-- ---- keys: a cable's letters, a column's pair, a bar's standing, a row's reading

-- how a card writes the letters of a cable or a column: for example `AB` or `A`, and `-` for no letters
abbrev pub letters_text : List ℕ → List ℕ
letters_text [] = codes "-"
letters_text (letter ∷ letters) = tables.letters_text (letter ∷ letters)

-- the words of a kind's line, such as `CABLE AB 1 -2`: first word, key's text, count and price
abbrev pub kind_line : List ℕ → List ℕ → ℕ → ℤ → List (List ℕ)
kind_line word key count price = word ∷ key ∷ decimal count ∷ signed_decimal price ∷ []

-- The letters at a cable's two ends are in the form of a card. Two letters are in alphabetical order, and a single
-- letter is at the first end.
abbrev pub AreEnds : Option ℕ → Option ℕ → Type 0
AreEnds None None = Unit {0}
AreEnds None (Some other) = ⊥
AreEnds (Some one) None = one < 26
AreEnds (Some one) (Some other) = (one < other) × (other < 26)

-- A column of the table of costs is empty, or the letters of its pair are in alphabetical order.
abbrev pub IsPairInOrder : Option (ℕ × ℕ) → Type 0
IsPairInOrder None = Unit {0}
IsPairInOrder (Some pair) = (pair.0 < pair.1) × (pair.1 < 26)

-- ---- the four sorts of kinds

-- How a card writes kinds of one sort: of cables, of columns, of bars or of rows.
-- - `word`: the first word of each line.
-- - `kind`: a kind's key (letters, a standing or a reading), its count and its price.
-- - `text`: the text of a key, such as `AB`.
-- - `InForm`: which keys a card may have.
-- - `order`: the numbers by which lines are sorted. Empty cables and empty columns come last.
pub record KindFormat (K X : Type 0) : Type 1 where
  pub word : List ℕ
  pub kind : K → KindOf X
  pub text : X → List ℕ
  pub InForm : X → Type 0
  pub order : X → List ℕ

-- how a card writes kinds of cables; the key of a kind is the letters of its cables
abbrev pub cable_format : KindFormat CableKind (Option ℕ × Option ℕ)
cable_format = record {
  word = codes "CABLE";
  kind = λ k. record { key = k.ends; count = k.count; price = k.price };
  text = λ ends. letters_text (cable_letters ends);
  InForm = λ ends. AreEnds ends.0 ends.1;
  order = λ ends. one_unless (is_some ends.0) ∷ cable_letters ends;
}

-- how a card writes kinds of columns; the key of a kind is the pair of its columns, or `None` for empty columns
abbrev pub pair_format : KindFormat PairKind (Option (ℕ × ℕ))
pair_format = record {
  word = codes "PAIR";
  kind = λ k. record { key = k.pair; count = k.count; price = k.price };
  text = λ pair. letters_text (column_letters pair);
  InForm = IsPairInOrder;
  order = λ pair. one_unless (is_some pair) ∷ column_letters pair;
}

-- how a card writes kinds of bars; the key of a kind is the places of the two lugs
abbrev pub bar_format : KindFormat BarKind (Place × Place)
bar_format = record {
  word = codes "BAR";
  kind = λ k. record { key = k.standing; count = k.count; price = k.price };
  text = standing_text;
  InForm = λ standing. IsBefore standing.0 standing.1;
  order = λ standing. place_rank standing.0 ∷ place_rank standing.1 ∷ [];
}

-- how a card writes kinds of rows; the key of a kind is the two numbers of the reading
abbrev pub row_format : KindFormat RowKind (ℕ × ℕ)
row_format = record {
  word = codes "ROW";
  kind = λ k. record { key = k.reading; count = k.count; price = k.price };
  text = reading_text;
  InForm = IsReading;
  order = λ reading. reading.0 ∷ reading.1 ∷ [];
}

-- the order of two keys (letters, standings or readings) on a card
-- Code: `Kind::compare` uses the orders of Rust's tuples and options, and the derived orders of types.
abbrev pub key_cmp : {K X : Type 0} → KindFormat K X → X → X → Ordering
key_cmp format x y = slice_cmp nat_cmp (format.order x) (format.order y)

-- The key `x` comes before the key `y` in the order of a card's lines.
abbrev pub KeyComesBefore : {K X : Type 0} → KindFormat K X → X → X → Type 0
KeyComesBefore format x y = key_cmp format x y ≡ Less

-- `key` (letters, a standing or a reading) is valid on a card, and its text on a card is `text`.
pub record HasText {K X : Type 0} (format : KindFormat K X) (text : List ℕ) (key : X) : Type 0 where
  pub form : format.InForm key
  pub written : format.text key ≡ text

-- On a card, `text` is the text of `key` (letters, a standing or a reading), and of no other key.
pub record IsOnlyKey {K X : Type 0} (format : KindFormat K X) (text : List ℕ) (key : X) : Type 0 where
  pub has : HasText format text key
  pub only : (other : X) → HasText format text other → other ≡ key

-- ---- kinds of a card

-- If there is a kind `last`, the kind `next` comes after it in the order of a card's lines.
abbrev pub ComesAfter : {K X : Type 0} → KindFormat K X → Option K → K → Type 0
ComesAfter format None next = Unit {0}
ComesAfter format (Some last) next = KeyComesBefore format (format.kind last).key (format.kind next).key

-- The kind is valid. Its key may be on a card, its count is from 1 to 255, and its price is from -9999 to 9999.
pub record IsKind {K X : Type 0} (format : KindFormat K X) (kind : K) : Type 0 where
  pub form : format.InForm (format.kind kind).key
  pub some : 1 ≤ (format.kind kind).count
  pub most : (format.kind kind).count ≤ 255
  pub in_range : unsigned_abs (format.kind kind).price ≤ 9999

-- The kinds are valid and strictly ascending. If there is a kind `last`, all of `kinds` come after it.
abbrev pub AreKinds : {K X : Type 0} → KindFormat K X → Option K → List K → Type 0
AreKinds format last [] = Unit {0}
AreKinds format last (kind ∷ kinds) =
    IsKind format kind × ComesAfter format last kind × AreKinds format (Some kind) kinds

-- the number of cables, columns, bars or rows of all kinds together
abbrev pub total_count : {K X : Type 0} → KindFormat K X → List K → ℕ
total_count format [] = 0
total_count format (kind ∷ kinds) = (format.kind kind).count + total_count format kinds

-- The kinds are valid and strictly ascending, and their counts add up to `number`.
pub record IsGroup {K X : Type 0} (format : KindFormat K X) (number : ℕ) (kinds : List K) : Type 0 where
  pub in_order : AreKinds format None kinds
  pub count : total_count format kinds ≡ number

-- the keys and prices of all kinds: a kind with the count 3, for example, gives its key with its price three times
abbrev pub expansion : {X : Type 0} → List (KindOf X) → List (X × ℤ)
expansion kinds = flat_map (λ kind. replicate kind.count (kind.key, kind.price)) kinds

-- Each of `keys` has the price at the same place of `prices`. The kinds `kinds` stand for exactly these keys and
-- prices, in any order. For example, a kind with the count 3 stands for three equal keys with its price.
-- Code: `kinds_of` sorts keys with their prices, and counts equal neighbours. For each key, `prices_of` takes the price
-- of the key's kind, and lowers the kind's count.
pub record AreKindsOf {K X : Type 0} (format : KindFormat K X) (keys : List X) (prices : List ℤ) (kinds : List K)
    : Type 0 where
  pub number : length prices ≡ length keys
  pub expand : IsPermutation (zip keys prices) (expansion (map format.kind kinds))

-- ---- lines

-- the words of the line for the kind `k`
abbrev pub kind_words : {K X : Type 0} → KindFormat K X → K → List (List ℕ)
kind_words format k =
    kind_line format.word (format.text (format.kind k).key) (format.kind k).count (format.kind k).price

-- the lines of the kinds, each with LF at its end
abbrev pub kinds_text : {K X : Type 0} → KindFormat K X → List K → List ℕ
kinds_text format kinds = flat_map (λ kind. line_of (kind_words format kind) ++ 10 ∷ []) kinds

-- ---- Reading the words of a kind's line, and listing prices. No public contract cites these definitions.

-- The kind is valid, and `words` are the words of the kind's line.
pub record HasKindWords {K X : Type 0} (format : KindFormat K X) (words : List (List ℕ)) (kind : K) : Type 0 where
  pub good : IsKind format kind
  pub written : kind_words format kind ≡ words

-- the prices of all kinds: a kind with the count 3, for example, gives its price three times
abbrev pub prices_of_kinds : {K X : Type 0} → KindFormat K X → List K → List ℤ
prices_of_kinds format kinds = flat_map (λ k. replicate (format.kind k).count (format.kind k).price) kinds
