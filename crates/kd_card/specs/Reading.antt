-- Conditions in the contracts of private functions that read a card. No public contract cites this file.
use Rattle.kd_card.specs.{declared.prices.Version.TheVariants.{ByNumber, ByKind}, CardFault.IsPriceLineAnswer}
use Rattle.kd_card.specs.CardFault.{EndsGroup, HasNoNext}
use Rattle.kd_card.specs.{Kinds.{KindFormat, HasKindWords}, declared.prices.Version.Version}
use Rattle.kd_card.specs.declared.fault.CardFault.{CardFault}
use Rattle.kd_tables.specs.LineWords.{words_of}
use Rattle.std.specs.Prelude.{codes, ◌≡◌, ◌<◌, ◌≤◌, ℕ, ℤ, unsigned_abs, List, [], Option, Some, None, Err}
use Rattle.std.specs.Fmt.{signed_decimal}

-- the words of a line after its first word. The argument is the line's text after its first space, or `None` if the
-- line has no space.
abbrev pub words_after_first : Option (List ℕ) → List (List ℕ)
words_after_first None = []
words_after_first (Some text) = words_of text

-- The word is a price from -9999 to 9999, as a card writes it: for example, `-12`.
abbrev pub IsPriceText : List ℕ → Type 0
IsPriceText word = (price : ℤ) × (unsigned_abs price ≤ 9999) × (signed_decimal price ≡ word)

-- the text before the day's number in a card's first line, such as `CARD 1 DAY `
abbrev pub head_prefix : Version → List ℕ
head_prefix ByNumber = codes "CARD 1 DAY "
head_prefix ByKind = codes "CARD 2 DAY "

-- The first line of `bytes` isn't a price line with the first word `word`. The fault is `fault`, whether one price or
-- more are expected. `line` is the number of this line on the card.
abbrev pub IsNoPriceLine : List ℕ → ℕ → List ℕ → CardFault → Type 0
IsNoPriceLine word line bytes fault =
    (number : ℕ) → 0 < number → IsPriceLineAnswer word number line bytes (Err fault)

-- A group of kinds ends before `bytes`; `last` is the group's last kind, if it has one.
pub record EndsKindsAt {K X : Type 0} (format : KindFormat K X) (last : Option K) (bytes : List ℕ) : Type 0 where
  pub ends : EndsGroup format.word bytes
  pub none_more : HasNoNext format last bytes

-- The group of kinds doesn't end before `bytes`, but the first line of `bytes` is bad. A bad line has no LF, isn't the
-- line of a valid kind, or has a kind that doesn't come after `last`.
pub record IsBadKindAt {K X : Type 0} (format : KindFormat K X) (last : Option K) (bytes : List ℕ) : Type 0 where
  pub goes_on : ¬ (EndsGroup format.word bytes)
  pub none_more : HasNoNext format last bytes

-- `kind` is valid, and its line has the words `words`. No valid kind with another key has the same words in its line.
pub record IsKindOfWords {K X : Type 0} (format : KindFormat K X) (words : List (List ℕ)) (kind : K) : Type 0 where
  pub has : HasKindWords format words kind
  pub only : (other : K) → HasKindWords format words other → (format.kind other).key ≡ (format.kind kind).key
