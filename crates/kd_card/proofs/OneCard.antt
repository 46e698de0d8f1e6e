-- Bytes are the text of at most one card, and have at most one first fault; never both.
pub mod KindPrices
unfoldable pub use KindPrices.*

-- ---- texts that determine what they describe

same_pair : {A B : Type 0} (x y : A × B) → x.0 ≡ y.0 → x.1 ≡ y.1 → x ≡ y
same_pair (a, b) (c, d) e f = cc

same_prices : (ps qs : List ℤ) → AllByRecursion (λ p. unsigned_abs p ≤ 9999) ps
    → AllByRecursion (λ p. unsigned_abs p ≤ 9999) qs → map signed_decimal ps ≡ map signed_decimal qs → ps ≡ qs
same_prices [] [] a b e = refl
same_prices (p ∷ ps) (q ∷ qs) a b e =
    cc (signed_decimal_injective p q (mag-small p a.0) (mag-small q b.0) (cc), same_prices ps qs a.1 b.1 (cc))
same_prices ps qs a b e = absurd (omega (arith, ap length e))

-- the first and the third letter, which distinguish the line after the settings from the line of a setting
abbrev first_and_third : List ℕ → ℕ
first_and_third line = get_or line 0 0 * 256 + get_or line 2 0

no_setting : (x : Setting) (rest : List ℕ) → first_and_third (setting_line x ++ 10 ∷ rest) ≢ 21332
no_setting x rest = grind arith

-- ---- what the steps of reading say about the bytes if all succeed

-- `bytes` are the lines of these prices, and then `rest`.
pub record AreAllPriceLines (by : Version) (bytes : List ℕ) (prices : PriceParts) (rest : List ℕ) : Type 0 where
  version : version_of prices ≡ by
  text : bytes ≡ lines_text (price_lines prices) ++ rest
  pub are : ArePrices prices

-- If two lists of prices are read from `bytes`, these are the lines of the prices, and then the rest; and both lists
-- are valid.
pub lists_said : (row_word column_word : List ℕ) (number line : ℕ) {bytes : List ℕ} (x : List ℤ × List ℤ × List ℕ)
    → IsListsAnswer row_word column_word number line bytes (Ok x)
    → (bytes ≡ lines_text (price_words row_word x.0 ∷ price_words column_word x.1 ∷ []) ++ x.2)
    × IsPriceList number x.0 × IsPriceList number x.1
lists_said row_word column_word number line {bytes} x says =
    let rows = ThenNext-Ok says in
    let columns = ThenNext-Ok rows.next in
    let row = line_said rows.found rows.says in
    let column = line_said columns.found columns.says in
    rw (Yields-Ok columns.next) (
      row.text ∙ ap (line_then (price_words row_word rows.found.0)) column.text
          ∙ sym (two_lines (price_words row_word rows.found.0) (price_words column_word columns.found.0)
          columns.found.1),
      row.list,
      column.list,
    )

-- If two groups of kinds are read from `bytes`, these are the lines of the kinds, and then the rest; and both
-- groups are valid.
pub groups_said : {R X C Y : Type 0} (rows : KindFormat R X) (columns : KindFormat C Y) (number line : ℕ)
    {bytes : List ℕ} (x : List R × List C × List ℕ) → IsGroupsAnswer rows columns number line bytes (Ok x)
    → (bytes ≡ lines_text (map (kind_words rows) x.0 ++ map (kind_words columns) x.1) ++ x.2)
    × IsGroup rows number x.0 × IsGroup columns number x.1
groups_said {R} {C} rows columns number line {bytes} x says =
    grind (arith, common_steps, ThenNext-Ok, append_assoc, text_of_two, Yields-Ok)

pub of_table : (version : Version) (table : CostTable) (line : ℕ) {bytes : List ℕ} (x : PriceParts × List ℕ)
    → IsTablePricesAnswer version table line bytes (Ok x) → AreAllPriceLines version bytes x.0 x.1
of_table ByNumber Cables line {bytes} x says =
    let lists = ThenNext-Ok says in
    let said = lists_said (codes "CABLES") (codes "PAIRS") 13 line lists.found lists.says in
    rw (Yields-Ok lists.next) (record { version = refl; text = said.0; are = (said.1, said.2) })
of_table ByNumber Bars line {bytes} x says =
    let lists = ThenNext-Ok says in
    let said = lists_said (codes "BARS") (codes "ROWS") 27 line lists.found lists.says in
    rw (Yields-Ok lists.next) (record { version = refl; text = said.0; are = (said.1, said.2) })
of_table ByKind Cables line {bytes} x says =
    let groups = ThenNext-Ok says in
    let said = groups_said cable_format pair_format 13 line groups.found groups.says in
    rw (Yields-Ok groups.next) (record { version = refl; text = said.0; are = (said.1, said.2) })
of_table ByKind Bars line {bytes} x says =
    let groups = ThenNext-Ok says in
    let said = groups_said bar_format row_format 27 line groups.found groups.says in
    rw (Yields-Ok groups.next) (record { version = refl; text = said.0; are = (said.1, said.2) })

pub up_to_settings : {bytes : List ℕ} {version : Version} {day : ℕ} {body : List ℕ} {xs : List Setting} {rest : List ℕ}
    {number : ℕ}
    {answer : Result (ℕ × List Setting × PriceParts) CardFault} → BeginsWithHead bytes version day body
    → BeginsWithAllSettings body xs rest
    → number ≡ length xs → IsRestAnswer version day xs number rest answer → IsCardAnswer bytes answer
up_to_settings {version} {day} {body} {xs} {rest} {answer} head list count says =
    GoesOn (version, day, body) head (GoesOn (xs, rest) list
    (subst (λ n. IsRestAnswer version day xs n rest answer) count says))

pub card_said : {bytes : List ℕ} (x : ℕ × List Setting × PriceParts) → IsCardAnswer bytes (Ok x)
    → IsCard bytes x.0 x.1 x.2
card_said {bytes} x says =
    let head = ThenNext-Ok says in
    let list = ThenNext-Ok head.next in
    let number = ThenNext-Ok list.next in
    let all = ThenNext-Ok number.next in
    let sum = ThenNext-Ok all.next in
    let end = ThenNext-Ok sum.next in
    let are = of_table head.found.0 _ _ all.found (ThenNext-Ok all.says).next in
    let xs = list.found.0 in
    let prices = all.found.0 in
    let last = value_said true (codes "SUM ") _ _ sum.says ∙ ap (line_then (sum_words (price_sum prices))) end.says in
    let behind = are.text ∙ ap (λ t. lines_text (price_lines prices) ++ t) last in
    let counted =
    value_said false (codes "SETTINGS ") _ _ number.says ∙ ap (line_then (settings_words (length xs))) behind in
    let body = list.says.lines.lines ∙ ap (λ t. list_text xs ++ t) counted in
    rw (Yields-Ok end.next) (record {
      text =
          head.says.text ∙ ap (λ v. line_then (head_words v head.found.1) head.found.2) (sym are.version)
          ∙ ap (line_then (head_words (version_of prices) head.found.1)) body
          ∙ sym (card_and_more head.found.1 xs prices []) ∙ append-nil (card_text head.found.1 xs prices);
      of_month = head.says.of_month;
      in_range = list.says.lines.in_range;
      few = list.says.few;
      are_prices = are.are;
    })

-- Each rule of reading has at most one right answer, because each of its steps has.
ruleset one_answer = (HasOneAnswer-ThenNext, HasOneAnswer-Demands, HasOneAnswer-Yields)

-- ---- lines of prices

same_line : {bytes : List ℕ} (x y : List ℕ × List (List ℕ) × List ℕ) → HasLineWords bytes (x.0 ∷ x.1) x.2
    → HasLineWords bytes (y.0 ∷ y.1) y.2 → x ≡ y
same_line (_, _, _) (_, _, _) a b = let same = same_words a b in cc

only_line : (line : ℕ) (bytes : List ℕ) → HasOneAnswer (IsLineAnswer line bytes)
only_line line bytes = search (rules, one_answer, HasOneAnswer-Finds, same_line)

only_price_line : (word : List ℕ) (number line : ℕ) (bytes : List ℕ)
    → HasOneAnswer (IsPriceLineAnswer word number line bytes)
only_price_line word number line bytes =
    HasOneAnswer-ThenNext (only_line line bytes)
    (λ found says. HasOneAnswer-ThenNext (HasOneAnswer-Demands _ _)
    (λ first is. HasOneAnswer-ThenNext
    (HasOneAnswer-ThenNext
    (HasOneAnswer-Finds _ (λ ps qs a b.
    same_prices ps qs (recursion_from_All _ ps a.1) (recursion_from_All _ qs b.1) (sym a.0 ∙ b.0)))
    (λ prices are. HasOneAnswer-ThenNext (HasOneAnswer-Demands _ _) (λ all count. HasOneAnswer-Yields prices)))
    (λ prices are. HasOneAnswer-Yields _)))

-- The line of a word and prices, and how it is read.
line_of_prices : (word : List ℕ) (prices : List ℤ) (rest : List ℕ) {bytes : List ℕ} → IsWord word
    → ArePricesInRange prices → bytes ≡ line_then (price_words word prices) rest
    → HasLineWords bytes (price_words word prices) rest
line_of_prices word prices rest is_word in_range e =
    line_has_words (price_words word prices) rest (λ none. cc) (prices_are_words word prices is_word in_range) e

price_line_says : {word : List ℕ} {number line : ℕ} {bytes : List ℕ} (prices : List ℤ) {rest : List ℕ}
    → HasLineWords bytes (price_words word prices) rest → IsPriceList number prices
    → IsPriceLineAnswer word number line bytes (Ok (prices, rest))
price_line_says prices has list =
    line_read has (GoesOn prices (refl, list.in_range) (GoesOn tt list.count refl))

-- ---- groups of kinds

module _ {K X : Type 0} {format : KindFormat K X} (is : IsFormat format) where
  next_kind : {last : Option K} (kind : K) (kinds : List K) (rest : List ℕ) {bytes : List ℕ}
      → AreKinds format last (kind ∷ kinds) → bytes ≡ kinds_text format (kind ∷ kinds) ++ rest
      → IsNextKind format last bytes kind (kinds_text format kinds ++ rest)
  next_kind kind kinds rest are e = record {
    good = are.0;
    after = are.1;
    line = line_has_words (kind_words format kind) (kinds_text format kinds ++ rest) (λ none. cc)
        (kind_is_words is kind are.0) (e ∙ text_of_more_kinds format kind kinds rest);
  }

  behind : {last : Option K} {kind : K} {kinds : List K} {bytes rest : List ℕ}
      → BeginsWithKinds format last bytes (kind ∷ kinds) rest
      → BeginsWithKinds format (Some kind) (kinds_text format kinds ++ rest) kinds rest
  behind b = record { lines = refl; in_order = b.in_order.2; none_more = b.none_more }

  kinds_end : (last : Option K) (xs ys : List K) {bytes : List ℕ} (rest more : List ℕ)
      → BeginsWithKinds format last bytes xs rest → BeginsWithKinds format last bytes ys more
      → (xs ≡ ys) × (rest ≡ more)
  kinds_end last [] [] rest more a b = (refl, sym a.lines ∙ b.lines)
  kinds_end last [] (y ∷ ys) rest more a b =
      absurd (a.none_more y (kinds_text format ys ++ more) (next_kind y ys more b.in_order (sym a.lines ∙ b.lines)))
  kinds_end last (x ∷ xs) [] rest more a b =
      absurd (b.none_more x (kinds_text format xs ++ rest) (next_kind x xs rest a.in_order (sym b.lines ∙ a.lines)))
  kinds_end last (x ∷ xs) (y ∷ ys) rest more a b =
      let first = next_kind x xs rest a.in_order a.lines in
      let same = same_words first.line (next_kind y ys more b.in_order b.lines).line in
      let heads : x ≡ y = same_kind is x y a.in_order.0 b.in_order.0 same.0 in
      let tails = kinds_end (Some x) xs ys rest more (behind a) (rw (heads, same.1) (behind b)) in (cc, tails.1)

  only_group : (number line : ℕ) (bytes : List ℕ) → HasOneAnswer (IsGroupAnswer format number line bytes)
  only_group number line bytes =
      HasOneAnswer-ThenNext (HasOneAnswer-FindsAlways
      (λ x y a b. let same = kinds_end None x.0 y.0 x.1 y.1 a b in same_pair x y same.0 same.1))
      (λ group takes. HasOneAnswer-ThenNext (HasOneAnswer-Demands _ _)
      (λ end ends. HasOneAnswer-ThenNext (HasOneAnswer-Demands _ _) (λ all count. HasOneAnswer-Yields group)))

  group_says : {number : ℕ} (line : ℕ) {bytes : List ℕ} (kinds : List K) (rest : List ℕ)
      → IsGroup format number kinds → bytes ≡ kinds_text format kinds ++ rest → EndsGroup format.word rest
      → IsGroupAnswer format number line bytes (Ok (kinds, rest))
  group_says line kinds rest group e ends =
      GoesOn (kinds, rest)
      (record { lines = e; in_order = group.in_order; none_more = end_has_no_next (last_of None kinds) ends })
      (GoesOn tt ends (GoesOn tt group.count refl))

  -- A group of kinds begins with the word of its format.
  group_begins : {number : ℕ} {bytes : List ℕ} (kinds : List K) (rest : List ℕ) → 0 < number
      → IsGroup format number kinds → bytes ≡ kinds_text format kinds ++ rest → BeginsWithWord format.word bytes
  group_begins [] rest some group e = let count = group.count in absurd (omega arith)
  group_begins (kind ∷ kinds) rest some group e = kind_begins (next_kind {last = None} kind kinds rest group.in_order e)

only_groups : {R X C Y : Type 0} {rows : KindFormat R X} {columns : KindFormat C Y} → IsFormat rows → IsFormat columns
    → (number line : ℕ) (bytes : List ℕ) → HasOneAnswer (IsGroupsAnswer rows columns number line bytes)
only_groups rows columns number line bytes = search (rules, one_answer, only_group rows, only_group columns)

groups_say : {R X C Y : Type 0} {rows : KindFormat R X} {columns : KindFormat C Y} → IsFormat rows → IsFormat columns
    → columns.word ≢ rows.word → (number line : ℕ) (xs : List R) (ys : List C) {bytes : List ℕ} (rest : List ℕ)
    → 0 < number → IsGroup rows number xs → IsGroup columns number ys → EndsGroup columns.word rest
    → bytes ≡ lines_text (map (kind_words rows) xs ++ map (kind_words columns) ys) ++ rest
    → BeginsWithWord rows.word bytes × IsGroupsAnswer rows columns number line bytes (Ok (xs, ys, rest))
groups_say {rows} {columns} row column differ number line xs ys rest some a b ends e =
    let lines = e ∙ ap (λ t. t ++ rest) (text_of_two rows columns xs ys) ∙ append_assoc _ _ rest in
    let second = group_begins column ys rest some b refl in (
      group_begins row xs (kinds_text columns ys ++ rest) some a lines,
      GoesOn (xs, kinds_text columns ys ++ rest) (group_says row _ xs (kinds_text columns ys ++ rest) a lines
          (AtOther columns.word second differ)) (GoesOn (ys, rest) (group_says column _ ys rest b refl ends) refl),
    )

-- ---- the prices

only_of_table : (version : Version) (table : CostTable) (line : ℕ) (bytes : List ℕ)
    → HasOneAnswer (IsTablePricesAnswer version table line bytes)
only_of_table ByNumber Cables line bytes = search (rules, one_answer, only_price_line)
only_of_table ByNumber Bars line bytes = search (rules, one_answer, only_price_line)
only_of_table ByKind Cables line bytes = search (rules, one_answer, only_groups cables_are pairs_are)
only_of_table ByKind Bars line bytes = search (rules, one_answer, only_groups bars_are rows_are)

one_table : (word : List ℕ) (version : Version) (table other : CostTable) → word ≡ first_text version table
    → word ≡ first_text version other → table ≡ other
one_table word version table other e d = grind arith

only_all_prices : (version : Version) (line : ℕ) (bytes : List ℕ) → HasOneAnswer (IsAllPricesAnswer version line bytes)
only_all_prices version line bytes = search (rules, one_answer, only_line, only_of_table, HasOneAnswer-Finds, one_table)

lists_say : {row_word column_word : List ℕ} {number : ℕ} (line : ℕ) {bytes : List ℕ} (rows columns : List ℤ)
    (rest : List ℕ) → IsWord row_word → IsWord column_word → IsPriceList number rows → IsPriceList number columns
    → bytes ≡ lines_text (price_words row_word rows ∷ price_words column_word columns ∷ []) ++ rest
    → BeginsWithWord row_word bytes × IsListsAnswer row_word column_word number line bytes (Ok (rows, columns, rest))
lists_say {row_word} {column_word} line rows columns rest row column a b e =
    let first = line_of_prices row_word rows _ row a.in_range
    (e ∙ two_lines (price_words row_word rows) (price_words column_word columns) rest) in
    let second = line_of_prices column_word columns rest column b.in_range refl in (
      record { behind = _; rest = _; has = first },
      GoesOn (rows, _) (price_line_says rows first a) (GoesOn (columns, rest) (price_line_says columns second b) refl),
    )

all_say : (prices : PriceParts) (line : ℕ) {bytes : List ℕ} (rest : List ℕ) → ArePrices prices
    → ((word : List ℕ) → word ≢ codes "SUM" → EndsGroup word rest) → bytes ≡ lines_text (price_lines prices) ++ rest
    → IsAllPricesAnswer (version_of prices) line bytes (Ok (prices, rest))
all_say (Cables row col) line rest are ends e =
    let say = lists_say {row_word = codes "CABLES"} {column_word = codes "PAIRS"} line row col rest
    (word_by_test _ _ refl) (word_by_test _ _ refl) are.0 are.1 e in
    GoesOn Cables (GoesOn _ (first_says say.0.has) refl) (GoesOn (row, col, rest) say.1 refl)
all_say (Bars row col) line rest are ends e =
    let say = lists_say {row_word = codes "BARS"} {column_word = codes "ROWS"} line row col rest (word_by_test _ _ refl)
    (word_by_test _ _ refl) are.0 are.1 e in
    GoesOn Bars (GoesOn _ (first_says say.0.has) refl) (GoesOn (row, col, rest) say.1 refl)
all_say (CableKinds row col) line rest are ends e =
    let say = groups_say cables_are pairs_are (grind arith) 13 line row.items col.items rest (omega arith) are.0 are.1
    (ends pair_format.word (grind arith)) e in
    GoesOn Cables (GoesOn _ (first_says say.0.has) refl) (GoesOn (row.items, col.items, rest) say.1 refl)
all_say (BarKinds row col) line rest are ends e =
    let say = groups_say bars_are rows_are (grind arith) 27 line row.items col.items rest (omega arith) are.0 are.1
    (ends row_format.word (grind arith)) e in
    GoesOn Bars (GoesOn _ (first_says say.0.has) refl) (GoesOn (row.items, col.items, rest) say.1 refl)

-- ---- the head, and a name and a value

same_day : {bytes : List ℕ} {version : Version} {day other : ℕ} {rest more : List ℕ}
    → BeginsWithHead bytes version day rest → BeginsWithHead bytes version other more → (day ≡ other) × (rest ≡ more)
same_day {version} {day} {other} {rest} {more} a b =
    let same = same_values (head_prefix version) (day_unbroken day a.of_month) (day_unbroken other b.of_month)
    (a.text ∙ sym (head_text version _ _ refl)) (b.text ∙ sym (head_text version _ _ refl)) in
    grind (arith, decimal_injective)

one_head : (bytes : List ℕ) (head other : Version × ℕ × List ℕ) → BeginsWithHead bytes head.0 head.1 head.2
    → BeginsWithHead bytes other.0 other.1 other.2 → head ≡ other
one_head bytes (ByNumber, day, rest) (ByNumber, other, more) a b = cc ((same_day a b).0, (same_day a b).1)
one_head bytes (ByKind, day, rest) (ByKind, other, more) a b = cc ((same_day a b).0, (same_day a b).1)
one_head bytes (_, _, _) (_, _, _) a b = absurd (omega (arith, ap (λ text. get_or text 5 0) (sym a.text ∙ b.text)))

only_value : (signed : Bool) (prefix due : List ℕ) (line : ℕ) (bytes : List ℕ)
    → HasOneAnswer (IsValueAnswer signed prefix due line bytes)
only_value signed prefix due line bytes =
    HasOneAnswer-ThenNext
    (HasOneAnswer-Finds _ (λ x y a b.
    let same =
    same_values prefix (numeral_word signed x.0 a.0).unbroken (numeral_word signed y.0 b.0).unbroken a.1 b.1 in
    same_pair x y same.0 same.1))
    (λ found says. HasOneAnswer-ThenNext (HasOneAnswer-Demands _ _) (λ due is. HasOneAnswer-Yields _))

-- The line with the sum ends each group of kinds, because it begins with another word than their lines.
sum_ends : (sum : ℤ) (rest : List ℕ) → unsigned_abs sum < 2 ^ 64 → (word : List ℕ) → word ≢ codes "SUM"
    → EndsGroup word (line_then (sum_words sum) rest)
sum_ends sum rest near word differs =
    let has = value_line (codes "SUM") (signed_decimal sum) rest (word_by_test _ _ refl) (signed_word sum near) refl in
    AtOther (codes "SUM") (record { behind = _; rest = _; has = has }) (λ same. differs (sym same))

-- ---- the card

abbrev IsEndAnswer : List ℕ → ℕ × List Setting × PriceParts → Result (ℕ × List Setting × PriceParts) CardFault → Type 0
IsEndAnswer rest card = ThenNext (Demands (rest ≡ []) Trailing) (λ (end : Unit {0}). Yields card)

card_says : {text : List ℕ} {day : ℕ} {xs : List Setting} {prices : PriceParts}
    {answer : Result (ℕ × List Setting × PriceParts) CardFault} (rest : List ℕ)
    → IsCard text day xs prices → IsEndAnswer rest (day, xs, prices) answer → IsCardAnswer (text ++ rest) answer
card_says {day} {xs} {prices} rest card end =
    let few = card.few in
    let near = price_sum_is_small prices card.are_prices in
    let sum = line_then (sum_words (price_sum prices)) rest in
    let behind = lines_text (price_lines prices) ++ sum in
    let number = line_then (settings_words (length xs)) behind in
    GoesOn (version_of prices, day, list_text xs ++ number)
    (record { text = ap (λ t. t ++ rest) card.text ∙ card_and_more day xs prices rest; of_month = card.of_month })
    (GoesOn (xs, number) (record {
      lines = record { lines = refl; in_range = card.in_range };
      few = few;
      none_more = λ x more r e. no_setting x more (sym (ap first_and_third e));
    }) (GoesOn behind (value_says false (codes "SETTINGS ") _ _ (number_text (length xs) (omega arith)) refl)
    (GoesOn (prices, sum) (all_say prices _ sum card.are_prices (sum_ends (price_sum prices) rest near) refl)
    (GoesOn rest (value_says true (codes "SUM ") _ _ (signed_text (price_sum prices) near) refl) end))))

-- Let the bytes begin with the lines of `xs`, after which no setting follows, and also with the lines of `ys`. Then
-- `xs` is at least as long as `ys`; and if no setting follows the lines of `ys` either, the two are equal.
lists_meet : {body : List ℕ} {xs ys : List Setting} {rest more : List ℕ} → BeginsWithAllSettings body xs rest
    → BeginsWithSettingLines body ys more → (length ys ≤ length xs)
    × (BeginsWithNoSetting more → (xs ≡ ys) × (rest ≡ more))
lists_meet {body} {xs} {ys} {rest} {more} a b =
    (not_longer body xs ys rest more a.lines b a.none_more, same_end body xs ys rest more a.lines b a.none_more)

not_too_many : {body : List ℕ} {xs ys : List Setting} {rest more : List ℕ} → BeginsWithAllSettings body xs rest
    → BeginsWithSettingLines body ys more → length ys ≡ 193 → ⊥
not_too_many a b many = let few = a.few in let most = (lists_meet a b).0 in omega arith

only_settings : (bytes : List ℕ) → HasOneAnswer (IsSettingsAnswer bytes)
only_settings bytes (Ok x) (Ok y) a b = grind (arith, lists_meet a b.lines)
only_settings bytes (Ok x) (Err g) a b = absurd (not_too_many a b.0.2 b.0.3)
only_settings bytes (Err f) (Ok y) a b = absurd (not_too_many b a.0.2 a.0.3)
only_settings bytes (Err f) (Err g) a b = ap Err (a.1 ∙ sym b.1)

only_card : (bytes : List ℕ) → HasOneAnswer (IsCardAnswer bytes)
only_card bytes =
    HasOneAnswer-ThenNext (HasOneAnswer-Finds _ (one_head bytes))
    (λ head found. HasOneAnswer-ThenNext (only_settings head.2)
    (λ list begins. HasOneAnswer-ThenNext (only_value false (codes "SETTINGS ") _ _ _)
    (λ rest number. HasOneAnswer-ThenNext (only_all_prices head.0 (length list.0 + 3) rest)
    (λ prices all. HasOneAnswer-ThenNext (only_value true (codes "SUM ") _ _ _)
    (λ end sum. HasOneAnswer-ThenNext (HasOneAnswer-Demands _ _) (λ none is. HasOneAnswer-Yields _))))))

says_itself : {bytes : List ℕ} {day : ℕ} {xs : List Setting} {prices : PriceParts} → IsCard bytes day xs prices
    → IsCardAnswer bytes (Ok (day, xs, prices))
says_itself {bytes} card = rw (← append-nil bytes) (card_says [] card (GoesOn tt refl refl))

-- ---- laws

pub texts_determine_cards : TextsDetermineCards
texts_determine_cards bytes day other xs ys prices others a b =
    let same = Yields-Ok (only_card bytes _ _ (says_itself a) (says_itself b)) in
    (ap (λ x. x.0) same, ap (λ x. x.1) same, ap (λ x. x.2) same)

pub reading_gives_cards : ReadingGivesCards
reading_gives_cards bytes day xs prices = (card_said (day, xs, prices), says_itself)

pub cards_have_no_fault : CardsHaveNoFault
cards_have_no_fault bytes day xs prices fault a b = let same = only_card bytes _ _ (says_itself a) b in cc

pub no_card_begins_another : NoCardBeginsAnother
no_card_begins_another text [] day other xs ys prices others a b = refl
no_card_begins_another text (byte ∷ rest) day other xs ys prices others a b =
    absurd (cards_have_no_fault (text ++ byte ∷ rest) other ys others Trailing b
    (card_says (byte ∷ rest) a (HasFault Trailing ((λ none e. cc), refl) refl)))

pub one_card_fault : OneCardFault
one_card_fault bytes fault other a b = let same = only_card bytes _ _ a b in cc
