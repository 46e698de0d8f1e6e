-- The prices of kinds: one for each key, and kinds that are read one after another.
pub mod KindWords
unfoldable pub use KindWords.*

module _ {K X : Type 0} (format : KindFormat K X) where
  pub length_of_kinds : (kinds : List K) → length (prices_of_kinds format kinds) ≡ total_count format kinds
  length_of_kinds [] = refl
  length_of_kinds (kind ∷ kinds) = grind (arith, common_steps, length-replicate, length-append, length_of_kinds kinds)

  pub kinds_in_range : (last : Option K) (kinds : List K) → AreKinds format last kinds
      → ArePricesInRange (prices_of_kinds format kinds)
  kinds_in_range last [] are = All-nil (λ price. unsigned_abs price ≤ 9999)
  kinds_in_range last (kind ∷ kinds) are =
      grind (arith, common_steps, All-append, All-replicate, kinds_in_range (Some kind) kinds are.2)

  -- There are at most as many kinds as keys, because each kind counts at least one.
  pub few_kinds : (last : Option K) (kinds : List K) → AreKinds format last kinds
      → length kinds ≤ total_count format kinds
  few_kinds last [] are = omega arith
  few_kinds last (kind ∷ kinds) are = let some = are.0.some in omega (arith, few_kinds (Some kind) kinds are.2)

  pub all_kinds : (last : Option K) (kinds : List K) → AreKinds format last kinds → All (IsKind format) kinds
  all_kinds last [] are = All-nil (IsKind format)
  all_kinds last (kind ∷ kinds) are = All-cons (IsKind format) kind kinds are.0 (all_kinds (Some kind) kinds are.2)

  pub text_of_more_kinds : (kind : K) (kinds : List K) (rest : List ℕ)
      → kinds_text format (kind ∷ kinds) ++ rest ≡ line_then (kind_words format kind) (kinds_text format kinds ++ rest)
  text_of_more_kinds kind kinds rest = line_and_more (line_of (kind_words format kind)) (kinds_text format kinds) rest

  pub total_count-append : (kinds more : List K)
      → total_count format (kinds ++ more) ≡ total_count format kinds + total_count format more
  total_count-append [] more = omega arith
  total_count-append (first ∷ kinds) more = omega (arith, total_count-append kinds more)

  pub total_count_within : (kinds : List K) (i : ℕ) {kind : K} → i < length kinds → kind ≡ get_or kinds i kind
      → total_count format (take i kinds) + (format.kind kind).count ≤ total_count format kinds
  total_count_within [] i inside is = absurd (omega arith)
  total_count_within (first ∷ kinds) zero inside is = let same = ap (λ (k : K). (format.kind k).count) is in omega arith
  total_count_within (first ∷ kinds) (suc i) inside is = omega (arith, total_count_within kinds i (omega arith) is)

pub few_of_group : {K X : Type 0} (format : KindFormat K X) (number : ℕ) (kinds : List K)
    → IsGroup format number kinds → (length kinds ≤ number) × All (IsKind format) kinds
few_of_group format number kinds group =
    (omega (arith, few_kinds format None kinds group.in_order, group.count), all_kinds format None kinds group.in_order)

-- ---- valid prices by kind

pub kind_price_list : {K X : Type 0} (format : KindFormat K X) (number : ℕ) (kinds : List K)
    → IsGroup format number kinds → IsPriceList number (prices_of_kinds format kinds)
kind_price_list format number kinds group = grind (arith, length_of_kinds, kinds_in_range)

both_lists : (prices : PriceParts) → ArePrices prices
    → IsPriceList (table_size prices) (machine_prices prices) × IsPriceList (table_size prices) (day_prices prices)
both_lists (CableKinds rows columns) are =
    (kind_price_list cable_format 13 rows.items are.0, kind_price_list pair_format 13 columns.items are.1)
both_lists (BarKinds rows columns) are =
    (kind_price_list bar_format 27 rows.items are.0, kind_price_list row_format 27 columns.items are.1)
both_lists prices are = are

pub price_sum_is_small : (prices : PriceParts) → ArePrices prices → unsigned_abs (price_sum prices) < 2 ^ 64
price_sum_is_small prices p =
    let both = both_lists prices p in
    grind (arith, common_steps, All-append, sum_bound, recursion_from_All, length-append, few_prices)

pub text_of_two : {R X C Y : Type 0} (rows : KindFormat R X) (columns : KindFormat C Y) (xs : List R) (ys : List C)
    → lines_text (map (kind_words rows) xs ++ map (kind_words columns) ys) ≡ kinds_text rows xs ++ kinds_text columns ys
text_of_two rows columns xs ys = grind (arith, flat_map-append, flat_map-map)

pub groups_joined : {R X C Y : Type 0} (rows : KindFormat R X) (columns : KindFormat C Y) (prefix : List ℕ)
    (xs : List R) (ys : List C) → (prefix ++ kinds_text rows xs) ++ kinds_text columns ys
    ≡ prefix ++ lines_text (map (kind_words rows) xs ++ map (kind_words columns) ys)
groups_joined rows columns prefix xs ys = rw text_of_two (append_assoc prefix (kinds_text rows xs) _)

-- ---- kinds that are read

pub first_kind : {K X : Type 0} {format : KindFormat K X} {last : Option K} {bytes after rest : List ℕ} {kind : K}
    {kinds : List K} → IsNextKind format last bytes kind after → BeginsWithKinds format (Some kind) after kinds rest
    → BeginsWithKinds format last bytes (kind ∷ kinds) rest
first_kind {format} {rest} {kind} {kinds} next behind = record {
  lines =
      is_line next.line ∙ ap (line_then (kind_words format kind)) behind.lines
      ∙ sym (text_of_more_kinds format kind kinds rest);
  in_order = (next.good, next.after, behind.in_order);
  none_more = behind.none_more;
}

-- Kinds have been read up to `rest`. They count `number` keys, or more than `room` if `number` is `room + 1`;
-- `kept` are these kinds, if there are at most `room`. With the kinds that begin `rest`, they are all kinds that
-- begin `text`. The next kind comes after the kind `last`, and is on line `at`.
pub record HasRead {K X : Type 0} (format : KindFormat K X) (room line : ℕ) (text rest : List ℕ) (last : Option K)
    (number at : ℕ) (kept : List K) : Type 0 where
  pub read : List K
  pub goes_on : (more : List K) (end : List ℕ) → BeginsWithKinds format last rest more end
      → BeginsWithKinds format None text (read ++ more) end
  pub some : length read ≤ total_count format read
  pub number_is : number ≡ min (total_count format read) (room + 1)
  pub at_is : at ≡ line + length read
  pub shorter : length read + length rest ≤ length text
  pub keeps : length read ≤ room → kept ≡ read

pub reads_none : {K X : Type 0} (format : KindFormat K X) (room line : ℕ) (text : List ℕ) (kept : List K) → kept ≡ []
    → HasRead format room line text text None 0 line kept
reads_none format room line text kept none = grind arith

pub reads_on : {K X : Type 0} {format : KindFormat K X} {room line : ℕ} {text rest after : List ℕ} {last : Option K}
    {number at new : ℕ} {kept more : List K} {kind : K}
    → HasRead format room line text rest last number at kept → IsNextKind format last rest kind after
    → new ≡ min (number + (format.kind kind).count) (room + 1) → (length kept < room → more ≡ kept ++ kind ∷ [])
    → HasRead format room line text after (Some kind) new (at + 1) more
reads_on {format} {text} {rest} {after} {kind} so_far next new keeps =
    let read = so_far.read in
    let longer = length-append read (kind ∷ []) in
    let some = next.good.some in
    let all = total_count-append format read (kind ∷ []) in
    let line = ap length (is_line next.line) in
    let size = length-append (line_of (kind_words format kind)) (10 ∷ after) in
    record {
      read = read ++ kind ∷ [];
      goes_on = λ more end begins. subst (λ kinds. BeginsWithKinds format None text kinds end)
          (sym (append_assoc read (kind ∷ []) more)) (so_far.goes_on (kind ∷ more) end (first_kind next begins));
      some = omega (arith, so_far.some);
      number_is = omega (arith, so_far.number_is);
      at_is = omega (arith, so_far.at_is);
      shorter = omega (arith, so_far.shorter);
      keeps = λ within.
          let before = so_far.keeps (omega arith) in
          keeps (omega (arith, ap length before)) ∙ ap (λ kinds. kinds ++ kind ∷ []) before;
    }

pub all_read : {K X : Type 0} {format : KindFormat K X} {room line : ℕ} {text rest : List ℕ} {last : Option K}
    {number at : ℕ} {kept : List K}
    → (read : HasRead format room line text rest last number at kept) → HasNoNext format last rest
    → BeginsWithKinds format None text read.read rest
all_read {format} {text} {rest} read none =
    rw (← append-nil read.read) (read.goes_on [] rest (record { lines = refl; in_order = tt; none_more = none }))
