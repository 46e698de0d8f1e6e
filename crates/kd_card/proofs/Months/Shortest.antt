-- On a machine that reads as the day, cables or bars have an assignment that costs nothing. So each list that
-- reaches the day has at least as many settings as loose things plus the sum of prices that fit, and a card that
-- proves itself has exactly as many.
pub mod Falling
unfoldable pub use Falling.*

-- An assignment that costs nothing: the columns with their prices, in an order in which each is beside its row.
pub record FreePairing {A B : Type 0} (cost : A → B → ℕ) (rows : List A) (columns : List B)
    (prices : List ℤ) : Type 0 where
  pub beside : List (B × ℤ)
  pub order : IsPermutation (zip columns prices) beside
  pub count : length beside ≡ length rows
  pub free : pairing_cost cost rows beside ≡ 0

-- Beside each column is the column itself, with its price.
pub with_prices : {B C K : Type 0} (due : B → K) (columns : List B) (prices : List C) → length columns ≡ length prices
    → AllZip (λ key (w : B × C). key ≡ due w.0) (map due columns) (zip columns prices)
with_prices due [] [] e = tt
with_prices due (column ∷ columns) (price ∷ prices) e = (refl, with_prices due columns prices (omega arith))
with_prices due columns prices e = absurd (omega arith)

-- `reads` is what a row reads as, `due` what a column asks for. A row of which `P` holds costs nothing at a column that
-- asks for what the row reads as. So rows that read as the columns ask, in any order, have an assignment that costs
-- nothing.
module _ {A B K : Type 0} (cost : A → B → ℕ) (reads : A → K) (due : B → K) (P : A → Type 0)
    (own : (row : A) (column : B) → P row → reads row ≡ due column → cost row column ≡ 0) where
  free_of_all : (rows : List A) (ws : List (B × ℤ)) → AllByRecursion P rows
      → AllZip (λ key (w : B × ℤ). key ≡ due w.0) (map reads rows) ws → pairing_cost cost rows ws ≡ 0
  free_of_all [] ws all h = refl
  free_of_all (row ∷ rows) (w ∷ ws) all h = grind (arith, sum_by-cons, own, free_of_all rows ws all.1 h.1)
  free_of_all rows ws all h = absurd h

  pub paired : (rows : List A) (columns : List B) (prices : List ℤ) → All P rows → length columns ≡ length prices
      → IsPermutation (map reads rows) (map due columns) → FreePairing cost rows columns prices
  paired rows columns prices all count h =
      let beside = reordered (λ key (w : B × ℤ). key ≡ due w.0) (map due columns) (map reads rows) (zip columns prices)
      (IsPermutation-sym (map reads rows) (map due columns) h) (with_prices due columns prices count) in
      let many = AllZip-long _ (map reads rows) beside.0 beside.2 ∙ length-map rows reads in
      let free = free_of_all rows beside.0 (recursion_from_All P rows all) beside.2 in
      record { beside = beside.0; order = beside.1; count = many; free = free }

-- A cable with the letters of its column costs nothing.
none_differ : (xs ys : List ℕ) → ((letter : ℕ) → has_letter xs letter ≡ has_letter ys letter) → (letters : List ℕ)
    → count_by (λ letter. exactly_one (has_letter xs letter) (has_letter ys letter)) letters ≡ 0
none_differ xs ys same [] = refl
none_differ xs ys same (letter ∷ letters) =
    grind (arith, common_steps, count_by-cons, same letter, not_differing, none_differ xs ys same letters)

own_column : (column : Option (ℕ × ℕ)) → cable_cost (cable_of_column column) column ≡ 0
own_column column =
    none_differ (cable_letters (cable_of_column column)) (column_letters column) (column_is column) alphabet

pub cables_paired : (cables : List (Option ℕ × Option ℕ)) (pairs : List (ℕ × ℕ)) (prices : List ℤ)
    → length pairs ≤ 13 → length prices ≡ 13
    → IsPermutation cables (cables_of pairs) → FreePairing cable_cost cables (columns_of pairs) prices
cables_paired cables pairs prices few count h =
    paired cable_cost (λ cable. cable) cable_of_column (λ cable. Unit {0})
    (λ cable column _ e. rw e (own_column column)) cables (columns_of pairs) prices (λ k d lt. tt)
    (thirteen_columns pairs few ∙ sym count)
    (rw map-id (subst (IsPermutation cables) (sym (cables_by_columns pairs)) h))

pub thirteen_cables : (cables : List (Option ℕ × Option ℕ)) (pairs : List (ℕ × ℕ)) → length pairs ≤ 13
    → IsPermutation cables (cables_of pairs) → length cables ≡ 13
thirteen_cables cables pairs few h =
    sym (length_permutation cables (cables_of pairs) h) ∙ ap length (sym (cables_by_columns pairs))
    ∙ length-map (columns_of pairs) cable_of_column ∙ thirteen_columns pairs few

-- A bar costs nothing at the row that it reads as.
own_row : (left right : Place) → IsBefore left right → bar_cost (left, right) (reading_of (left, right)) ≡ 0
unfolding standings_as
own_row One One before = absurd (omega arith)
own_row left One before = absurd (omega arith)
own_row left right before = first_of (search rules, omega arith)

pub bars_paired : (bars : List (Place × Place)) (rows : List (ℕ × ℕ)) (prices : List ℤ) → All HasLugsInOrder bars
    → length rows ≡ length prices → IsPermutation (map reading_of bars) rows → FreePairing bar_cost bars rows prices
bars_paired bars rows prices stand count h =
    paired bar_cost reading_of (λ row. row) HasLugsInOrder
    (λ bar row before e. subst (λ row. bar_cost bar row ≡ 0) e (own_row bar.0 bar.1 before)) bars rows prices stand
    count (rw map-id h)

-- ---- each setting does one thing at most

pub model_of-list : (m n : Parts) (xs : List Setting) → Leads m xs n → model_of n ≡ model_of m
model_of-list m n [] h = ap model_of h
model_of-list m n (x ∷ xs) h = model_of-list h.0 n xs h.2 ∙ model_of-changed m x h.0 h.1

module _ (columns : List (Option (ℕ × ℕ) × ℤ)) (rows : List ((ℕ × ℕ) × ℤ)) (s : Day) (legal : IsLegalDay s) where
  list_lowers : (m n : Parts) (xs : List Setting) → model_of m ≡ day_model s → Leads m xs n
      → left_to_do columns rows m s ≤ left_to_do columns rows n s + length xs
  list_lowers m n [] same h = grind (arith, common_steps)
  list_lowers m n (x ∷ xs) same h =
      omega (
        arith,
        list_lowers h.0 n xs (model_of-changed m x h.0 h.1 ∙ same) h.2,
        left_to_do-lowered columns rows m s x h.0 legal same h.1,
      )

-- ---- fitting prices, and an assignment that the settings pay for

-- An item of a list is in every other order of the list, too.
IsPermutation-place : {X : Type 0} (xs ys : List X) (i : ℕ) (d : X) → IsPermutation xs ys → i < length ys
    → (j : ℕ) × (j < length xs) × (get_or ys i d ≡ get_or xs j d)
IsPermutation-place xs ys i d order lt =
    let there =
    Contains-permutation ys xs (get_or ys i d) (IsPermutation-sym xs ys order) (Contains-get_or ys i d lt) in
    (there.0, there.1, sym there.2 ∙ get_or_default xs there.0 (get_or ys i d) d there.1)

-- `lines`, the number of settings, is at least `loose`, the number of loose things, plus the sum of the prices. If it
-- is exactly that, each row has a column, and each column a row, where the prices of the two add up to the cost.
pub record AreBounds (costs : List (List ℕ)) (prices : PriceParts) (loose lines : ℕ) : Type 0 where
  pub bound : (pos loose +ℤ price_sum prices) ≤ℤ pos lines
  pub tight : pos lines ≡ (pos loose +ℤ price_sum prices) → ArePricesTight costs prices

module _ {A B : Type 0} (a : A) (b : B) (cost : A → B → ℕ) (rows : List A) (columns : List B) (prices : PriceParts)
    (loose lines : ℕ) (rows_count : length rows ≡ table_size prices)
    (columns_count : length columns ≡ table_size prices)
    (row_count : length (machine_prices prices) ≡ table_size prices)
    (column_count : length (day_prices prices) ≡ table_size prices)
    (fits : PricesFit (map (λ row. map (cost row) columns) rows) prices) (beside : List (B × ℤ))
    (order : IsPermutation (zip columns (day_prices prices)) beside)
    (enough : loose + pairing_cost cost rows beside ≤ lines) where
  abbrev costs : List (List ℕ)
  costs = map (λ row. map (cost row) columns) rows

  abbrev priced : List (B × ℤ)
  priced = zip columns (day_prices prices)

  zipped : length priced ≡ table_size prices
  zipped = grind (arith, length-zip)

  size : length beside ≡ table_size prices
  size = length_permutation priced beside order ∙ zipped

  column : (j : ℕ) → j < table_size prices
      → get_or priced j (b, pos 0) ≡ (get_or columns j b, price_at (day_prices prices) j)
  column j lt = get_or-zip columns (day_prices prices) j (b, pos 0) (omega arith) (omega arith)

  at : (i j : ℕ) → i < table_size prices → j < table_size prices
      → cost_at costs i j ≡ cost (get_or rows i a) (get_or columns j b)
  at i j lt lt' = grind (arith, get_or-map)

  fit : FitAll cost a rows (machine_prices prices) beside
  fit i lt =
      let fits_here = FitTogether cost (get_or rows i a) (get_or (machine_prices prices) i (pos 0)) in
      let inside : i < table_size prices = omega arith in
      All-permutation fits_here priced beside order (All-from_get_or fits_here priced (b, pos 0) (λ j lt'.
      let within : j < table_size prices = omega (arith, zipped) in
      rw (column j within, ← at i j inside within) (fits i j inside within)))

  sums : price_sum prices ≡ (sum_of (machine_prices prices) +ℤ prices_with beside)
  sums = grind (arith, ints, prices_moved columns (day_prices prices) beside, fold_of_both)

  below : (pos loose +ℤ price_sum prices) ≤ℤ pos lines
  below =
      let many = rows_count ∙ sym row_count in
      let fitting = fitting_prices cost a rows (machine_prices prices) beside (rows_count ∙ sym size) many fit in
      omega (arith, ints, sums)

  module _ (exact : pos lines ≡ (pos loose +ℤ price_sum prices)) where
    -- If column `j` is beside row `i`, the prices of the two add up to the cost where they meet.
    tight_where : (i j : ℕ) → i < table_size prices → j < table_size prices
        → get_or beside i (b, pos 0) ≡ get_or priced j (b, pos 0) → IsPriceTightAt costs prices i j
    tight_where i j lt lt' e =
        let all = sum_of (machine_prices prices) +ℤ prices_with beside in
        let due : pos (pairing_cost cost rows beside) ≤ℤ all = omega (arith, ints, sums) in
        let tight =
        tight_at cost a rows (machine_prices prices) beside i (b, pos 0) (rows_count ∙ sym size)
        (rows_count ∙ sym row_count) fit due (omega arith) in
        rw (at i j lt lt') (rw (e ∙ column j lt') at tight)

    column_for : (i : ℕ) → i < table_size prices → (j : ℕ) × (j < table_size prices) × IsPriceTightAt costs prices i j
    column_for i lt =
        let there = IsPermutation-place priced beside i (b, pos 0) order (omega (arith, size)) in
        let inside : there.0 < table_size prices = omega (arith, there.1, zipped) in
        (there.0, inside, tight_where i there.0 lt inside there.2)

    row_for : (j : ℕ) → j < table_size prices → (i : ℕ) × (i < table_size prices) × IsPriceTightAt costs prices i j
    row_for j lt =
        let there = IsPermutation-place beside priced j (b, pos 0) (IsPermutation-sym priced beside order)
        (omega (arith, zipped)) in
        let inside : there.0 < table_size prices = omega (arith, there.1, size) in
        (there.0, inside, tight_where there.0 j inside lt (sym there.2))

  pub bounded : AreBounds costs prices loose lines
  bounded = record { bound = below; tight = λ exact. record { column_of = column_for exact; row_of = row_for exact } }

-- ---- machines and days

pub no_rotors : (model : Model) (reflector : Reflector) → model ≡ M209 → Contains (reflectors_of model) reflector → ⊥
no_rotors model reflector e h = grind (arith, common_steps)

-- There is a price for each row and each column of the table of costs.
abbrev pub HasCounts : PriceParts → Type 0
HasCounts prices =
    (length (machine_prices prices) ≡ table_size prices) × (length (day_prices prices) ≡ table_size prices)

HasCounts-prices : (m : Parts) (prices : PriceParts) → ArePrices prices → AreModelPrices m prices → HasCounts prices
HasCounts-prices (Rotor m) (Cables row column) are kind = (are.0.count, are.1.count)
HasCounts-prices (Pin m) (Bars row column) are kind = (are.0.count, are.1.count)
HasCounts-prices m prices are kind = absurd kind

pub AreBounds-prices : (m n : Parts) (s : Day) (prices : PriceParts) (settings : List Setting) → IsMachine m → IsLegalDay s
    → HasCounts prices → AreModelPrices m prices → PricesFit (cost_table m s) prices → Leads m settings n → ReadsAs n s
    → AreBounds (cost_table m s) prices (loose_count m s) (length settings)
AreBounds-prices (Rotor m) (Rotor n) (Rotor s) (Cables row column) settings machine legal are kind fits leads reads =
    let pairing = cables_paired n.cables s.pairs column legal.pairs.few are.1 reads.key.cables in
    let same = sym (model_of-list (Rotor m) (Rotor n) settings leads) ∙ reads.key.model in
    let falling = list_lowers pairing.beside [] (Rotor s) legal (Rotor m) (Rotor n) settings same leads in
    bounded (None, None) None cable_cost m.cables (columns_of s.pairs) (Cables row column) _ _
    machine.legal.cables.count (thirteen_columns s.pairs legal.pairs.few) are.0 are.1 fits pairing.beside
    pairing.order (omega (arith, falling, pairing.free, nothing_loose (Rotor n) (Rotor s) reads))
AreBounds-prices (Pin m) (Pin n) (Pin s) (Bars row column) settings machine legal are kind fits leads reads =
    let stand = list_keeps (Pin m) (Pin n) settings leads machine.legal.apart in
    let pairing = bars_paired n.bars s.rows column stand (legal.count ∙ sym are.1) reads.key.1 in
    let falling = list_lowers [] pairing.beside (Pin s) legal (Pin m) (Pin n) settings refl leads in
    bounded (One, One) (0, 0) bar_cost m.bars s.rows (Bars row column) _ _ machine.legal.bars legal.count
    are.0 are.1 fits pairing.beside pairing.order
    (omega (arith, falling, pairing.free, nothing_loose (Pin n) (Pin s) reads))
AreBounds-prices m n s prices settings machine legal are kind fits leads reads =
    grind (arith, common_steps, no_rotors, model_of-list)

pub fitting_prices_bound_lists : FittingPricesBoundLists
fitting_prices_bound_lists m s prices settings machine legal are kind fits reached =
    let counts = HasCounts-prices m prices are kind in
    (AreBounds-prices m reached.0 s prices settings machine legal counts kind fits reached.1 reached.2).bound

-- A needed setting lowers the number of loose things by one, unless it is priced. So a list of needed settings
-- (`needed_all`) lowers it by the number of its settings that aren't priced.
pub needed_one : (m : Parts) (s : Day) (x : Setting) (b : Bool) (after : Parts) → is_priced_setting x ≡ b
    → Carries m x after → IsSettingNeeded m s x → loose_count m s + cond b 1 0 ≡ loose_count after s + 1
needed_one m s x true after e carries needed = omega (arith, loose_count-priced m s x after e carries)
needed_one m s x false after e carries needed =
    let (made, made_so, one) = needed e in
    subst (λ n. loose_count m s + 0 ≡ loose_count n s + 1) (carries_unique m made after x made_so carries) (omega (arith, one))

-- If settings are needed and the first is carried out, the others are needed after it.
pub needed_then : (m after : Parts) (s : Day) (x : Setting) (xs : List Setting) → Carries m x after
    → AreSettingsNeeded m s (x ∷ xs) → AreSettingsNeeded after s xs
needed_then m after s x xs carries (made, made_so, one, rest) =
    subst (λ n. AreSettingsNeeded n s xs) (carries_unique m made after x made_so carries) rest

needed_all : (m n : Parts) (s : Day) (xs : List Setting) → Leads m xs n → AreSettingsNeeded m s xs
    → loose_count m s + priced_count xs ≡ loose_count n s + length xs
needed_all m n s [] leads needed = subst (λ n. loose_count m s + 0 ≡ loose_count n s + 0) (sym leads) refl
needed_all m n s (x ∷ xs) leads needed =
    omega (
      arith,
      needed_one m s x (is_priced_setting x) leads.0 refl leads.1 needed.2,
      count_by-cons is_priced_setting x xs,
      needed_all leads.0 n s xs leads.2 (needed_then m leads.0 s x xs leads.1 needed),
    )

-- Up to `loose_falls`: a setting that changes no cable and no bar lowers the number of loose things by at most one.
cond-one_or_other : (b : Bool) → cond {A = ℕ} b 1 0 + cond {A = ℕ} b 0 1 ≡ 1
cond-one_or_other b = grind arith

sum_by-zip_nil : {X Y : Type 0} (f : X × Y → ℕ) (xs : List X) → sum_by f (zip xs []) ≡ 0
sum_by-zip_nil f [] = refl
sum_by-zip_nil f (x ∷ xs) = refl

module _ (s : Day) (legal : IsLegalDay s) where
  loose_falls : (m : Parts) (x : Setting) (after : Parts) → model_of m ≡ day_model s → Carries m x after
      → loose_count m s ≤ loose_count after s + cond (is_priced_setting x) 0 1
  loose_falls m x after same carries = grind
      (arith, left_to_do-lowered [] [] m s x after legal same carries, loose_count-priced m s x after, sum_by-zip_nil)

  no_fewer : (m n : Parts) (xs : List Setting) → model_of m ≡ day_model s → Leads m xs n
      → loose_count m s + priced_count xs ≤ loose_count n s + length xs
  no_fewer m n [] same leads = subst (λ n. loose_count m s + 0 ≤ loose_count n s + 0) (sym leads) (omega arith)
  no_fewer m n (x ∷ xs) same leads =
      let rest = no_fewer leads.0 n xs (model_of-changed m x leads.0 leads.1 ∙ same) leads.2 in
      omega (
        arith,
        rest,
        loose_falls m x leads.0 same leads.1,
        count_by-cons is_priced_setting x xs,
        cond-one_or_other (is_priced_setting x),
      )

  needed_in_turn : (m n : Parts) (xs : List Setting) → model_of m ≡ day_model s → Leads m xs n → loose_count n s ≡ 0
      → length xs ≤ loose_count m s + priced_count xs → AreSettingsNeeded m s xs
  needed_in_turn m n [] same leads none few = tt
  needed_in_turn m n (x ∷ xs) same leads none few =
      let then_same = model_of-changed m x leads.0 leads.1 ∙ same in
      let rest = no_fewer leads.0 n xs then_same leads.2 in
      let one = loose_falls m x leads.0 same leads.1 in
      let head = count_by-cons is_priced_setting x xs in (
        leads.0,
        leads.1,
        λ unpriced. (leads.0, leads.1, grind (arith, cond-one_or_other)),
        needed_in_turn leads.0 n xs then_same leads.2 none (grind (arith, loose_count-priced m s x leads.0)),
      )

pub as_few_are_needed : AsFewAreNeeded
as_few_are_needed m s settings legal same reached few = grind (arith, common_steps, needed_in_turn, nothing_loose)

pub proving_cards_are_as_long : ProvingCardsAreAsLong
proving_cards_are_as_long m s settings prices h = grind (arith, common_steps, ints, needed_all, nothing_loose)

pub proving_cards_are_shortest : ProvingCardsAreShortest
proving_cards_are_shortest m s settings prices machine legal are_prices h others reached =
    let proves = h.proves in
    let long = proving_cards_are_as_long m s settings h.numbered proves in
    let are : ArePrices h.numbered = grind arith in
    let below = fitting_prices_bound_lists m s h.numbered others machine legal are proves.kind proves.fits reached in
    omega (arith, ints)

pub proving_prices_are_tight : ProvingPricesAreTight
proving_prices_are_tight m s settings prices machine legal are h =
    let counts = HasCounts-prices m prices are h.kind in
    (AreBounds-prices m h.leads.0 s prices settings machine legal counts h.kind h.fits h.leads.1 h.leads.2).tight
    (proving_cards_are_as_long m s settings prices h)
