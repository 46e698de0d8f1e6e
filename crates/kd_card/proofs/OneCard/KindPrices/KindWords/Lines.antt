-- Lines of words as they are written and split, texts of prices, and what the lines of a card have.
pub use Rattle.kd_tables.specs.{declared.place.Place.Place, Places.{place_text, reading_text, standing_text}}
pub use Rattle.std.specs.{Fmt.signed_decimal, Int.Signed.mag, List.{All, AllByRecursion, flat_map, list_all}}
pub use Rattle.std.proofs.Common.{[], drop, length, negsuc, unsigned_abs, zero, ◌+ℤ◌, ◌<◌, ◌≢◌, ap, arith, decimal}
pub use Rattle.std.proofs.Common.{false, List, ltb, None, Option, Some, subst, take, true, ℤ, ◌++◌, Bool, Bor, Decides}
pub use Rattle.std.proofs.Common.{eqb, Err, MatchOption, min, Ok, Result, suc, w16, ◌+◌, ◌^◌, ◌↔◌, append_assoc, fold}
pub use Rattle.std.proofs.Common.{get_or, is_some, length-append, MatchResult, of_z, ℕ, ◌∙◌, ◌≤◌, codes, FitsSigned}
pub use Rattle.std.proofs.Common.{IsTrue, map, pos, refl, rules, sym, to_z, ◌*◌, ◌∷◌, ◌≡◌}
pub use Rattle.std.specs.Result.{IsErrAnd}
pub use Rattle.std.proofs.lemmas.{Grind.common_steps, Int.{fits_signed_from_abs, to_z-of_z}, Result.err_from_is_err_and}
pub use Rattle.std.proofs.lemmas.List.{append_cancel_left, Folds.flat_map-map, Sums.AllPass-from_list_all, get_or-map}
pub use Rattle.std.proofs.lemmas.List.{get_or_at, length-replicate, take_all, Splits.slice_split_none}
pub use Rattle.std.proofs.lemmas.List.{append-nil, nil_from_length, Elements.{All-append, All-nil, All-replicate}}
pub use Rattle.std.proofs.lemmas.List.Elements.{All-cons, All-from_get_or, All-map, All-weaker, recursion_from_All}
pub use Rattle.std.proofs.lemmas.List.{Elements.All-from_recursion, Splits.{join_with_byte-slice_split, slice_split_at}}
pub use Rattle.std.proofs.lemmas.{Bool.{ltb-true, Decides.Decides-eqb}, List.{length-map, Concat.flat_map-append}}
pub use Rattle.std.proofs.lemmas.{Bool.{false≢true, ne_eqb}, Fmt.{decimal_digit, signed_decimal_injective}}
pub use Rattle.std.proofs.lemmas.Fmt.{decimal_injective, decimal_nonempty, digits_decimal, first_decimal}
pub use Rattle.std.proofs.{Common.bytes_eq, lemmas.Slice.Eq.bytes_eq-Decides}
pub use Rattle.std.specs.{Bool.then_some, Result.result_ok, Str.{IsUtf8, Parse.ParsesSigned}}
pub use Rattle.std.proofs.lemmas.{Fmt.{IsAscii-signed, parse-signed_decimal}, Str.IsUtf8-from_ascii}
pub use Rattle.kd_card.specs.Kinds.{AreEnds, bar_format, cable_format, HasText, IsOnlyKey, letters_text}
pub use Rattle.kd_card.specs.Kinds.{IsGroup, IsKind, KindFormat, pair_format, prices_of_kinds, AreKinds}
pub use Rattle.kd_card.specs.Kinds.{HasKindWords, kind_words, kinds_text, row_format, total_count}
pub use Rattle.kd_card.specs.CardFault.{first_text, AtNothing, BeginsWithWord, IsAllPricesAnswer, IsPricesAnswer}
pub use Rattle.kd_card.specs.CardFault.{last_of, BeginsWithKinds, IsDigit, IsGroupsAnswer, IsPriceLineAnswer}
pub use Rattle.kd_card.specs.CardFault.{IsRestAnswer, EndsGroup, HasLineWords, IsLineAnswer, IsNextKind, IsNumberText}
pub use Rattle.kd_card.specs.CardFault.{IsValueAnswer, BeginsWithHead, IsCardAnswer, IsSettingsAnswer}
pub use Rattle.kd_card.specs.CardFault.{IsTablePricesAnswer, AtOther, HasNoNext, IsGroupAnswer, IsListsAnswer}
pub use Rattle.kd_card.specs.CardFault.{IsNumeral}
pub use Rattle.kd_card.specs.declared.prices.CostTable.{CostTable, TheVariants.{Bars, Cables}}
pub use Rattle.kd_tables.specs.LineWords.{line_then}
pub use Rattle.kd_card.specs.CardText.{card_text, head_words, IsCard, lines_text, price_lines}
pub use Rattle.kd_card.specs.declared.prices.PriceParts.{PriceParts, TheVariants.{BarKinds, Bars, CableKinds, Cables}}
pub use Rattle.kd_card.specs.declared.{kinds.KindOf.KindOf, prices.Version.{Version, TheVariants.{ByKind, ByNumber}}}
pub use Rattle.kd_card.specs.declared.fault.CardFault.{CardFault, TheVariants.{BadLine, PriceMissing, Trailing}}
pub use Rattle.kd_card.specs.Laws.{CardsHaveNoFault, NoCardBeginsAnother, OneCardFault, ReadingGivesCards}
pub use Rattle.kd_card.specs.{Laws.TextsDetermineCards, Reading.{EndsKindsAt, head_prefix, IsBadKindAt}}
pub use Rattle.kd_card.specs.Reading.{IsKindOfWords, IsPriceText}
pub use Rattle.kd_card.specs.Prices.{ArePrices, day_prices, IsPriceList, price_sum, table_size, version_of}
pub use Rattle.{kd_card.specs.Prices.{ArePricesInRange, machine_prices}, kd_state.specs.SheetDay.IsDayNumber}
pub use Rattle.kd_state.specs.AnswerRules.{HasOneAnswer, Demands, GoesOn, HasFault, ThenNext, Yields}
pub use Rattle.kd_state.proofs.OneAnswer.{HasOneAnswer-Demands, HasOneAnswer-Finds, HasOneAnswer-Yields}
pub use Rattle.kd_state.proofs.OneAnswer.{HasOneAnswer-FindsAlways, HasOneAnswer-ThenNext, ThenNext-Ok, Yields-Ok}
pub use Rattle.kd_state.specs.{Costs.column_letters, declared.setting.Setting.Setting, Machine.cable_letters}
pub use Rattle.kd_tables.proofs.LineWords.{IsWord}
pub use Rattle.kd_tables.specs.LineWords.{IsWithout, line_of, words_of}
pub use Rattle.kd_state.specs.{Line.{BeginsWithAllSettings, BeginsWithSettingLines, setting_line}}
pub use Rattle.kd_state.specs.Line.{BeginsWithNoSetting, list_text, setting_words}
pub use Rattle.kd_tables.specs.LineWords.{IsFirstPart}
pub use Rattle.kd_tables.proofs.LineWords.{lines_split_into_words, word_by_test, words_make_one_line}
pub use Rattle.kd_state.proofs.Lines.{not_longer, same_end}
pub use Rattle.kd_tables.proofs.LineWords.{IsNumeralModel-digits, numbers_are_words, ok_part, texts_determine_first_parts}
pub use Rattle.kd_tables.proofs.LineWords.{word_by_bytes}

abbrev pub settings_words : ℕ → List (List ℕ)
settings_words number = codes "SETTINGS" ∷ decimal number ∷ []

abbrev pub price_words : List ℕ → List ℤ → List (List ℕ)
price_words word prices = word ∷ map signed_decimal prices

abbrev pub sum_words : ℤ → List (List ℕ)
sum_words sum = codes "SUM" ∷ signed_decimal sum ∷ []

-- ---- writing

abbrev pub behind_spaces : List ℤ → List ℕ
behind_spaces prices = flat_map (λ price. 32 ∷ signed_decimal price) prices

line_of-prices : (word : List ℕ) (prices : List ℤ) → line_of (price_words word prices) ≡ word ++ behind_spaces prices
line_of-prices word [] = sym (append-nil word)
line_of-prices word (price ∷ prices) = ap (λ text. word ++ 32 ∷ text) (line_of-prices (signed_decimal price) prices)

pub all_prices : (prefix word : List ℕ) (prices : List ℤ)
    → (prefix ++ (word ++ behind_spaces prices)) ++ 10 ∷ [] ≡ prefix ++ line_then (price_words word prices) []
all_prices prefix word prices = simp (append_assoc, line_of-prices word prices)

-- ---- a card's text, line by line

pub line_and_more : (line text rest : List ℕ) → ((line ++ 10 ∷ []) ++ text) ++ rest ≡ line ++ 10 ∷ (text ++ rest)
line_and_more line text rest = simp append_assoc

all_lines : (head count sum : List (List ℕ)) (settings lines : List (List (List ℕ))) (rest : List ℕ)
    → lines_text (head ∷ settings ++ count ∷ lines ++ sum ∷ []) ++ rest
    ≡ line_then head (lines_text settings ++ line_then count (lines_text lines ++ line_then sum rest))
all_lines head count sum settings lines rest = simp (flat_map-append, append_assoc)

pub card_and_more : (day : ℕ) (xs : List Setting) (prices : PriceParts) (rest : List ℕ)
    → card_text day xs prices ++ rest
    ≡ line_then (head_words (version_of prices) day) (list_text xs ++ line_then (settings_words (length xs))
    (lines_text (price_lines prices) ++ line_then (sum_words (price_sum prices)) rest))
card_and_more day xs prices rest = grind (arith, common_steps, all_lines, flat_map-map)

-- A card's head is the text before the day, the day, and an LF.
pub head_text : {prefix : List ℕ} (version : Version) (day : ℕ) (rest : List ℕ) → prefix ≡ head_prefix version
    → prefix ++ decimal day ++ 10 ∷ rest ≡ line_then (head_words version day) rest
head_text version day rest e = rw e (grind arith)

lines_text-card : (head count sum : List (List ℕ)) (settings lines : List (List (List ℕ)))
    → (((([] ++ line_then head []) ++ lines_text settings) ++ line_then count []) ++ lines_text lines)
    ++ line_then sum [] ≡ lines_text (head ∷ settings ++ count ∷ lines ++ sum ∷ [])
lines_text-card head count sum settings lines = simp (flat_map-append, append_assoc)

pub card_text-joined : (version : Version) (day count : ℕ)
    (xs ys : List Setting) (prices : PriceParts) (sum : ℤ) (empty top head list below counted lines end whole : List ℕ)
    → empty ≡ [] → top ≡ line_then (head_words version day) [] → below ≡ line_then (settings_words count) []
    → end ≡ line_then (sum_words sum) [] → head ≡ empty ++ top → list ≡ head ++ list_text ys → counted ≡ list ++ below
    → lines ≡ counted ++ lines_text (price_lines prices) → whole ≡ lines ++ end → version ≡ version_of prices
    → ys ≡ xs → count ≡ length xs → sum ≡ price_sum prices → whole ≡ card_text day xs prices
card_text-joined version day count xs ys prices sum empty top head list below counted lines end whole
    a t n s h l c p w by same many summed =
    let lines_of = map setting_words xs in
    let card = lines_text-card (head_words version day) (settings_words count) (sum_words sum) lines_of
    (price_lines prices) in
    let all : lines_text lines_of ≡ list_text xs = flat_map-map (λ words. line_of words ++ 10 ∷ []) setting_words xs in
    cc

-- The text of two lines, and then `rest`, is the first line, then the second one, and then `rest`.
pub two_lines : (a b : List (List ℕ)) (rest : List ℕ) → lines_text (a ∷ b ∷ []) ++ rest ≡ line_then a (line_then b rest)
two_lines a b rest = simp (append_assoc, append-nil)

-- ---- the part before a byte

pub no_first_part : {byte : ℕ} {text part rest : List ℕ} → IsFirstPart byte text part rest → ¬ (IsWithout byte text)
no_first_part {byte} {text} {part} {rest} first without =
    grind (arith, without, length-append part (byte ∷ rest), get_or_at part byte rest 0 (length part) refl)

-- The bytes after `prefix`, split at the first LF: the value before it, and the bytes after it; or there is no LF.
pub value_split : (text prefix behind : List ℕ) (r : Option (Bor (List ℕ) × Bor (List ℕ))) → text ≡ prefix ++ behind
    → MatchOption r (IsWithout 10 behind) (λ parts. IsFirstPart 10 behind parts.0.now parts.1.now)
    → MatchOption r ((value rest : List ℕ) → IsWithout 10 value → text ≢ prefix ++ value ++ 10 ∷ rest)
    (λ found. (text ≡ prefix ++ found.0.now ++ 10 ∷ found.1.now) × IsWithout 10 found.0.now)
value_split text prefix behind None e none = λ value rest free d.
    let same : prefix ++ behind ≡ prefix ++ (value ++ 10 ∷ rest) = sym e ∙ d ∙ append_assoc prefix value (10 ∷ rest) in
    no_first_part (record { joined = append_cancel_left prefix behind (value ++ 10 ∷ rest) same; without = free }) none
value_split text prefix behind (Some found) e first = grind (arith, common_steps, append_assoc)

-- ---- texts without LF

pub bytes_above : (low : ℕ) (text : List ℕ) → list_all (ltb low) text ≡ true → All (λ b. low < b) text
bytes_above low text e = grind (arith, common_steps, All-weaker, ltb-true, AllPass-from_list_all)

-- ---- the words of a line

IsWithout-unequal : (word : List ℕ) → IsWithout 32 word → All (λ b. eqb b 32 ≡ false) word
IsWithout-unequal word a = All-weaker (λ b. b ≢ 32) (λ b. eqb b 32 ≡ false) (λ b. ne_eqb b 32) word a

pub words_of_last : (rest : List ℕ) → IsWithout 32 rest → words_of rest ≡ rest ∷ []
words_of_last rest without = slice_split_none (λ b. eqb b 32) rest (IsWithout-unequal rest without)

pub words_of_first : {text word rest : List ℕ} → IsFirstPart 32 text word rest → words_of text ≡ word ∷ words_of rest
words_of_first {text} {word} {rest} first = grind (arith, slice_split_at, IsWithout-unequal)

pub is_line : {bytes : List ℕ} {words : List (List ℕ)} {rest : List ℕ} → HasLineWords bytes words rest
    → bytes ≡ line_then words rest
is_line {rest} has =
    has.first.joined
    ∙ ap (λ line. line ++ 10 ∷ rest) (sym (join_with_byte-slice_split 32 has.line) ∙ ap line_of has.parts)

pub some_bytes : {bytes rest : List ℕ} {words : List (List ℕ)} → HasLineWords bytes words rest → bytes ≢ []
some_bytes {rest} has none = omega (arith, ap length (sym has.first.joined ∙ none), length-append has.line (10 ∷ rest))

pub same_words : {bytes rest more : List ℕ} {words others : List (List ℕ)} → HasLineWords bytes words rest
    → HasLineWords bytes others more → (words ≡ others) × (rest ≡ more)
same_words a b = grind (arith, common_steps, texts_determine_first_parts)

pub line_has_words : {bytes : List ℕ} (words : List (List ℕ)) (rest : List ℕ) → words ≢ [] → All IsWord words
    → bytes ≡ line_then words rest → HasLineWords bytes words rest
line_has_words words rest some are e = grind (arith, lines_split_into_words, words_make_one_line)

pub value_line : {bytes : List ℕ} (name value rest : List ℕ) → IsWord name → IsWord value
    → bytes ≡ line_then (name ∷ value ∷ []) rest → HasLineWords bytes (name ∷ value ∷ []) rest
value_line name value rest named valued e = grind (arith, line_has_words, All-from_recursion)

-- If a line has three words, they are its items 0, 1 and 2.
pub words_in_place : (words : List (List ℕ)) (items : List (Bor (List ℕ))) (a b d : Bor (List ℕ))
    → map (λ (word : Bor (List ℕ)). word.now) items ≡ words
    → length items ≡ 3 → words ≡ (get_or items 0 a).now ∷ (get_or items 1 b).now ∷ (get_or items 2 d).now ∷ []
words_in_place words items a b d e h = grind (arith, common_steps)

-- ---- texts of prices

pub FitsSigned-price : (p : ℤ) → unsigned_abs p ≤ 9999 → FitsSigned w16 p
FitsSigned-price p within = fits_signed_from_abs w16 p (omega (arith, within))

-- A price from -9999 to 9999 is the same after it has been kept in 16 bits, and so is its text.
pub written_price : (text : List ℕ) (p : ℤ) → text ≡ signed_decimal (to_z w16 (of_z w16 p)) → unsigned_abs p ≤ 9999
    → text ≡ signed_decimal p
written_price text p e within = e ∙ ap signed_decimal (to_z-of_z w16 p (FitsSigned-price p within))

pub mag-small : (p : ℤ) → unsigned_abs p ≤ 9999 → mag p < 2 ^ 63
mag-small p e = grind arith

-- ---- words that are prices

-- what `price_of_text` finds in a word
abbrev pub IsPriceOf : List ℕ → Option ℤ → Type 0
IsPriceOf word r =
    MatchOption r ((price : ℤ) → unsigned_abs price ≤ 9999 → signed_decimal price ≢ word)
    (λ price. (signed_decimal price ≡ word) × (unsigned_abs price ≤ 9999))

pub not_utf8 : {S E : Type 0} (bs : List ℕ) (r : Result S E) (P : S → Type 0) (Q : E → Type 0)
    → MatchResult r P (λ e. ¬ (IsUtf8 bs) × Q e) → result_ok r ≡ None → IsPriceOf bs None
not_utf8 bs r P Q e none price near is = grind (arith, IsUtf8-from_ascii, IsAscii-signed, mag-small)

pub parse-price : {E : Type 0} (bs : List ℕ) (r : Result ℤ E) → ParsesSigned w16 10 bs r → (price : ℤ)
    → unsigned_abs price ≤ 9999 → signed_decimal price ≡ bs → r ≡ Ok price
parse-price bs r h price near is =
    parse-signed_decimal w16 price bs r (FitsSigned-price price near) (mag-small price near) (sym is) h

pub tells_price : (word : List ℕ) (r : Option ℤ) → IsPriceOf word r → IsTrue (is_some r) ↔ IsPriceText word
tells_price word r e = grind arith

pub not_at : (words : List (Bor (List ℕ))) (i : ℕ) (d : Bor (List ℕ)) → i < length words
    → ¬ (IsPriceText (get_or words i d).now) → ¬ (All IsPriceText (map (λ (word : Bor (List ℕ)). word.now) words))
not_at words i d inside none all =
    none (subst IsPriceText (get_or-map (λ (word : Bor (List ℕ)). word.now) words i d d.now inside)
    (all i d.now (omega (arith, inside, length-map words (λ (word : Bor (List ℕ)). word.now)))))

pub all_price_texts : (prices : List ℤ) → ArePricesInRange prices → All IsPriceText (map signed_decimal prices)
all_price_texts prices in_range = search (rules, All-map, All-weaker)

AllByRecursion-prices : (words : List (List ℕ)) → AllByRecursion IsPriceText words → (prices : List ℤ)
    × (words ≡ map signed_decimal prices) × AllByRecursion (λ price. unsigned_abs price ≤ 9999) prices
AllByRecursion-prices [] all = ([], refl, tt)
AllByRecursion-prices (word ∷ words) (is, all) =
    let rest = AllByRecursion-prices words all in (is.0 ∷ rest.0, cc, (is.1, rest.2))

-- ---- prices in a line

module _ (number line : ℕ) {words : List (List ℕ)} where
  pub other_count : (prices : List ℤ) → words ≡ map signed_decimal prices → ArePricesInRange prices
      → length prices ≢ number → IsPricesAnswer number line words (Err PriceMissing)
  other_count prices are in_range differs =
      GoesOn prices (are, in_range) (HasFault PriceMissing ((λ same count. differs count), refl) refl)

  -- Prices whose number is tested are the result if the number is right.
  pub count_settled : (prices : List ℤ) → words ≡ map signed_decimal prices → ArePricesInRange prices
      → (answer : Result (List ℤ) CardFault)
      → MatchResult answer (λ made. (made ≡ prices) × (length prices ≡ number))
      (λ fault. (fault ≡ PriceMissing) × (length prices ≢ number))
      → MatchResult answer (λ made. IsPricesAnswer number line words (Ok made))
      (λ fault. IsPricesAnswer number line words (Err fault))
  count_settled prices are in_range (Ok made) is = rw is.0 (GoesOn prices (are, in_range) (GoesOn tt is.1 refl))
  count_settled prices are in_range (Err fault) is = rw is.0 (other_count prices are in_range is.1)

  pub too_many : All IsPriceText words → number < length words → IsPricesAnswer number line words (Err PriceMissing)
  too_many all many =
      let are = AllByRecursion-prices words (recursion_from_All IsPriceText words all) in
      other_count are.0 are.1 (All-from_recursion _ are.0 are.2)
      (λ count. omega (arith, many, count, ap length are.1, length-map are.0 signed_decimal))

  pub no_prices : ¬ (All IsPriceText words) → IsPricesAnswer number line words (Err (BadLine line))
  no_prices none =
      HasFault (BadLine line)
      ((λ prices are. none (subst (All IsPriceText) (sym are.0) (all_price_texts prices are.1))), refl) refl

-- ---- results of steps

-- If a step fails with `fault`, and `fault` is right for the caller, the step's result is right for the caller.
pub MatchResult-err : {F Y : Type 0} (answer : Result Y F) (fault : F) (Good : Y → Type 0) (Bad : F → Type 0)
    → IsErrAnd answer (λ made. made ≡ fault) → Bad fault → MatchResult answer Good Bad
MatchResult-err answer fault Good Bad made bad = let is = err_from_is_err_and answer made in rw (is.1, is.2) bad

-- A test that is false refutes what it decides.
pub not_from_false : {P : Type 0} {test : Bool} → Decides test P → test ≡ false → ¬ P
not_from_false decides e is = false≢true (sym e ∙ decides.1 is)

pub nonempty-by_length : {text : List ℕ} {test : Bool} → test ≡ eqb (length text) 0 → test ≡ false → text ≢ []
nonempty-by_length is e none = false≢true (sym e ∙ is ∙ ap (λ t. eqb (length t) 0) none)

-- If reading a line fails although there are bytes, no whole line begins them, and the fault is that line `line`
-- is bad.
pub no_line : {line : ℕ} {bytes : List ℕ} {fault : CardFault} → bytes ≢ [] → IsLineAnswer line bytes (Err fault)
    → ((found : List ℕ × List (List ℕ) × List ℕ) → ¬ (HasLineWords bytes (found.0 ∷ found.1) found.2))
    × (fault ≡ BadLine line)
no_line some (HasFault f none e) = absurd (none.0 tt some)
no_line some (GoesOn x is next) = next

-- ---- words

pub bytes_are_word : (b : ℕ) (bs : List ℕ) → AllByRecursion (λ c. 32 < c) (b ∷ bs) → IsWord (b ∷ bs)
bytes_are_word b bs above = word_by_bytes (b ∷ bs) (λ none. cc) (All-from_recursion (λ c. 32 < c) (b ∷ bs) above)

below_zero : (word : List ℕ) → IsWord word → IsWord (45 ∷ word)
below_zero word w = grind (arith, All-cons)

number_word : (text : List ℕ) → IsNumberText text → IsWord text
number_word text e = grind (arith, word_by_bytes, All-weaker, All-cons)

pub numeral_word : (signed : Bool) (text : List ℕ) → IsNumeral signed text → IsWord text
numeral_word signed text e = grind (arith, number_word, below_zero)

pub signed_word : (z : ℤ) → unsigned_abs z < 2 ^ 64 → IsWord (signed_decimal z)
signed_word z small = grind (arith, numbers_are_words, below_zero)

pub day_unbroken : (day : ℕ) → IsDayNumber day → IsWithout 10 (decimal day)
day_unbroken day month = let last = month.last in (numbers_are_words day (omega arith)).unbroken

pub prices_are_words : (word : List ℕ) (prices : List ℤ) → IsWord word → ArePricesInRange prices
    → All IsWord (price_words word prices)
prices_are_words word prices w in_range =
    All-cons IsWord word (map signed_decimal prices) w (All-map IsWord signed_decimal prices
    (All-weaker (λ price. unsigned_abs price ≤ 9999) (λ price. IsWord (signed_decimal price))
    (λ price within. signed_word price (omega (arith, within))) prices in_range))

-- ---- the keywords of numbers

number_by_parts : (text : List ℕ) → 0 < length text → ((i : ℕ) → i < length text → IsDigit (get_or text i 0))
    → (get_or text 0 0 ≡ 48 → length text ≡ 1) → IsNumberText text
number_by_parts [] some digits lead = absurd (omega arith)
number_by_parts (digit ∷ rest) some digits lead =
    let all = All-from_get_or IsDigit rest 0 (λ i inside. digits (suc i) (omega arith)) in
    grind (arith, digits 0 (omega arith), nil_from_length)

no_leading_zero : (number : ℕ) → number < 2 ^ 64 → get_or (decimal number) 0 0 ≡ 48 → length (decimal number) ≡ 1
no_leading_zero number small e = grind (arith, decimal_digit, first_decimal)

pub number_text : (number : ℕ) → number < 2 ^ 64 → IsNumberText (decimal number)
number_text number small =
    grind (arith, number_by_parts, decimal_nonempty, small, digits_decimal, IsNumeralModel-digits, no_leading_zero)

not_zero : (n : ℕ) → suc n < 2 ^ 64 → decimal (suc n) ≢ codes "0"
not_zero n small e = omega (arith, first_decimal (suc n) (omega arith) small, ap (λ t. get_or t 0 0) e)

pub signed_text : (z : ℤ) → unsigned_abs z < 2 ^ 64 → IsNumeral true (signed_decimal z)
signed_text z small = grind (arith, number_text, not_zero)

-- ---- a bound of the sum of prices

pub sum_bound : (a : ℤ) (prices : List ℤ) → AllByRecursion (λ price. unsigned_abs price ≤ 9999) prices
    → unsigned_abs (fold (λ sum price. sum +ℤ price) a prices) ≤ unsigned_abs a + 9999 * length prices
sum_bound a [] in_range = omega arith
sum_bound a (price ∷ prices) in_range = grind (arith, sum_bound (a +ℤ price) prices in_range.1)

pub few_prices : (prices : PriceParts) → table_size prices ≤ 27
few_prices prices = grind arith

-- ---- a name and a value

module _ (signed : Bool) (prefix due : List ℕ) (line : ℕ) where
  pub value_says : {bytes rest : List ℕ} → IsNumeral signed due → bytes ≡ prefix ++ due ++ 10 ∷ rest
      → IsValueAnswer signed prefix due line bytes (Ok rest)
  value_says {rest} form e = GoesOn (due, rest) (form, e) (GoesOn tt refl refl)

  pub value_said : {bytes rest : List ℕ} → IsValueAnswer signed prefix due line bytes (Ok rest)
      → bytes ≡ prefix ++ due ++ 10 ∷ rest
  value_said says = grind (arith, ThenNext-Ok)

-- The value after `prefix` and the bytes after its line are determined by the text.
pub same_values : {bytes : List ℕ} (prefix : List ℕ) {value other rest more : List ℕ} → IsWithout 10 value
    → IsWithout 10 other
    → bytes ≡ prefix ++ value ++ 10 ∷ rest → bytes ≡ prefix ++ other ++ 10 ∷ more → (value ≡ other) × (rest ≡ more)
same_values prefix {value} {other} {rest} {more} free clear e d =
    grind (arith, common_steps, texts_determine_first_parts, append_cancel_left, append_assoc)

-- ---- a first word, and prices

pub first_says : {line : ℕ} {bytes word : List ℕ} {words : List (List ℕ)} {rest : List ℕ}
    → HasLineWords bytes (word ∷ words) rest → IsLineAnswer line bytes (Ok (word, words, rest))
first_says has = GoesOn tt (some_bytes has) has

-- The result of reading a line's prices is the result of reading the line.
module _ {number line : ℕ} {bytes word : List ℕ} {words : List (List ℕ)} {rest : List ℕ}
    (has : HasLineWords bytes (word ∷ words) rest) where
  pub line_read : {prices : List ℤ} → IsPricesAnswer number line words (Ok prices)
      → IsPriceLineAnswer word number line bytes (Ok (prices, rest))
  line_read is = GoesOn _ (first_says has) (GoesOn tt refl (GoesOn _ is refl))

  pub line_failed : {fault : CardFault} → IsPricesAnswer number line words (Err fault)
      → IsPriceLineAnswer word number line bytes (Err fault)
  line_failed is = GoesOn _ (first_says has) (GoesOn tt refl (HasFault _ is refl))

-- If a line has only one word, it lacks prices, whichever word it is.
pub missing_prices : {number line : ℕ} {bytes first : List ℕ} (word : List ℕ) {rest : List ℕ}
    → IsLineAnswer line bytes (Ok (first, [], rest)) → 0 < number
    → IsPriceLineAnswer word number line bytes (Err PriceMissing)
missing_prices {number} {line} {bytes} {first} word is some =
    by_test (bytes_eq first word) (bytes_eq-Decides first word) where
      none : length {A = ℤ} [] ≢ number
      none e = omega arith

      by_test : (test : Bool) → Decides test (first ≡ word)
          → IsPriceLineAnswer word number line bytes (Err PriceMissing)
      by_test true same =
          GoesOn _ is (GoesOn tt (same.0 refl) (HasFault _ (other_count number line [] refl (All-nil _) none) refl))
      by_test false other = GoesOn _ is (HasFault _ ((λ unit. not_from_false other refl), refl) refl)

-- A line has a first word and `number` prices after it.
pub record HasPrices (bytes word : List ℕ) (number : ℕ) (prices : List ℤ) (rest : List ℕ) : Type 0 where
  pub text : bytes ≡ line_then (price_words word prices) rest
  pub list : IsPriceList number prices

pub prices_said : {number line : ℕ} {words : List (List ℕ)} {prices : List ℤ}
    → IsPricesAnswer number line words (Ok prices) → (words ≡ map signed_decimal prices) × IsPriceList number prices
prices_said {number} {words} {prices} says = grind (arith, ThenNext-Ok)

pub line_said : {word : List ℕ} {number line : ℕ} {bytes : List ℕ} (x : List ℤ × List ℕ)
    → IsPriceLineAnswer word number line bytes (Ok x) → HasPrices bytes word number x.0 x.1
line_said {word} {number} {bytes} x says =
    let line = ThenNext-Ok says in
    let split = ThenNext-Ok line.says in
    let first = ThenNext-Ok line.next in
    let prices = ThenNext-Ok first.next in
    let are = prices_said prices.says in
    let words : line.found.0 ∷ line.found.1 ≡ price_words word prices.found = cc in
    rw (Yields-Ok prices.next)
    (record { text = is_line split.next ∙ ap (λ ws. line_then ws line.found.2) words; list = are.1 })
