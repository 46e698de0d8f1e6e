-- Lemmas on lines and words: a byte splits a text, a line determines its words, and decimal numbers are words.
use Rattle.kd_tables.specs.LineWords.{IsFirstPart, IsWithout, line_of, words_of}
use Rattle.kd_tables.specs.Text.{letters_text}
use Rattle.std.proofs.Common.{Bool, Bor, List, MatchOption, MatchResult, None, Option, Result, Some, [], ap, arith, eqb}
use Rattle.std.proofs.Common.{false, get_or, length, ltb, map, refl, rules, sym, true, ℕ, ◌++◌, ◌<◌, ◌^◌, ◌∷◌, ◌≡◌, ◌≢◌}
use Rattle.std.proofs.lemmas.Bool.{eq-eqb, eqb-true, ltb-true, ne_eqb}
use Rattle.std.proofs.lemmas.Fmt.{IsAscii-decimal, decimal_nonempty, digits_decimal, parse-decimal}
use Rattle.std.proofs.lemmas.Grind.{common_steps}
use Rattle.std.proofs.lemmas.List.{append_assoc, append_cancel_left, length-append, map_push}
use Rattle.std.proofs.lemmas.List.Elements.{All-append, All-cons, All-from_get_or, All-from_recursion, All-nil, All-weaker}
use Rattle.std.proofs.lemmas.List.Elements.{recursion_from_All}
use Rattle.std.proofs.lemmas.List.Splits.{join_with_byte-slice_split, length-slice_split, slice_split_at, slice_split_none}
use Rattle.std.proofs.lemmas.List.Sums.{AllPass-from_list_all}
use Rattle.std.proofs.lemmas.Str.{Parse.{IsNumeralModel, numerals_by_value, tells_by_index}, IsUtf8-from_ascii}
use Rattle.std.specs.{Bool.Decides, Bool.then_some, Fmt.decimal, Int.IsInRange as IsFigure, Result.result_ok}
use Rattle.std.specs.{Str.IsUtf8, Str.Parse.ParsesUnsigned, Str.Parse.digits_value}
use Rattle.std.specs.List.{All, AllByRecursion, list_all, slice_split}

-- ---- the text before a byte

none_is : (byte : ℕ) (text : List ℕ) → IsWithout byte text → All (λ b. eqb b byte ≡ false) text
none_is byte text h = grind (arith, All-weaker, ne_eqb)

slice_split-first : (byte : ℕ) (part rest : List ℕ) → IsWithout byte part
    → slice_split (λ b. eqb b byte) (part ++ byte ∷ rest) ≡ part ∷ slice_split (λ b. eqb b byte) rest
slice_split-first byte part rest h = grind (arith, slice_split_at, none_is, eq-eqb)

pub texts_determine_first_parts : (byte : ℕ) (first other rest more : List ℕ) → IsWithout byte first
    → IsWithout byte other
    → first ++ byte ∷ rest ≡ other ++ byte ∷ more → (first ≡ other) × (rest ≡ more)
texts_determine_first_parts byte first other rest more a b e =
    let one = slice_split-first byte first rest a in
    let two = slice_split-first byte other more b in
    grind (arith, one, two, append_cancel_left other (byte ∷ rest) (byte ∷ more))

-- ---- words

-- The text is a word: it isn't empty, and has no space and no LF.
pub record IsWord (word : List ℕ) : Type 0 where
  pub filled : word ≢ []
  pub spaceless : IsWithout 32 word
  pub unbroken : IsWithout 10 word

words_of-line_of : (word : List ℕ) (words : List (List ℕ)) → AllByRecursion IsWord (word ∷ words)
    → words_of (line_of (word ∷ words)) ≡ word ∷ words
words_of-line_of word [] a = grind (arith, slice_split_none, none_is)
words_of-line_of word (next ∷ words) a =
    grind (arith, slice_split-first 32 word (line_of (next ∷ words)), words_of-line_of next words a.1)

pub lines_split_into_words : (words : List (List ℕ)) → words ≢ [] → All IsWord words → words_of (line_of words) ≡ words
lines_split_into_words [] filled a = absurd (filled refl)
lines_split_into_words (word ∷ words) filled a =
    words_of-line_of word words (recursion_from_All IsWord (word ∷ words) a)

pub parts_make_lines : (line : List ℕ) → line_of (words_of line) ≡ line
parts_make_lines line = join_with_byte-slice_split 32 line

words-same_line : (words others : List (List ℕ)) → AllByRecursion IsWord words → AllByRecursion IsWord others
    → line_of words ≡ line_of others → words ≡ others
words-same_line [] [] a b e = refl
words-same_line [] (word ∷ words) a b e = grind (arith, words_of-line_of word words b, b.0.filled)
words-same_line (word ∷ words) [] a b e = grind (arith, words_of-line_of word words a, a.0.filled)
words-same_line (word ∷ words) (other ∷ others) a b e =
    grind (arith, words_of-line_of word words a, words_of-line_of other others b)

pub lines_determine_words : (words others : List (List ℕ)) → All IsWord words → All IsWord others
    → line_of words ≡ line_of others → words ≡ others
lines_determine_words words others a b e =
    words-same_line words others (recursion_from_All IsWord words a) (recursion_from_All IsWord others b) e

one_line : (words : List (List ℕ)) → AllByRecursion IsWord words → IsWithout 10 (line_of words)
one_line [] a = All-nil (λ b. b ≢ 10)
one_line (word ∷ []) a = a.0.unbroken
one_line (word ∷ next ∷ words) a = grind (arith, common_steps, All-append, All-cons, one_line (next ∷ words) a.1)

pub words_make_one_line : (words : List (List ℕ)) → All IsWord words → IsWithout 10 (line_of words)
words_make_one_line words a = one_line words (recursion_from_All IsWord words a)

-- ---- splitting a line word by word

-- appending a word to a list of borrowed words appends it to the words
pub map_now-push : (words more : List (Bor (List ℕ))) (word : Bor (List ℕ)) → more ≡ words ++ word ∷ []
    → map (λ (w : Bor (List ℕ)). w.now) more ≡ map (λ (w : Bor (List ℕ)). w.now) words ++ word.now ∷ []
map_now-push words more word e = grind (arith, map_push)

-- the words split off so far and the words of the rest are together the words of the line
pub record AreTaken (line rest : List ℕ) (taken : List (List ℕ)) : Type 0 where
  pub joined : taken ++ words_of rest ≡ words_of line

pub one_more_taken : (line text word rest : List ℕ) (taken : List (List ℕ)) → AreTaken line text taken
    → IsFirstPart 32 text word rest
    → AreTaken line rest (taken ++ word ∷ [])
one_more_taken line text word rest taken a first =
    let parts = slice_split-first 32 word rest first.without in
    record { joined = rw append_assoc (cc) }

pub last_taken : (line rest : List ℕ) (taken : List (List ℕ)) → AreTaken line rest taken → IsWithout 32 rest
    → taken ++ rest ∷ [] ≡ words_of line
last_taken line rest taken a without = grind (arith, slice_split_none, none_is)

pub more_words : (line rest : List ℕ) (taken : List (List ℕ)) → AreTaken line rest taken
    → length taken < length (words_of line)
more_words line rest taken a = search (rules, length-append, length-slice_split)

-- ---- recognizing words by their bytes

pub word_by_bytes : (word : List ℕ) → word ≢ [] → All (λ b. 32 < b) word → IsWord word
word_by_bytes word filled a = grind (arith, All-weaker)

pub word_by_test : (b : ℕ) (bs : List ℕ) → list_all (λ c. ltb 32 c) (b ∷ bs) ≡ true → IsWord (b ∷ bs)
word_by_test b bs e = grind (arith, word_by_bytes, All-weaker, ltb-true, AllPass-from_list_all)

pub IsNumeralModel-digits : IsNumeralModel (λ ds. (i : ℕ) → i < length ds → IsFigure 48 57 (get_or ds i 0))
    (digits_value 10)
IsNumeralModel-digits = numerals_by_value (λ ds. (i : ℕ) → i < length ds → IsFigure 48 57 (get_or ds i 0))
    tells_by_index

pub numbers_are_words : (number : ℕ) → number < 2 ^ 64 → IsWord (decimal number)
numbers_are_words number small =
    let filled = decimal_nonempty number small in
    let digits = digits_decimal IsNumeralModel-digits number small in
    let above = All-from_get_or (λ b. 32 < b) (decimal number) 0 in
    grind (arith, word_by_bytes, filled, above, digits, ap (length {A = ℕ}))

pub letters_are_words : (letter : ℕ) → IsWord (letters_text (letter ∷ []))
letters_are_words letter = grind (arith, word_by_bytes, All-from_recursion)

-- ---- numbers from their texts

pub decimal-not_text : {S E : Type 0} (bs : List ℕ) (r : Result S E) (P : S → Type 0) (Q : E → Type 0)
    → MatchResult r P (λ e. ¬ (IsUtf8 bs) × Q e) → result_ok r ≡ None → (number : ℕ) → number < 2 ^ 16
    → decimal number ≢ bs
decimal-not_text bs r P Q e d number g = grind (arith, IsUtf8-from_ascii, IsAscii-decimal)

-- if `r` is an `Ok`, its value satisfies `P`, which the contract asserts of each value of an `Ok`
pub ok_part : {S E : Type 0} (r : Result S E) (s : S) (P : S → Type 0) (Q : E → Type 0) → MatchResult r P Q
    → Some s ≡ result_ok r → P s
ok_part r s P Q e d = grind arith

pub no_number : {E : Type 0} (bs : List ℕ) (r : Result ℕ E) → ParsesUnsigned 16 10 bs r → result_ok r ≡ None
    → (number : ℕ) → number < 2 ^ 16 → decimal number ≢ bs
no_number bs r h none number small e = grind (arith, parse-decimal 16 number bs r small (omega arith) (sym e) h)

pub only_number : {E : Type 0} (bs : List ℕ) (r : Result ℕ E) (m : ℕ) (test : Bool) → ParsesUnsigned 16 10 bs r
    → result_ok r ≡ Some m
    → Decides test (decimal m ≡ bs)
    → MatchOption (then_some test m) ((number : ℕ) → number < 2 ^ 16 → decimal number ≢ bs)
    (λ number. decimal number ≡ bs)
only_number bs r m true h some d = d.0 refl
only_number bs r m false h some d = λ number small e. grind (arith, parse-decimal 16 number bs r small, d)

pub ruleset splitting = (common_steps, eqb-true, more_words, map_now-push, one_more_taken, last_taken)
