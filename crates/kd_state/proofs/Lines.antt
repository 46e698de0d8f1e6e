-- Lemmas on lines: a line of settings determines its setting, and a text the list of settings.
use Rattle.kd_state.proofs.Prelude.{All, All-from_recursion, All-push, AllByRecursion, BeginsWithSettingLines}
use Rattle.kd_state.proofs.Prelude.{BeginsWithSettingLine, BeginsWithNoSetting, Bool, IsSettingInRange, IsListText}
use Rattle.kd_state.proofs.Prelude.{IsSettingOfWords, List, ListsHaveNoFault, Lug, MatchOption, One, OneListFault}
use Rattle.kd_state.proofs.Prelude.{Option, Place, Reflector, Setting, TextsDetermineLists, Wheel, [], ap, append-nil}
use Rattle.kd_state.proofs.Prelude.{append_assoc, arith, common_steps, decimal_injective, get_or_at, length}
use Rattle.kd_state.proofs.Prelude.{length-append, list_text, lug_text, on_off_text, place_text, places}
use Rattle.kd_state.proofs.Prelude.{recursion_from_All, refl, reflector_text, rules, setting_line, setting_words, sym}
use Rattle.kd_state.proofs.Prelude.{wheel_text, ℕ, ◌++◌, ◌+◌, ◌<◌, ◌∷◌, ◌≡◌, ◌≢◌, ◌≤◌}
use Rattle.kd_tables.proofs.LineWords.{texts_determine_first_parts, IsWord, lines_split_into_words, parts_make_lines}
use Rattle.kd_tables.proofs.LineWords.{lines_determine_words, words_make_one_line, word_by_test, numbers_are_words}
use Rattle.kd_tables.proofs.LineWords.{letters_are_words}
use Rattle.kd_tables.specs.LineWords.{IsFirstPart, IsWithout, words_of}
use Rattle.kd_state.proofs.Wheels.{named_or, one_reflector, one_wheel, name-injective}
use Rattle.kd_state.specs.declared.setting.list.ListFault.TheVariants.{BadLine, TooMany}
use Rattle.std.proofs.Common.{◌^◌}
use Rattle.std.proofs.lemmas.List.Concat.{flat_map-append}
use Rattle.std.specs.Fmt.{decimal}

-- ---- names: each is a word, and different things have different names

pub same_place : (x y : Place) → place_text x ≡ place_text y → x ≡ y
same_place =
    name-injective place_text (named_or place_text places One)
    (λ x. elim x as (λ p. named_or place_text places One (place_text p) ≡ p) [ One ↦ refl | _ ↦ refl ])

wheel_is_word : (x : Wheel) → IsWord (wheel_text x)
wheel_is_word x = grind (arith, word_by_test)

reflector_is_word : (x : Reflector) → IsWord (reflector_text x)
reflector_is_word x = grind (arith, word_by_test)

place_is_word : (x : Place) → IsWord (place_text x)
place_is_word x = grind (arith, word_by_test)

lug_is_word : (x : Lug) → IsWord (lug_text x)
lug_is_word x = grind (arith, word_by_test)

pin_is_word : (x : Bool) → IsWord (on_off_text x)
pin_is_word x = grind (arith, word_by_test)

byte_is_word : (n : ℕ) → n < 2 ^ 8 → IsWord (decimal n)
byte_is_word n small = numbers_are_words n (omega arith)

-- ---- settings

words_are_words : (x : Setting) → IsSettingInRange x → AllByRecursion IsWord (setting_words x)
words_are_words x r =
    grind (
      arith,
      word_by_test,
      byte_is_word,
      letters_are_words,
      wheel_is_word,
      reflector_is_word,
      pin_is_word,
      lug_is_word,
      place_is_word,
    )

pub setting_words_are_words : (x : Setting) → IsSettingInRange x → All IsWord (setting_words x)
setting_words_are_words x r = All-from_recursion IsWord (setting_words x) (words_are_words x r)

pub same_settings : (x y : Setting) → IsSettingInRange x → IsSettingInRange y → setting_words x ≡ setting_words y
    → x ≡ y
same_settings x y e d g = grind (arith, decimal_injective, one_wheel, one_reflector, same_place)

-- ---- the number of words of a setting's line

pub setting_has_words : (x : Setting) → (2 ≤ length (setting_words x)) × (length (setting_words x) ≤ 4)
setting_has_words x = grind arith

-- ---- the words of a setting's line

words_of_line : (x : Setting) (text : List ℕ) → IsSettingInRange x → setting_line x ≡ text
    → setting_words x ≡ words_of text
words_of_line x text r e = grind (arith, setting_has_words, lines_split_into_words, setting_words_are_words)

pub too_many_words : (text : List ℕ) → 4 < length (words_of text) → (x : Setting) → IsSettingInRange x
    → setting_line x ≢ text
too_many_words text many x r e = grind (arith, setting_has_words, words_of_line)

pub read_by_words : (text : List ℕ) (words : List (List ℕ)) (r : Option Setting) → words ≡ words_of text
    → IsSettingOfWords words r
    → MatchOption r ((x : Setting) → IsSettingInRange x → setting_line x ≢ text) (λ x. setting_line x ≡ text)
read_by_words text words r e d = grind (arith, words_of_line, parts_make_lines)

pub line_has_no_break : (x : Setting) → IsSettingInRange x → IsWithout 10 (setting_line x)
line_has_no_break x r = words_make_one_line (setting_words x) (setting_words_are_words x r)

pub lines_determine_settings : (x y : Setting) → IsSettingInRange x → IsSettingInRange y
    → setting_line x ≡ setting_line y
    → x ≡ y
lines_determine_settings x y r s e = search (rules, same_settings, lines_determine_words, setting_words_are_words)

-- ---- a text determines its list of settings; any other text has exactly one fault

pub text_of_more : (x : Setting) (xs : List Setting) (rest : List ℕ)
    → list_text (x ∷ xs) ++ rest ≡ setting_line x ++ 10 ∷ (list_text xs ++ rest)
text_of_more x xs rest = grind (arith, append_assoc)

BeginsWithNoSetting-empty : BeginsWithNoSetting []
BeginsWithNoSetting-empty x rest r e = grind (arith, length-append, ap length e)

-- if two texts that begin with the lines of settings are equal, their first settings are equal, and so are
-- the texts after the first lines
same_first : (x y : Setting) (xs ys : List Setting) (rest more : List ℕ) → IsSettingInRange x → IsSettingInRange y
    → list_text (x ∷ xs) ++ rest ≡ list_text (y ∷ ys) ++ more
    → (x ≡ y) × (list_text xs ++ rest ≡ list_text ys ++ more)
same_first x y xs ys rest more r s e =
    let parts =
    texts_determine_first_parts 10 (setting_line x) (setting_line y) (list_text xs ++ rest) (list_text ys ++ more) in
    grind (arith, parts, line_has_no_break x, line_has_no_break y, text_of_more, lines_determine_settings x y)

-- two lists are equal if one text begins with the lines of each, and no further setting's line follows them
same_lists : (xs ys : List Setting) (rest more : List ℕ) → AllByRecursion IsSettingInRange xs
    → AllByRecursion IsSettingInRange ys
    → list_text xs ++ rest ≡ list_text ys ++ more
    → BeginsWithNoSetting rest → BeginsWithNoSetting more → (xs ≡ ys) × (rest ≡ more)
same_lists [] [] rest more r s e none nor = (refl, e)
same_lists [] (y ∷ ys) rest more r s e none nor = grind (arith, none, text_of_more)
same_lists (x ∷ xs) [] rest more r s e none nor = grind (arith, nor, text_of_more)
same_lists (x ∷ xs) (y ∷ ys) rest more r s e none nor = grind (arith, same_first, same_lists xs ys rest more r.1 s.1)

-- if one text begins with the lines of `xs` and with the lines of `ys`, and no setting's line follows the
-- lines of `xs`, then `ys` has at most as many settings as `xs`
length-same_lines : (xs ys : List Setting) (rest more : List ℕ) → AllByRecursion IsSettingInRange xs
    → AllByRecursion IsSettingInRange ys
    → list_text xs ++ rest ≡ list_text ys ++ more
    → BeginsWithNoSetting rest → length ys ≤ length xs
length-same_lines xs [] rest more r s e none = omega arith
length-same_lines [] (y ∷ ys) rest more r s e none = grind (arith, none, text_of_more)
length-same_lines (x ∷ xs) (y ∷ ys) rest more r s e none =
    grind (arith, same_first, length-same_lines xs ys rest more r.1 s.1)

-- ---- reading line by line

pub one_more : (bytes : List ℕ) (xs : List Setting) (rest : List ℕ) (x : Setting) (after : List ℕ)
    → BeginsWithSettingLines bytes xs rest → BeginsWithSettingLine rest x after
    → BeginsWithSettingLines bytes (xs ++ x ∷ []) after
one_more bytes xs rest x after b l = grind (arith, common_steps, text_of_more, append_assoc, flat_map-append, All-push)

pub no_line_without_break : (bytes : List ℕ) → IsWithout 10 bytes → BeginsWithNoSetting bytes
no_line_without_break bytes without x rest r e =
    grind (arith, common_steps, length-append, get_or_at, without (length (setting_line x)) 0)

pub no_line_by_first : (bytes line rest : List ℕ) → IsFirstPart 10 bytes line rest
    → ((x : Setting) → IsSettingInRange x → setting_line x ≢ line) → BeginsWithNoSetting bytes
no_line_by_first bytes line rest first none x other r e =
    grind (arith, texts_determine_first_parts, line_has_no_break, none)

-- ---- laws

BeginsWithSettingLines-IsListText : (bytes : List ℕ) (xs : List Setting) → IsListText bytes xs
    → BeginsWithSettingLines bytes xs []
BeginsWithSettingLines-IsListText bytes xs l = grind (arith, append-nil)

pub same_end : (bytes : List ℕ) (xs ys : List Setting) (rest more : List ℕ) → BeginsWithSettingLines bytes xs rest
    → BeginsWithSettingLines bytes ys more
    → BeginsWithNoSetting rest → BeginsWithNoSetting more → (xs ≡ ys) × (rest ≡ more)
same_end bytes xs ys rest more a b = grind (arith, same_lists, recursion_from_All)

pub not_longer : (bytes : List ℕ) (xs ys : List Setting) (rest more : List ℕ) → BeginsWithSettingLines bytes xs rest
    → BeginsWithSettingLines bytes ys more
    → BeginsWithNoSetting rest → length ys ≤ length xs
not_longer bytes xs ys rest more a b = grind (arith, length-same_lines, recursion_from_All)

pub texts_determine_lists : TextsDetermineLists
texts_determine_lists bytes xs ys a b =
    (same_end bytes xs ys [] [] (BeginsWithSettingLines-IsListText bytes xs a)
    (BeginsWithSettingLines-IsListText bytes ys b) BeginsWithNoSetting-empty BeginsWithNoSetting-empty).0

pub lists_have_no_fault : ListsHaveNoFault
lists_have_no_fault bytes xs (BadLine line) a f =
    f.5 (sym (same_end bytes xs f.0 [] f.1 (BeginsWithSettingLines-IsListText bytes xs a) f.2
    BeginsWithNoSetting-empty f.6).1)
lists_have_no_fault bytes xs TooMany a f =
    omega (
      arith,
      not_longer bytes xs f.0 [] f.1 (BeginsWithSettingLines-IsListText bytes xs a) f.2
          BeginsWithNoSetting-empty,
      a.few,
      f.3,
    )

pub one_list_fault : OneListFault
one_list_fault bytes (BadLine line) (BadLine other) f g =
    let same = same_end bytes f.0 g.0 f.1 g.1 f.2 g.2 f.6 g.6 in cc
one_list_fault bytes (BadLine line) TooMany f g =
    absurd (omega (arith, not_longer bytes f.0 g.0 f.1 g.1 f.2 g.2 f.6, f.3, g.3))
one_list_fault bytes TooMany (BadLine line) f g =
    absurd (omega (arith, not_longer bytes g.0 f.0 g.1 f.1 g.2 f.2 g.6, g.3, f.3))
one_list_fault bytes TooMany TooMany f g = refl
