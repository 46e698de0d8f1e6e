-- The words of a kind's line determine what its keys have in common, their number and their price.
pub mod Lines
unfoldable pub use Lines.*

-- ---- the texts of keys

place_above : (p : Place) → All (λ b. 45 < b) (place_text p)
place_above p = bytes_above 45 (place_text p) (grind arith)

place_without : (p : Place) → IsWithout 45 (place_text p)
place_without p = grind (arith, All-weaker, place_above p)

standing_above : (left right : Place) → All (λ b. 32 < b) (standing_text (left, right))
standing_above left right = grind (arith, All-append, All-weaker, place_above, All-from_recursion)

same_ends : (a b c d : Option ℕ) → AreEnds a b → AreEnds c d
    → letters_text (cable_letters (a, b)) ≡ letters_text (cable_letters (c, d))
    → ◌≡◌ {A = Option ℕ × Option ℕ} (a, b) (c, d)
same_ends a b c d e g h = grind arith

same_pair : (a b : Option (ℕ × ℕ)) → letters_text (column_letters a) ≡ letters_text (column_letters b) → a ≡ b
same_pair a b e = grind arith

same_standing : (a b c d : Place) → standing_text (a, b) ≡ standing_text (c, d) → ◌≡◌ {A = Place × Place} (a, b) (c, d)
same_standing a b c d e = grind (arith, common_steps, texts_determine_first_parts, place_without, append_assoc)

same_reading : (x y : ℕ × ℕ) → reading_text x ≡ reading_text y → x ≡ y
same_reading (a, b) (c, d) e = grind arith

pub one_cable : (text : List ℕ) (x : Option ℕ × Option ℕ) → HasText cable_format text x → IsOnlyKey cable_format text x
one_cable text (a, b) has = grind (arith, common_steps, same_ends)

pub one_pair : (text : List ℕ) (x : Option (ℕ × ℕ)) → HasText pair_format text x → IsOnlyKey pair_format text x
one_pair text x has = record { has = has; only = λ y other. same_pair y x (other.written ∙ sym has.written) }

pub one_standing : (text : List ℕ) (x : Place × Place) → HasText bar_format text x → IsOnlyKey bar_format text x
one_standing text (a, b) has =
    record { has = has; only = λ (c, d) other. same_standing c d a b (other.written ∙ sym has.written) }

pub one_reading : (text : List ℕ) (x : ℕ × ℕ) → HasText row_format text x → IsOnlyKey row_format text x
one_reading text x has = record { has = has; only = λ y other. same_reading y x (other.written ∙ sym has.written) }

-- ---- what the four sorts have in common

pub record IsFormat {K X : Type 0} (format : KindFormat K X) : Type 0 where
  pub word : IsWord format.word
  pub text : (x : X) → IsWord (format.text x)
  pub only : (text : List ℕ) (x : X) → HasText format text x → IsOnlyKey format text x
  pub same : (k l : K) → format.kind k ≡ format.kind l → k ≡ l

pub cables_are : IsFormat cable_format
cables_are = grind (arith, common_steps, word_by_test, bytes_are_word, word_by_bytes, one_cable)

pub pairs_are : IsFormat pair_format
pairs_are = grind (arith, common_steps, word_by_test, bytes_are_word, word_by_bytes, one_pair)

pub bars_are : IsFormat bar_format
bars_are = grind (arith, common_steps, word_by_test, word_by_bytes, length-append, standing_above, one_standing)

pub rows_are : IsFormat row_format
rows_are = grind (arith, common_steps, word_by_test, bytes_are_word, word_by_bytes, one_reading)

-- ---- the words of a line

module _ {K X : Type 0} {format : KindFormat K X} (is : IsFormat format) where
  pub kind_is_words : (kind : K) → IsKind format kind → All IsWord (kind_words format kind)
  kind_is_words kind good = grind (arith, common_steps, All-from_recursion, numbers_are_words, signed_word)

  pub same_kind : (kind other : K) → IsKind format kind → IsKind format other
      → kind_words format kind ≡ kind_words format other → kind ≡ other
  same_kind kind other a b e =
      let a_kind = format.kind kind in
      let b_kind = format.kind other in
      let keys : a_kind.key ≡ b_kind.key =
      (is.only (format.text b_kind.key) b_kind.key (record { form = b.form; written = refl })).only a_kind.key
      (record { form = a.form; written = ap (λ w. get_or w 1 []) e }) in
      let counts : a_kind.count ≡ b_kind.count =
      decimal_injective a_kind.count b_kind.count (omega arith) (omega arith) (ap (λ w. get_or w 2 []) e) in
      let prices : a_kind.price ≡ b_kind.price =
      signed_decimal_injective a_kind.price b_kind.price (mag-small a_kind.price a.in_range)
      (mag-small b_kind.price b.in_range) (ap (λ w. get_or w 3 []) e) in
      let make : X → ℕ → ℤ → KindOf X = λ key count price. record { key = key; count = count; price = price } in
      is.same kind other (ap (λ key. make key a_kind.count a_kind.price) keys
      ∙ ap (λ count. make b_kind.key count a_kind.price) counts ∙ ap (make b_kind.key b_kind.count) prices)

-- ---- reading a line of a group

one_word : {bytes word other : List ℕ} → BeginsWithWord word bytes → BeginsWithWord other bytes → word ≡ other
one_word a b = ap (λ words. get_or words 0 []) (same_words a.has b.has).0

module _ {K X : Type 0} {format : KindFormat K X} where
  -- The line of a kind begins with the word of its format.
  pub kind_begins : {last : Option K} {bytes : List ℕ} {kind : K} {rest : List ℕ}
      → IsNextKind format last bytes kind rest → BeginsWithWord format.word bytes
  kind_begins {kind} {rest} next = record { behind = drop 1 (kind_words format kind); rest = rest; has = next.line }

  pub end_has_no_next : {bytes : List ℕ} (last : Option K) → EndsGroup format.word bytes → HasNoNext format last bytes
  end_has_no_next last (AtNothing none) kind rest next = some_bytes next.line none
  end_has_no_next last (AtOther word begins differs) kind rest next = differs (one_word begins (kind_begins next))

  pub ends_at : {bytes : List ℕ} (last : Option K) → EndsGroup format.word bytes → EndsKindsAt format last bytes
  ends_at last ends = record { ends = ends; none_more = end_has_no_next last ends }

  -- If there are bytes, but no whole line begins them, the group doesn't end before them, and no kind follows.
  pub unended : {bytes : List ℕ} (last : Option K) → bytes ≢ []
      → ((found : List ℕ × List (List ℕ) × List ℕ) → ¬ (HasLineWords bytes (found.0 ∷ found.1) found.2))
      → IsBadKindAt format last bytes
  unended last some none = record {
    goes_on = λ ends. elim ends [
      | AtNothing empty ↦ some empty
      | AtOther word begins differs ↦ none (word, begins.behind, begins.rest) begins.has
    ];
    none_more = λ kind rest next. none (format.word, drop 1 (kind_words format kind), rest) next.line;
  }

  -- If a line begins with the format's word but isn't the line of a kind after `last`, the group doesn't end before it,
  -- and no kind follows.
  pub no_kind : {bytes : List ℕ} (last : Option K) → BeginsWithWord format.word bytes → HasNoNext format last bytes
      → IsBadKindAt format last bytes
  no_kind last begins none = record {
    goes_on = λ ends. elim ends [
      | AtNothing empty ↦ some_bytes begins.has empty
      | AtOther word other differs ↦ differs (one_word other begins)
    ];
    none_more = none;
  }

  module _ {text : List ℕ} {words : List (List ℕ)} {rest : List ℕ} (has : HasLineWords text words rest) where
    pub words_are : {last : Option K} {kind : K} {more : List ℕ} → IsNextKind format last text kind more
        → HasKindWords format words kind
    words_are next = record { good = next.good; written = (same_words next.line has).0 }

pub no_count : {K X : Type 0} (format : KindFormat K X) (key count price : List ℕ) → decimal 0 ≡ count
    → (kind : K) → ¬ (HasKindWords format (format.word ∷ key ∷ count ∷ price ∷ []) kind)
no_count format key count price is kind has = grind (arith, common_steps, decimal_injective)

-- ---- writing a line

pub line_in_pieces : {K X : Type 0} (format : KindFormat K X) (prefix : List ℕ) (kind : K)
    → (((((((prefix ++ format.word) ++ 32 ∷ []) ++ format.text (format.kind kind).key) ++ 32 ∷ [])
    ++ decimal (format.kind kind).count) ++ 32 ∷ []) ++ signed_decimal (format.kind kind).price) ++ 10 ∷ []
    ≡ prefix ++ kinds_text format (kind ∷ [])
line_in_pieces format prefix kind = simp (append_assoc, append-nil)
