-- The days of the rows of a table that were read so far.
use Rattle.std.proofs.Common.{◌≡◌, ◌∙◌, ◌||◌, ◌==◌, ◌++◌, ◌∷◌, ℕ, zero, suc, Bool, true, false, List, [], Option, None, Some, ap, append_assoc, arith, get_or, get_or-set_other, length, length-set, refl, subst, sym}
use Rattle.std.proofs.lemmas.Bool.{and_parts, eqb-false, eqb-true}
use Rattle.std.proofs.lemmas.Grind.{get_or-set_at}
use Rattle.std.specs.List.{list_any}
use Rattle.std.specs.Option.{option_and_then, option_map_or}
use Rattle.std.specs.Prelude.{◌<◌, if◌then◌else◌, IfSome, replicate, slice_get, slice_index_or, slice_set}
use Rattle.kd_tables.specs.LineWords.{words_of}
use Rattle.kd_spreadsheet.specs.Cells.{day_in, is_day}
use Rattle.kd_spreadsheet.specs.Columns.{cell_at}
use Rattle.kd_spreadsheet.specs.Items.{is_blank, item_text, number_of, single, values_of_words, words}
use Rattle.kd_spreadsheet.specs.Names.{is_gap}
use Rattle.kd_spreadsheet.specs.Notes.{FindsDay, IsEarlierRow, KnowsDays, day_of_row, has_day}
unfoldable use Rattle.kd_spreadsheet.specs.Row.{is_blank_row}
use Rattle.kd_spreadsheet.specs.declared.columns.Columns.{Columns}
use Rattle.kd_spreadsheet.proofs.Noting.{any_more}

none_known : (columns : Columns) (numbers : List ℕ) (any count day : ℕ)
    → FindsDay columns any numbers [] (get_or (replicate {A = Option ℕ} count None) day None)
none_known columns numbers any zero day = refl
none_known columns numbers any (suc count) zero = refl
none_known columns numbers any (suc count) (suc day) = none_known columns numbers any count day

-- no days before the first row
pub no_days : (columns : Columns) (numbers : List ℕ) → KnowsDays columns numbers [] (replicate 32 None)
no_days columns numbers = record { size = refl; known = λ day below. none_known columns numbers day 32 day }

-- ---- one more row

module _ (columns : Columns) (numbers : List ℕ) (rows : List (List (List ℕ))) (row : List (List ℕ)) (day : ℕ) where
  -- an earlier row stays the first with the day
  pub found_before : (number : ℕ) → FindsDay columns day numbers rows (Some number)
      → FindsDay columns day numbers (rows ++ row ∷ []) (Some number)
  found_before number first = record {
    front = first.front;
    row = first.row;
    rest = first.rest ++ row ∷ [];
    split = ap (λ all. all ++ row ∷ []) first.split ∙ append_assoc first.front (first.row ∷ first.rest) (row ∷ []);
    has = first.has;
    before = first.before;
    numbered = first.numbered;
  }

  -- a row without the day changes nothing
  pub found_as_before : (found : Option ℕ) → has_day columns day row ≡ false → FindsDay columns day numbers rows found
      → FindsDay columns day numbers (rows ++ row ∷ []) found
  found_as_before None lacks none =
      any_more (has_day columns day) rows row ∙ ap (λ b. b || has_day columns day row) none ∙ lacks
  found_as_before (Some number) lacks first = found_before number first

  -- a row with a day that no earlier row has
  pub found_here : (number : ℕ) → list_any (has_day columns day) rows ≡ false → has_day columns day row ≡ true
      → IfSome (slice_get numbers (length rows)) (λ due. number ≡ due)
      → FindsDay columns day numbers (rows ++ row ∷ []) (Some number)
  found_here number none has due =
      record { front = rows; row = row; rest = []; split = refl; has = has; before = none; numbered = due }

-- a row without a day
pub days_without : (columns : Columns) (numbers : List ℕ) (rows : List (List (List ℕ))) (row : List (List ℕ))
    (found : List (Option ℕ)) → day_of_row columns row ≡ None → KnowsDays columns numbers rows found
    → KnowsDays columns numbers (rows ++ row ∷ []) found
days_without columns numbers rows row found none knows = record {
  size = knows.size;
  known = λ day below. found_as_before columns numbers rows row day _
      (ap (λ d. option_map_or (λ n. n == day) d false) none) (knows.known day below);
}

-- a row with the day `day`
module _ (columns : Columns) (numbers : List ℕ) (rows : List (List (List ℕ))) (row : List (List ℕ))
    (found : List (Option ℕ)) (day : ℕ) (is : day_of_row columns row ≡ Some day) (below : day < 32)
    (knows : KnowsDays columns numbers rows found) where
  has : (other : ℕ) → has_day columns other row ≡ (day == other)
  has other = ap (λ d. option_map_or (λ n. n == other) d false) is

  known_as : (other : ℕ) → other < 32 → (was : Option ℕ) → slice_index_or found other None ≡ was
      → FindsDay columns other numbers rows was
  known_as other within was had = let P : Option ℕ → Type 0 = λ f. FindsDay columns other numbers rows f in
      subst P had (knows.known other within)

  known_again : (earlier : ℕ) → slice_index_or found day None ≡ Some earlier → (other : ℕ) → other < 32 → (same : Bool)
      → (day == other) ≡ same → FindsDay columns other numbers (rows ++ row ∷ []) (slice_index_or found other None)
  known_again earlier had other within false other_day =
      found_as_before columns numbers rows row other _ (has other ∙ other_day) (knows.known other within)
  known_again earlier had other within true same_day =
      let at : slice_index_or found other None ≡ Some earlier = subst (λ d. slice_index_or found d None ≡ Some earlier)
      (eqb-true day other same_day) had in
      let P : Option ℕ → Type 0 = λ f. FindsDay columns other numbers (rows ++ row ∷ []) f in
      subst P (sym at) (found_before columns numbers rows row other earlier (known_as other within _ at))

  -- an earlier row has the day, too
  pub day_again : (earlier : ℕ) → slice_index_or found day None ≡ Some earlier
      → IsEarlierRow columns numbers rows row (Some earlier) × KnowsDays columns numbers (rows ++ row ∷ []) found
  day_again earlier had = (
    rw is (known_as day below _ had),
    record { size = knows.size; known = λ other within. known_again earlier had other within (day == other) refl },
  )

  known_now : (number : ℕ) → slice_index_or found day None ≡ None
      → IfSome (slice_get numbers (length rows)) (λ due. number ≡ due) → (other : ℕ) → other < 32 → (same : Bool)
      → (day == other) ≡ same
      → FindsDay columns other numbers (rows ++ row ∷ []) (slice_index_or (slice_set found day (Some number)) other None)
  known_now number new due other within false other_day =
      let at : slice_index_or (slice_set found day (Some number)) other None ≡ slice_index_or found other None =
      get_or-set_other found day other (Some number) None (λ same. eqb-false day other other_day (sym same)) in
      let P : Option ℕ → Type 0 = λ f. FindsDay columns other numbers (rows ++ row ∷ []) f in
      subst P (sym at) (found_as_before columns numbers rows row other _ (has other ∙ other_day) (knows.known other within))
  known_now number new due other within true same_day =
      let same = eqb-true day other same_day in
      let at : slice_index_or (slice_set found day (Some number)) other None ≡ Some number =
      get_or-set_at found day other (Some number) None (sym same) (omega (arith, below, knows.size)) in
      let P : Option ℕ → Type 0 = λ f. FindsDay columns other numbers (rows ++ row ∷ []) f in
      let was : slice_index_or found other None ≡ None = subst (λ d. slice_index_or found d None ≡ None) same new in
      subst P (sym at) (found_here columns numbers rows row other number (known_as other within None was) (has other ∙ same_day) due)

  -- no earlier row has the day
  pub day_first : (number : ℕ) → slice_index_or found day None ≡ None
      → IfSome (slice_get numbers (length rows)) (λ due. number ≡ due)
      → IsEarlierRow columns numbers rows row None
      × KnowsDays columns numbers (rows ++ row ∷ []) (slice_set found day (Some number))
  day_first number new due = (
    rw is (known_as day below _ new),
    record {
      size = length-set found day (Some number) ∙ knows.size;
      known = λ other within. known_now number new due other within (day == other) refl;
    },
  )

-- ---- blank rows

-- all words of a blank cell are empty
no_words : (cell : List ℕ) → is_blank cell ≡ true
    → values_of_words number_of (words_of (item_text words cell)) ≡ Some []
no_words [] blank = refl
no_words (byte ∷ cell) blank =
    let gaps = and_parts (is_gap byte) (is_blank cell) blank in
    let gap = gaps.0 in
    rw gap (no_words cell gaps.1)

no_number : (fits : Bool) (texts : List (List ℕ)) → values_of_words number_of texts ≡ Some []
    → option_and_then (λ (values : List ℕ). single values)
    (option_and_then (values_of_words number_of) (if fits then Some texts else None)) ≡ None
no_number true texts none = ap (λ values. option_and_then (λ (vs : List ℕ). single vs) values) none
no_number false texts none = refl

no_day : (text : List ℕ) → is_blank text ≡ true → day_in text ≡ None
no_day text blank =
    ap (λ number. option_and_then (λ n. if is_day n then Some n else None) number)
    (no_number _ (words_of (item_text words text)) (no_words text blank))

-- a blank row has no day
pub days_with_blank : (columns : Columns) (numbers : List ℕ) (rows : List (List (List ℕ))) (row : List (List ℕ))
    (found : List (Option ℕ)) → is_blank_row columns row ≡ true → KnowsDays columns numbers rows found
    → KnowsDays columns numbers (rows ++ row ∷ []) found
unfolding is_blank_row
days_with_blank columns numbers rows row found blank knows =
    let all = and_parts _ _ blank in
    let first = and_parts (is_blank (cell_at columns.day row)) _ all.0 in
    days_without columns numbers rows row found (no_day (cell_at columns.day row) first.0) knows
