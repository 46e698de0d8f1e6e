-- A table means one list of days, or is refused; not both.
use Rattle.std.proofs.Common.{◌≡◌, ◌∙◌, ◌<◌, ℕ, true, false, List, [], ◌∷◌, ◌++◌, Some, None, length, refl, sym, ap, ap₂, subst, inl, inr, arith, append_assoc}
use Rattle.std.proofs.lemmas.Option.{same_Some}
use Rattle.csv.specs.Machine.{Read, next_record}
use Rattle.csv.specs.Reading.{Reached}
use Rattle.csv.specs.declared.parser.Config.{Config}
use Rattle.csv.specs.declared.parser.State.{State}
use Rattle.kd_state.specs.SheetDay.{Day, day_number}
use Rattle.kd_spreadsheet.specs.Columns.{columns_of}
use Rattle.kd_spreadsheet.specs.Laws.{MeansOrIsRefused, MeansOneList}
use Rattle.kd_spreadsheet.specs.NearNames.{is_misnamed}
use Rattle.kd_options.specs.TableOptions.{OptionTexts}
use Rattle.kd_spreadsheet.specs.Row.{IsDayOfRow, IsNoDay, is_blank_row, row_values}
use Rattle.kd_spreadsheet.specs.Table.{AreDaysOfRows, NoRows, BlankRow, DayRow, AreRows, HasRefusedRow, IsRefusedRow, IsRefusedTable, Misnamed, NoDays, NoFirstRow, RefusedRow, TableMeans, WrongQuotes, is_taken}
use Rattle.kd_spreadsheet.specs.declared.columns.Columns.{Columns}

-- ---- lists that are equal up to their ends

no_last : {A : Type 0} (xs : List A) (x : A) → [] ≡ xs ++ x ∷ [] → ⊥
no_last [] x e = cc
no_last (y ∷ xs) x e = cc

same_but_last : {A : Type 0} (xs ys : List A) (x y : A) → xs ++ x ∷ [] ≡ ys ++ y ∷ [] → (xs ≡ ys) × (x ≡ y)
same_but_last [] [] x y e = (refl, cc)
same_but_last [] (b ∷ ys) x y e = let rest : [] ≡ ys ++ y ∷ [] = cc in absurd (no_last ys y rest)
same_but_last (a ∷ xs) [] x y e = let rest : [] ≡ xs ++ x ∷ [] = cc in absurd (no_last xs x rest)
same_but_last (a ∷ xs) (b ∷ ys) x y e =
    let rest : xs ++ x ∷ [] ≡ ys ++ y ∷ [] = cc in
    let first : a ≡ b = cc in
    let same = same_but_last xs ys x y rest in
    (ap₂ (λ z zs. z ∷ zs) first same.0, same.1)

-- a list is empty, or has a last element
data EndsIn {A : Type 0} : List A → Type 0 where
  Empty : EndsIn []
  Last : (before : List A) (x : A) → EndsIn (before ++ x ∷ [])

with_first : {A : Type 0} (y : A) (xs : List A) → EndsIn xs → EndsIn (y ∷ xs)
with_first y _ Empty = Last [] y
with_first y _ (Last before x) = Last (y ∷ before) x

ends_in : {A : Type 0} (xs : List A) → EndsIn xs
ends_in [] = Empty
ends_in (x ∷ xs) = with_first x xs (ends_in xs)

-- ---- a text has one list of records

module _ (cfg : Config) where
  one_reached : (s : State) (xs : List ℕ) (rows others : List (List (List ℕ))) (s2 s3 : State) (ys zs : List ℕ)
      → Reached cfg s xs rows s2 ys → next_record cfg s2 [] [] ys ≡ None
      → Reached cfg s xs others s3 zs → next_record cfg s3 [] [] zs ≡ None → rows ≡ others
  unfolding Reached
  one_reached s xs [] [] s2 s3 ys zs one ended other over = refl
  one_reached s xs [] (r ∷ rs) s2 s3 ys zs one ended (p, next, is, more) over =
      let none : next_record cfg s [] [] xs ≡ None = rw (one.0, one.1) ended in
      let wrong : None ≡ Some p = sym none ∙ next in cc
  one_reached s xs (r ∷ rs) [] s2 s3 ys zs (p, next, is, more) ended other over =
      let none : next_record cfg s [] [] xs ≡ None = rw (other.0, other.1) over in
      let wrong : None ≡ Some p = sym none ∙ next in cc
  one_reached s xs (r ∷ rs) (q ∷ qs) s2 s3 ys zs (p, next, is, more) ended (o, after, also, rest) over =
      let same : p ≡ o = same_Some p o (sym next ∙ after) in
      let first : r ≡ q = is ∙ ap (λ (read : Read). read.0) same ∙ sym also in
      let tails = one_reached p.1 p.2 rs qs s2 s3 ys zs more ended
      (subst (λ (read : Read). Reached cfg read.1 read.2 qs s3 zs) (sym same) rest) over in
      ap₂ (λ z zs. z ∷ zs) first tails

pub one_rows : (table : List ℕ) (rows others : List (List (List ℕ))) → AreRows table rows → AreRows table others
    → rows ≡ others
one_rows table rows others (s2, ys, reached, ended) (s3, zs, other, over) =
    one_reached _ _ _ rows others s2 s3 ys zs reached ended other over

pub no_rows : (table : List ℕ) (head : List (List ℕ)) (rows : List (List (List ℕ))) → AreRows table (head ∷ rows)
    → AreRows table [] → ⊥
no_rows table head rows are none = let e = one_rows table (head ∷ rows) [] are none in cc

-- ---- rows mean one list of days

module _ (options : OptionTexts) (columns : Columns) where
  same_day : (row other : List (List ℕ)) (one more : Day) → row ≡ other → IsDayOfRow options columns row one
      → IsDayOfRow options columns other more → one ≡ more
  same_day row other one more is first second =
      same_Some one more (sym first.values ∙ ap (row_values options columns) is ∙ second.values)

  same_days : (rows : List (List (List ℕ))) (days : List Day) → AreDaysOfRows options columns rows days
      → (others : List (List (List ℕ))) (more : List Day) → rows ≡ others
      → AreDaysOfRows options columns others more → days ≡ more
  same_days _ _ NoRows _ _ e NoRows = refl
  same_days _ _ NoRows _ _ e (BlankRow rows days row are blank) = absurd (no_last rows row e)
  same_days _ _ NoRows _ _ e (DayRow rows days row day are filled is free) = absurd (no_last rows row e)
  same_days _ _ (BlankRow rows days row are blank) _ _ e NoRows = absurd (no_last rows row (sym e))
  same_days _ _ (DayRow rows days row day are filled is free) _ _ e NoRows = absurd (no_last rows row (sym e))
  same_days _ _ (BlankRow rows days row are blank) _ _ e (BlankRow others more other also empty) =
      same_days rows days are others more (same_but_last rows others row other e).0 also
  same_days _ _ (BlankRow rows days row are blank) _ _ e (DayRow others more other day also filled is free) =
      let same = (same_but_last rows others row other e).1 in
      let wrong : true ≡ false = sym blank ∙ ap (is_blank_row columns) same ∙ filled in cc
  same_days _ _ (DayRow rows days row day are filled is free) _ _ e (BlankRow others more other also blank) =
      let same = (same_but_last rows others row other e).1 in
      let wrong : true ≡ false = sym blank ∙ ap (is_blank_row columns) (sym same) ∙ filled in cc
  same_days _ _ (DayRow rows days row day are filled is free) _ _ e (DayRow others more other next also full also_is alone) =
      let same = same_but_last rows others row other e in
      ap₂ (λ earlier last. earlier ++ last ∷ []) (same_days rows days are others more same.0 also)
      (same_day row other day next same.1 is also_is)

  -- a row that describes a day of its own isn't refused
  day_not_refused : (row : List (List ℕ)) (day : Day) (days : List Day) → IsDayOfRow options columns row day
      → is_taken days (day_number day) ≡ false → IsRefusedRow options columns days row → ⊥
  day_not_refused row day days is free refused = elim refused.why [
    | inl none ↦ subst IsNoDay is.values none is.legal
    | inr taken ↦
        let same = same_day row row day taken.0 refl is taken.1 in
        let wrong : true ≡ false = sym taken.2 ∙ ap (λ d. is_taken days (day_number d)) (sym same) ∙ free in cc
  ]

  not_refused : (rows : List (List (List ℕ))) (days : List Day) → AreDaysOfRows options columns rows days
      → (before : List (List (List ℕ))) (row : List (List ℕ)) (after : List (List (List ℕ))) (earlier : List Day)
      → EndsIn after → rows ≡ before ++ row ∷ after → AreDaysOfRows options columns before earlier
      → IsRefusedRow options columns earlier row → ⊥
  not_refused _ _ NoRows [] row after earlier ends e described refused = cc
  not_refused _ _ NoRows (first ∷ before) row after earlier ends e described refused = cc
  not_refused _ _ (BlankRow rows days last are blank) before row _ earlier Empty e described refused =
      let same = (same_but_last rows before last row e).1 in
      let wrong : true ≡ false = sym blank ∙ ap (is_blank_row columns) same ∙ refused.filled in cc
  not_refused _ _ (DayRow rows days last day are filled is free) before row _ earlier Empty e described refused =
      let same = same_but_last rows before last row e in
      let days_same : days ≡ earlier = same_days rows days are before earlier same.0 described in
      day_not_refused row day earlier (subst (λ r. IsDayOfRow options columns r day) same.1 is)
      (subst (λ ds. is_taken ds (day_number day) ≡ false) days_same free) refused
  not_refused _ _ (BlankRow rows days last are blank) before row _ earlier (Last init end) e described refused =
      let same = same_but_last rows (before ++ row ∷ init) last end (e ∙ sym (append_assoc before (row ∷ init) (end ∷ []))) in
      not_refused rows days are before row init earlier (ends_in init) same.0 described refused
  not_refused _ _ (DayRow rows days last day are filled is free) before row _ earlier (Last init end) e described refused =
      let same = same_but_last rows (before ++ row ∷ init) last end (e ∙ sym (append_assoc before (row ∷ init) (end ∷ []))) in
      not_refused rows days are before row init earlier (ends_in init) same.0 described refused

-- ---- tables

module _ (options : OptionTexts) (table : List ℕ) where
  refused_row : (days : List Day) (head first : List (List ℕ)) (rows others : List (List (List ℕ)))
      → head ∷ rows ≡ first ∷ others → AreDaysOfRows options (columns_of head) rows days
      → HasRefusedRow options (columns_of first) others → ⊥
  refused_row days head first rows others e are has =
      let heads : head ≡ first = cc in
      let bodies : rows ≡ others = cc in
      not_refused options (columns_of first) rows days
      (subst (λ h. AreDaysOfRows options (columns_of h) rows days) heads are) has.before has.row has.after has.days
      (ends_in has.after) (bodies ∙ has.split) has.described has.refused

  same_days_of : (days more : List Day) (head first : List (List ℕ)) (rows others : List (List (List ℕ)))
      → head ∷ rows ≡ first ∷ others → AreDaysOfRows options (columns_of head) rows days
      → AreDaysOfRows options (columns_of first) others more → days ≡ more
  same_days_of days more head first rows others e are also =
      let heads : head ≡ first = cc in
      let bodies : rows ≡ others = cc in
      same_days options (columns_of first) rows days
      (subst (λ h. AreDaysOfRows options (columns_of h) rows days) heads are) others more bodies also

  some_days : (days : List Day) → days ≡ [] → 0 < length days → ⊥
  some_days days e some = let none : length days ≡ 0 = ap length e in omega arith

  means_or_is_refused : (days : List Day) → TableMeans options table days → IsRefusedTable options table → ⊥
  means_or_is_refused days means (WrongQuotes wrong) = let e : true ≡ false = sym means.quoted ∙ wrong in cc
  means_or_is_refused days means (Misnamed head rows are misnamed) =
      let e = one_rows table _ _ means.are are in
      let same : means.head ≡ head = cc in
      let wrong : true ≡ false = sym misnamed ∙ ap (λ h. is_misnamed (columns_of h) h) (sym same) ∙ means.named in cc
  means_or_is_refused days means (RefusedRow head rows are has) =
      refused_row days means.head head means.rows rows (one_rows table _ _ means.are are) means.described has
  means_or_is_refused days means (NoDays head rows are none) =
      some_days days (same_days_of days [] means.head head means.rows rows (one_rows table _ _ means.are are)
      means.described none) means.some
  means_or_is_refused days means (NoFirstRow are) = let e = one_rows table _ _ means.are are in cc

  means_one_list : (days more : List Day) → TableMeans options table days → TableMeans options table more → days ≡ more
  means_one_list days more first second =
      same_days_of days more first.head second.head first.rows second.rows (one_rows table _ _ first.are second.are)
      first.described second.described

pub tables_mean_or_are_refused : MeansOrIsRefused
tables_mean_or_are_refused options table days means refused = means_or_is_refused options table days means refused

pub tables_mean_one_list : MeansOneList
tables_mean_one_list options table days more first second = means_one_list options table days more first second
