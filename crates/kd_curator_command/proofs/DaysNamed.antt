-- Days that are read one by one, and range by range.
use Rattle.std.proofs.Common.{◌≡◌, ◌≢◌, ℕ, ◌+◌, ◌-◌, ◌<◌, ◌≤◌, Bool, true, false, cond, List, [], ◌∷◌, ◌++◌, length}
use Rattle.std.proofs.Common.{arith}
use Rattle.std.proofs.Common.{Option, Some, None, MatchOption, decimal, refl, sym, ap, ◌∙◌, subst}
use Rattle.std.proofs.Common.{append-nil, find, length-append, zero, suc}
use Rattle.std.specs.List.{range_with_len, position_or_len, slice_split, before_first, after_first}
use Rattle.std.specs.Str.{bytes_eq}
use Rattle.std.proofs.lemmas.Fmt.{decimal_injective}
use Rattle.std.proofs.lemmas.Grind.{common_steps}
use Rattle.std.proofs.lemmas.List.Splits.{slice_split_first, slice_split-cons_no}
use Rattle.std.proofs.lemmas.List.FromFn.{length-range_with_len}
use Rattle.std.proofs.lemmas.Slice.Eq.{bytes_eq-Decides}
use Rattle.kd_state.specs.SheetDay.{IsDayNumber}
unfoldable use Rattle.kd_curator_command.specs.Days.{day_named, days_named, range_named}
use Rattle.kd_curator_command.specs.Days.{AddsDays, AreDays, both, days_from, has_twice, is_comma, ranges_named}
use Rattle.std.proofs.lemmas.Option.{same_Some}

-- ---- one day

module _ (p : ℕ → Bool) where
  finds_none : (a n : ℕ) → ((k : ℕ) → a ≤ k → k < a + n → p k ≡ false) → find p (range_with_len a n) ≡ None
  finds_none a zero fails = refl
  finds_none a (suc n) fails =
      ap (λ b. cond b (Some a) (find p (range_with_len (a + 1) n))) (fails a (omega arith) (omega arith))
      ∙ finds_none (a + 1) n (λ k low high. fails k (omega arith) (omega arith))

  finds_at : (first : Bool) (a n day : ℕ) → p a ≡ first → a ≤ day → day < a + suc n → p day ≡ true
      → ((k : ℕ) → k ≤ day → p k ≡ true → k ≡ day)
      → (a + 1 ≤ day → find p (range_with_len (a + 1) n) ≡ Some day)
      → find p (range_with_len a (suc n)) ≡ Some day
  finds_at true a n day e low high passes only rest =
      ap (λ b. cond b (Some a) (find p (range_with_len (a + 1) n))) e ∙ ap Some (only a low e)
  finds_at false a n day e low high passes only rest =
      ap (λ b. cond b (Some a) (find p (range_with_len (a + 1) n))) e
      ∙ rest (let other : a ≢ day = λ same. let wrong : false ≡ true = sym e ∙ ap p same ∙ passes in cc in omega arith)

  finds_one : (a n day : ℕ) → a ≤ day → day < a + n → p day ≡ true → ((k : ℕ) → k ≤ day → p k ≡ true → k ≡ day)
      → find p (range_with_len a n) ≡ Some day
  finds_one a zero day low high passes only = absurd (omega arith)
  finds_one a (suc n) day low high passes only = finds_at (p a) a n day refl low high passes only
      (λ next. finds_one (a + 1) n day next (omega arith) passes only)

is_false : (b : Bool) → b ≢ true → b ≡ false
is_false b other = grind arith

pub day_named-is : (text : List ℕ) (read : Option ℕ)
    → MatchOption read ((day : ℕ) → IsDayNumber day → decimal day ≢ text)
    (λ day. (decimal day ≡ text) × IsDayNumber day) → read ≡ day_named text
unfolding day_named
day_named-is text None other = sym (finds_none (λ day. bytes_eq (decimal day) text) 1 31
    (λ k low high. is_false _ (λ same. other k (record { first = omega arith; last = omega arith })
    ((bytes_eq-Decides (decimal k) text).0 same))))
day_named-is text (Some day) is = sym (finds_one (λ day. bytes_eq (decimal day) text) 1 31 day
    (omega (arith, is.1.first)) (omega (arith, is.1.last)) ((bytes_eq-Decides (decimal day) text).1 is.0)
    (λ k within same. decimal_injective k day (omega (arith, is.1.last)) (omega (arith, is.1.last))
    ((bytes_eq-Decides (decimal k) text).0 same ∙ sym is.0)))

-- ---- days one after another

pub adds_both : (one more : Option (List ℕ)) (old mid new : List ℕ) (done : Unit {0}) (answer : Option (Unit {0}))
    → AddsDays one old mid (Some done) → AddsDays more mid new answer → AddsDays (both one more) old new answer
adds_both one more old mid new done answer first second = grind (arith, common_steps)

pub adds_none : (one more : Option (List ℕ)) (old new : List ℕ) → AddsDays one old new None
    → AddsDays (both one more) old new None
adds_none one more old new none = grind (arith, common_steps)

-- ---- ranges, and ranges joined by commas

pub adds_last : (one : Option (List ℕ)) (old new : List ℕ) (answer : Option (Unit {0})) → AddsDays one old new answer
    → AddsDays (both one (Some [])) old new answer
adds_last one old new answer adds = grind (arith, common_steps, append-nil)

single_part : (p : ℕ → Bool) (first : Bool) (x : ℕ) (xs : List ℕ) → p x ≡ first
    → (position_or_len p xs ≡ length xs → slice_split p xs ≡ xs ∷ [])
    → position_or_len p (x ∷ xs) ≡ length (x ∷ xs) → slice_split p (x ∷ xs) ≡ (x ∷ xs) ∷ []
single_part p true x xs e rest whole = absurd (grind arith)
single_part p false x xs e rest whole = grind (arith, slice_split-cons_no)

pub slice_split-single : (p : ℕ → Bool) (xs : List ℕ) → position_or_len p xs ≡ length xs → slice_split p xs ≡ xs ∷ []
slice_split-single p [] whole = refl
slice_split-single p (x ∷ xs) whole = single_part p (p x) x xs refl (slice_split-single p xs) whole

pub days_named-single : (text : List ℕ) → position_or_len is_comma text ≡ length text
    → days_named text ≡ both (range_named text) (Some [])
unfolding days_named
days_named-single text whole = ap ranges_named (slice_split-single is_comma text whole)

pub days_named-first : (text : List ℕ) → position_or_len is_comma text < length text
    → days_named text ≡ both (range_named (before_first is_comma text)) (days_named (after_first is_comma text))
unfolding days_named
days_named-first text there = ap ranges_named (slice_split_first is_comma text 0 there)

-- the days from a day to a later one are that day, and then the days from the next day on
pub days_from-next : (first last : ℕ) → first < last → days_from first last ≡ first ∷ days_from (first + 1) last
days_from-next first last later =
    let more : last + 1 - first ≡ suc (last + 1 - (first + 1)) = omega arith in ap (range_with_len first) more

pub days_from-same : (first last : ℕ) → first ≡ last → days_from first last ≡ first ∷ []
days_from-same first last same = let one : last + 1 - first ≡ suc zero = omega arith in ap (range_with_len first) one

pub adds_next : (first last : ℕ) (old mid new : List ℕ) (done : Unit {0}) (answer : Option (Unit {0})) → first < last
    → AddsDays (Some (first ∷ [])) old mid (Some done) → AddsDays (Some (days_from (first + 1) last)) mid new answer
    → AddsDays (Some (days_from first last)) old new answer
adds_next first last old mid new done answer later one more =
    subst (λ days. AddsDays (Some days) old new answer) (sym (days_from-next first last later))
    (adds_both (Some (first ∷ [])) (Some (days_from (first + 1) last)) old mid new done answer one more)

-- too few days fit for the first, and so for all
adds_too_few : (first last : ℕ) (old : List ℕ) → first ≤ last → 31 < length (old ++ first ∷ [])
    → 31 < length (old ++ days_from first last)
adds_too_few first last old within full = omega (
  arith,
  length-append old (first ∷ []),
  length-append old (days_from first last),
  length-range_with_len first (last + 1 - first),
)

pub adds_no_more : (first last : ℕ) (old new : List ℕ) → first ≤ last → AddsDays (Some (first ∷ [])) old new None
    → AddsDays (Some (days_from first last)) old new None
adds_no_more first last old new within none = adds_too_few first last old within none

pub adds_same : (first last : ℕ) (old new : List ℕ) (done : Unit {0}) → first ≡ last
    → AddsDays (Some (first ∷ [])) old new (Some done) → AddsDays (Some (days_from first last)) old new (Some done)
adds_same first last old new done same adds =
    subst (λ days. AddsDays (Some days) old new (Some done)) (sym (days_from-same first last same)) adds

-- ---- the days of a word

pub reads_days : (word days : List ℕ) (done : Unit {0}) → AddsDays (days_named word) [] days (Some done)
    → has_twice days ≡ false → AreDays word days
reads_days word days done adds once =
    record { named = grind (arith, common_steps, adds); few = adds.1; once = once }

-- a word whose days come twice names no days
pub reads_twice : (word found days : List ℕ) (done : Unit {0}) → AddsDays (days_named word) [] found (Some done)
    → has_twice found ≡ true → AreDays word days → ⊥
reads_twice word found days done adds twice are =
    let named : days_named word ≡ Some found = grind (arith, common_steps, adds) in
    let same : found ≡ days = same_Some found days (sym named ∙ are.named) in
    let wrong : true ≡ false = sym twice ∙ ap has_twice same ∙ are.once in cc

pub reads_none : (word new days : List ℕ) → AddsDays (days_named word) [] new None → AreDays word days → ⊥
reads_none word new days none are = grind (arith, common_steps)
