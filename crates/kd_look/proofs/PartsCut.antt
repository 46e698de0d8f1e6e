-- How a form is cut into parts: `look` and `receive` cut it at the same places.
use Rattle.std.proofs.Common.{◌≡◌, ◌≢◌, ◌∙◌, ℕ, zero, suc, ◌+◌, ◌-◌, ◌<◌, ◌≤◌, ◌⊎◌, ◌&&◌, Bool, true, false, not}
use Rattle.std.proofs.Common.{List, [], ◌∷◌, ◌++◌, Option, Some, None, Result, Ok, Err, ap, arith, cond, codes, drop}
use Rattle.std.proofs.Common.{get_or, inl, inr, length, nat_le, refl, slice_get, subst, sym, append_assoc}
use Rattle.std.proofs.Common.{length-append, is_ok}
use Rattle.std.proofs.lemmas.Bool.{Decides.nat_tests, cases_Bool, cases_lt, false≢true}
use Rattle.std.proofs.Math.ListN.{get_or-append}
use Rattle.std.proofs.lemmas.List.{append-nil, append_cancel_right, drop_all, drop_more, get_or-drop, length-drop}
use Rattle.std.proofs.lemmas.List.{nil_from_length, take-append-drop, Folds.drop_split}
use Rattle.std.proofs.lemmas.List.Elements.{All-nil}
use Rattle.std.proofs.lemmas.Option.{get_or_from_slice_get, slice_get-get_or, slice_get_within}
use Rattle.std.specs.List.{find, range_with_len, slice_range}
use Rattle.std.specs.Option.{option_map_or}
use Rattle.kd_tables.specs.LineWords.{IsWithout, line_of}
use Rattle.kd_state.specs.Machine.{AreLetters}
use Rattle.kd_state.specs.SheetDay.{Day}
use Rattle.kd_form.specs.declared.heading.{Heading.Heading}
use Rattle.kd_form.specs.FormParts.{BeginsHeading, HasFirstLine, cut_at_headings, parts_of}
use Rattle.kd_form.specs.Part.{heading_words}
use Rattle.kd_form.specs.PartReading.{HasHeading}
use Rattle.kd_form.proofs.Headings.{BeginsHeading-bytes, BeginsHeading-digit, at_cut, has_byte, heading_size, no_cut}
use Rattle.kd_look.specs.Form.{body_end, heading_follows}
use Rattle.kd_look.specs.Signs.{fits_at, marks_end}
use Rattle.kd_look.specs.declared.message.signs.WrongByte.{WrongByte}
use Rattle.kd_look.proofs.Marks.{fits_there, marks_read, marks_there}
use Rattle.kd_look.proofs.LineEnds.{fits_next}

-- -------- where a heading line follows

pub both_true : (a b : Bool) → (a && b) ≡ true → (a ≡ true) × (b ≡ true)
both_true true b is = (refl, is)
both_true false b is = absurd (false≢true is)

has_ok : (read : Result ℕ WrongByte) → is_ok read ≡ true → (end : ℕ) × (read ≡ Ok end)
has_ok (Ok end) is = (end, refl)
has_ok (Err wrong) is = absurd (false≢true is)

abbrev is_digit : ℕ → Bool
is_digit byte = nat_le 48 byte && nat_le byte 57

has_digit : (there : Option ℕ) → option_map_or is_digit there false ≡ true
    → (digit : ℕ) × (there ≡ Some digit) × (48 ≤ digit) × (digit ≤ 57)
has_digit (Some byte) is =
    let tests = both_true (nat_le 48 byte) (nat_le byte 57) is in
    let low : nat_le 48 byte ≡ true = tests.0 in
    let high : nat_le byte 57 ≡ true = tests.1 in
    (byte, refl, grind (arith, nat_tests), grind (arith, nat_tests))
has_digit None is = absurd (false≢true is)

next_byte : (text : List ℕ) (index byte : ℕ) → slice_get text index ≡ Some byte
    → drop index text ≡ byte ∷ drop (index + 1) text
next_byte text index byte there =
    drop_more text index byte (slice_get_within text index byte there)
    ∙ ap (λ b. b ∷ drop (index + 1) text) (get_or_from_slice_get text index byte byte there)

follows_there : (text : List ℕ) (index : ℕ) → heading_follows text index ≡ true
    → (drop index text ≡ 10 ∷ drop (index + 1) text) × BeginsHeading (drop (index + 1) text)
unfolding heading_follows
follows_there text index is =
    let tests = both_true (fits_at text 10 index && is_ok (marks_end text (codes "PART ") (index + 1))) _ is in
    let others = both_true (fits_at text 10 index) _ tests.0 in
    let (byte, next, fit) = fits_next text 10 index others.0 in
    let feed : byte ≡ 10 = grind (arith, nat_tests) in
    let (end, read) = has_ok (marks_end text (codes "PART ") (index + 1)) others.1 in
    let marks = marks_read text (codes "PART ") (index + 1) end read in
    let (digit, there, low, high) = has_digit (slice_get text (index + 6)) tests.1 in
    let place : end ≡ index + 6 = omega (arith, marks.size) in
    let rest : drop (index + 1) text ≡ codes "PART " ++ digit ∷ drop (index + 6 + 1) text =
    marks.joined
    ∙ ap (λ l. codes "PART " ++ l) (ap (λ n. drop n text) place ∙ next_byte text (index + 6) digit there) in (
      next ∙ ap (λ b. b ∷ drop (index + 1) text) feed,
      subst BeginsHeading (sym rest) (BeginsHeading-digit digit (drop (index + 6 + 1) text) low high),
    )

there_follows : (text : List ℕ) (index : ℕ) → drop index text ≡ 10 ∷ drop (index + 1) text
    → BeginsHeading (drop (index + 1) text) → heading_follows text index ≡ true
unfolding heading_follows
there_follows text index next begins =
    let rest : List ℕ = drop (index + 1) text in
    let bytes = BeginsHeading-bytes rest begins in
    let long = heading_size rest begins in
    let feed : fits_at text 10 index ≡ true = fits_there text rest 10 index 10 next refl in
    let joined : drop (index + 1) text ≡ codes "PART " ++ drop 5 rest =
    sym (take-append-drop 5 rest) ∙ ap (λ l. l ++ drop 5 rest) bytes.0 in
    let none : AreLetters 0 [] = record { count = refl; within = All-nil (λ l. l < 26) } in
    let read = marks_there text (codes "PART ") [] (drop 5 rest) (index + 1) none joined in
    let inside : index + 6 < length text = omega (arith, long, length-drop (index + 1) text) in
    let place : index + 1 + 5 ≡ index + 6 = omega arith in
    let same : get_or rest 5 0 ≡ get_or text (index + 6) 0 =
    get_or-drop (index + 1) text 5 0 ∙ ap (λ n. get_or text n 0) place in
    let there = slice_get-get_or text (index + 6) 0 inside in
    let low : nat_le 48 (get_or text (index + 6) 0) ≡ true = grind (arith, nat_tests, bytes.1) in
    let high : nat_le (get_or text (index + 6) 0) 57 ≡ true = grind (arith, nat_tests, bytes.2) in
    rw (feed, read, there, low, high) refl

-- -------- the first place where a part ends

-- From `index` on, the text's first part ends with the LF at `found`. Without `found`, this part has
-- all bytes from `index` on.
abbrev IsCutAt : List ℕ → ℕ → Option ℕ → Type 0
IsCutAt text index None = cut_at_headings (drop index text) ≡ (drop index text, [])
IsCutAt text index (Some found) =
    (front : List ℕ) × (drop index text ≡ (front ++ 10 ∷ []) ++ drop (found + 1) text)
    × (found ≡ index + length front)
    × (cut_at_headings (drop index text) ≡ (front ++ 10 ∷ [], parts_of (drop (found + 1) text)))
    × (drop (found + 1) text ≢ [])

module _ (text : List ℕ) (index byte : ℕ) (next : drop index text ≡ byte ∷ drop (index + 1) text) where
  cut_later : ((byte ≡ 10) → ¬ (BeginsHeading (drop (index + 1) text))) → (found : Option ℕ)
      → IsCutAt text (index + 1) found → IsCutAt text index found
  cut_later not None is = rw (next, no_cut byte (drop (index + 1) text) not, is) refl
  cut_later not (Some found) (front, joined, size, is, some) = (
    byte ∷ front,
    next ∙ ap (λ l. byte ∷ l) joined,
    omega (arith, size),
    rw (next, no_cut byte (drop (index + 1) text) not, is) refl,
    some,
  )

  cut_step : (follows : Bool) → heading_follows text index ≡ follows → (later : Option ℕ)
      → IsCutAt text (index + 1) later → IsCutAt text index (cond follows (Some index) later)
  cut_step true follows later is =
      let (feed, begins) = follows_there text index follows in
      let some : drop (index + 1) text ≢ [] = λ none. omega
      (arith, ap length none, heading_size (drop (index + 1) text) begins) in
      ([], feed, omega arith, ap cut_at_headings feed ∙ at_cut (drop (index + 1) text) begins, some)
  cut_step false follows later is = cut_later (λ feed begins.
      false≢true (sym follows ∙ there_follows text index (next ∙ ap (λ b. b ∷ drop (index + 1) text) feed) begins))
      later is

cut_found : (text : List ℕ) (count index : ℕ) → index + count ≡ length text
    → IsCutAt text index (find (heading_follows text) (range_with_len index count))
cut_found text zero index size =
    let none : drop index text ≡ [] = drop_all index text (omega (arith, size)) in rw none refl
cut_found text (suc count) index size =
    cut_step text index (get_or text index 0) (drop_more text index 0 (omega (arith, size)))
    (heading_follows text index) refl _ (cut_found text count (index + 1) (omega (arith, size)))

-- What comes after the part `part`, which ends at `end`: the end of the text, or other parts.
pub data IsAfterPart (text part : List ℕ) (end : ℕ) (others : List (List ℕ)) : Type 0 where
  Last : end ≡ length text → others ≡ [] → IsAfterPart text part end others
  More : (front : List ℕ) → part ≡ front ++ 10 ∷ [] → others ≡ parts_of (drop end text) → end < length text
      → IsAfterPart text part end others

-- The first part of the text from `index` on ends at `end`.
pub record IsPartCut (text : List ℕ) (index end : ℕ) : Type 0 where
  pub part : List ℕ
  pub others : List (List ℕ)
  pub joined : drop index text ≡ part ++ drop end text
  pub size : end ≡ index + length part
  pub cut : cut_at_headings (drop index text) ≡ (part, others)
  pub after : IsAfterPart text part end others

-- the end of the first part from `index` on
abbrev pub first_end : List ℕ → ℕ → ℕ
first_end text index = option_map_or (λ i. i + 1)
    (find (heading_follows text) (range_with_len index (length text - index))) (length text)

from_found : (text : List ℕ) (index : ℕ) (found : Option ℕ) → index ≤ length text → IsCutAt text index found
    → IsPartCut text index (option_map_or (λ i. i + 1) found (length text))
from_found text index None inside is = record {
  part = drop index text;
  others = [];
  joined = sym (append-nil (drop index text))
      ∙ ap (λ l. drop index text ++ l) (sym (drop_all (length text) text (omega arith)));
  size = omega (arith, inside, length-drop index text);
  cut = is;
  after = Last refl refl;
}
from_found text index (Some found) inside (front, joined, size, is, some) = record {
  part = front ++ 10 ∷ [];
  others = parts_of (drop (found + 1) text);
  joined = joined;
  size = omega (arith, size, length-append front (10 ∷ []));
  cut = is;
  after = More front refl refl (elim (cases_lt (found + 1) (length text)) [
    | inl less ↦ less
    | inr past ↦ absurd (some (drop_all (found + 1) text past))
  ]);
}

pub cut_of : (text : List ℕ) (index : ℕ) → index ≤ length text → IsPartCut text index (first_end text index)
cut_of text index inside =
    from_found text index _ inside (cut_found text (length text - index) index (omega (arith, inside)))

-- -------- the search from the heading's end

find_skip : (test : ℕ → Bool) (skipped first count : ℕ) → ((i : ℕ) → i < skipped → test (first + i) ≡ false)
    → find test (range_with_len first (skipped + count)) ≡ find test (range_with_len (first + skipped) count)
find_skip test zero first count none =
    let place : first + 0 ≡ first = omega arith in
    let number : 0 + count ≡ count = omega arith in
    rw (place, number) refl
find_skip test (suc skipped) first count none =
    let number : suc skipped + count ≡ suc (skipped + count) = omega arith in
    let place : first + 0 ≡ first = omega arith in
    let here : test first ≡ false = rw place at (none 0 (omega arith)) in
    let next : first + 1 + skipped ≡ first + suc skipped = omega arith in
    let rest = find_skip test skipped (first + 1) count (λ i less.
    let at : first + (i + 1) ≡ first + 1 + i = omega arith in rw at at (none (i + 1) (omega (arith, less)))) in
    rw (number, here, rest, next) refl

least_step : (passes : Bool) (first i : ℕ) (others : Option ℕ) → (others ≡ Some i → first + 1 ≤ i)
    → cond passes (Some first) others ≡ Some i → first ≤ i
least_step true first i others later is = let same : first ≡ i = cc in omega (arith, same)
least_step false first i others later is = let more = later is in omega (arith, more)

find_least : (test : ℕ → Bool) (count first i : ℕ) → find test (range_with_len first count) ≡ Some i → first ≤ i
find_least test zero first i is = absurd (cc)
find_least test (suc count) first i is =
    least_step (test first) first i (find test (range_with_len (first + 1) count))
    (find_least test count (first + 1) i) is

least_end : (text : List ℕ) (body : ℕ) (found : Option ℕ) → body ≤ length text
    → ((i : ℕ) → found ≡ Some i → body ≤ i + 1) → body ≤ option_map_or (λ i. i + 1) found (length text)
least_end text body None inside least = inside
least_end text body (Some i) inside least = least i refl

-- Before `body`, no heading line follows an LF from `index` on, but for the LF just before `body`.
pub record IsBodyStart (text : List ℕ) (index body : ℕ) : Type 0 where
  pub more : index < body
  pub inside : body ≤ length text
  pub unbroken : (i : ℕ) → index + i + 1 < body → heading_follows text (index + i) ≡ false

pub body_end_is : (text : List ℕ) (index body : ℕ) → IsBodyStart text index body
    → (body_end text body ≡ first_end text index) × (body ≤ body_end text body)
body_end_is text index body start =
    let skipped : ℕ = body - 1 - index in
    let count : skipped + (length text - (body - 1)) ≡ length text - index = omega (arith, start.more, start.inside) in
    let place : index + skipped ≡ body - 1 = omega (arith, start.more) in
    let skip = find_skip (heading_follows text) skipped index (length text - (body - 1)) (λ i less.
    start.unbroken i (omega (arith, less, start.more))) in
    let same : find (heading_follows text) (range_with_len index (length text - index))
    ≡ find (heading_follows text) (range_with_len (body - 1) (length text - (body - 1))) =
    ap (λ n. find (heading_follows text) (range_with_len index n)) (sym count) ∙ skip
    ∙ ap (λ n. find (heading_follows text) (range_with_len n (length text - (body - 1)))) place in (
      ap (λ o. option_map_or (λ i. i + 1) o (length text)) (sym same),
      least_end text body _ start.inside (λ i is.
          let least = find_least (heading_follows text) (length text - (body - 1)) (body - 1) i is in
          omega (arith, least, start.more)),
    )

-- -------- headings in parts

no_feed : (text front more : List ℕ) (index : ℕ) → drop index text ≡ front ++ more → IsWithout 10 front → (i : ℕ)
    → i < length front → heading_follows text (index + i) ≡ false
no_feed text front more index joined without i less = elim (cases_Bool (heading_follows text (index + i))) [
  | inr off ↦ off
  | inl follows ↦
      let (next, begins) = follows_there text (index + i) follows in
      let here : get_or text (index + i) 0 ≡ get_or front i 0 =
      sym (get_or-drop index text i 0) ∙ ap (λ l. get_or l i 0) joined ∙ get_or-append front more 0 i less in
      let place : index + i + 0 ≡ index + i = omega arith in
      let feed : get_or text (index + i) 0 ≡ 10 =
      ap (λ n. get_or text n 0) (sym place) ∙ sym (get_or-drop (index + i) text 0 0) ∙ ap (λ l. get_or l 0 0) next in
      absurd (without i 0 less (sym here ∙ feed))
]

pub body_start : (s : Day) (text : List ℕ) (index body : ℕ) (h : Heading) → index ≤ length text → body ≤ length text
    → HasFirstLine (drop index text) (line_of (heading_words h)) (drop body text) → IsBodyStart text index body
body_start s text index body h within inside (inl (shown, first, is)) =
    let size : body ≡ index + length shown + 1 =
    omega (
      arith,
      within,
      inside,
      ap length first.joined,
      length-drop index text,
      length-append shown (10 ∷ drop body text),
      length-drop body text,
    ) in
    record {
      more = omega (arith, size);
      inside = inside;
      unbroken = λ i less. no_feed text shown (10 ∷ drop body text) index first.joined first.without i
          (omega (arith, size, less));
    }
body_start s text index body h within inside (inr (without, is, none)) =
    let size : body ≡ length text = omega (arith, inside, ap length none, length-drop body text) in
    record {
      more = omega (arith, size, ap length is, length-drop index text);
      inside = inside;
      unbroken = λ i less. no_feed text (drop index text) [] index (sym (append-nil (drop index text))) without i
          (omega (arith, size, less, length-drop index text));
    }

longer_first : (part line body more : List ℕ) → HasFirstLine part line body
    → ((more ≡ []) ⊎ ((front : List ℕ) × (part ≡ front ++ 10 ∷ []))) → HasFirstLine (part ++ more) line (body ++ more)
longer_first part line body more (inl (shown, first, is)) after = inl (
  shown,
  record {
    joined = ap (λ l. l ++ more) first.joined ∙ append_assoc shown (10 ∷ body) more;
    without = first.without;
  },
  is,
)
longer_first part line body more (inr (without, is, none)) (inl nil) =
    let whole : part ++ more ≡ part = ap (λ l. part ++ l) nil ∙ append-nil part in
    inr (subst (IsWithout 10) (sym whole) without, whole ∙ is, ap (λ l. body ++ l) nil ∙ append-nil body ∙ none)
longer_first part line body more (inr (without, is, none)) (inr (front, ended)) =
    absurd (has_byte 10 front [] (subst (IsWithout 10) ended without))

what_follows : (text part : List ℕ) (end : ℕ) (others : List (List ℕ)) → IsAfterPart text part end others
    → (drop end text ≡ []) ⊎ ((front : List ℕ) × (part ≡ front ++ 10 ∷ []))
what_follows text part end others (Last at none) = inl (drop_all end text (omega (arith, at)))
what_follows text part end others (More front ended more less) = inr (front, ended)

shorter_first : (text bytes line part : List ℕ) (body end : ℕ) → bytes ≡ part ++ drop end text
    → drop body text ≡ slice_range text body end ++ drop end text
    → ((drop end text ≡ []) ⊎ ((front : List ℕ) × (part ≡ front ++ 10 ∷ [])))
    → HasFirstLine bytes line (drop body text) → HasFirstLine part line (slice_range text body end)
shorter_first text bytes line part body end joined split after (inl (shown, first, is)) =
    let both : part ++ drop end text ≡ (shown ++ 10 ∷ slice_range text body end) ++ drop end text =
    sym joined ∙ first.joined ∙ ap (λ l. shown ++ 10 ∷ l) split
    ∙ sym (append_assoc shown (10 ∷ slice_range text body end) (drop end text)) in
    inl (
      shown,
      record {
        joined = append_cancel_right part (shown ++ 10 ∷ slice_range text body end) (drop end text) both;
        without = first.without;
      },
      is,
    )
shorter_first text bytes line part body end joined split (inl nil) (inr (without, is, none)) =
    let whole : bytes ≡ part = joined ∙ ap (λ l. part ++ l) nil ∙ append-nil part in
    let empty : slice_range text body end ≡ [] = nil_from_length (slice_range text body end)
    (omega (arith, ap length (sym none ∙ split), length-append (slice_range text body end) (drop end text))) in
    inr (subst (IsWithout 10) whole without, sym whole ∙ is, empty)
shorter_first text bytes line part body end joined split (inr (front, ended)) (inr (without, is, none)) =
    let whole : bytes ≡ front ++ 10 ∷ drop end text =
    joined ∙ ap (λ l. l ++ drop end text) ended ∙ append_assoc front (10 ∷ []) (drop end text) in
    absurd (has_byte 10 front (drop end text) (subst (IsWithout 10) whole without))

module _ (s : Day) (text : List ℕ) (index : ℕ) (h : Heading) where
  -- a heading of the first part is a heading of the whole text
  pub to_text : (end : ℕ) (cut : IsPartCut text index end) (body : List ℕ) → HasHeading s cut.part h body
      → HasHeading s (drop index text) h (body ++ drop end text)
  to_text end cut body has = record {
    is_heading = has.is_heading;
    first = subst (λ l. HasFirstLine l (line_of (heading_words h)) (body ++ drop end text)) (sym cut.joined)
        (longer_first cut.part (line_of (heading_words h)) body (drop end text) has.first
        (what_follows text cut.part end cut.others cut.after));
  }

  -- the heading of the whole text is the first part's heading
  pub to_part : (end body : ℕ) (cut : IsPartCut text index end) → body ≤ end
      → HasHeading s (drop index text) h (drop body text) → HasHeading s cut.part h (slice_range text body end)
  to_part end body cut before has = record {
    is_heading = has.is_heading;
    first = shorter_first text (drop index text) (line_of (heading_words h)) cut.part body end cut.joined
        (drop_split text body end before) (what_follows text cut.part end cut.others cut.after) has.first;
  }
