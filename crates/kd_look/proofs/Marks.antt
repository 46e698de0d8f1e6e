-- Bytes of a heading that fit a pattern.
use Rattle.std.proofs.Common.{◌≡◌, ◌∙◌, ℕ, ◌+◌, ◌-◌, ◌<◌, ◌≤◌, ◌==◌, ◌&&◌, Bool, true, false, List, [], ◌∷◌, ◌++◌, Ok}
use Rattle.std.proofs.Common.{Err, ap, arith, cond, drop, get_or, length, nat_le, refl, subst, sym, length-append}
use Rattle.kd_look.proofs.Numbers.{drop_next}
use Rattle.std.proofs.lemmas.Bool.{Decides.nat_tests, cases_Bool}
use Rattle.std.proofs.lemmas.List.{drop_at, drop-drop, length-drop}
use Rattle.std.proofs.lemmas.List.Elements.{All-cons, All-drop, All-nil}
use Rattle.std.specs.Option.{option_map_or}
use Rattle.kd_state.specs.Machine.{AreLetters}
use Rattle.kd_form.specs.Patterns.{blank_count, filled_pattern}
use Rattle.kd_look.specs.Signs.{fits_at, fits_mark, marks_end}
use Rattle.kd_look.specs.declared.message.signs.WrongByte.{WrongByte}
use Rattle.kd_look.proofs.LineEnds.{fits_next, slice_get-next}

-- -------- bytes that fit a pattern

pub fits_there : (text more : List ℕ) (mark index byte : ℕ) → drop index text ≡ byte ∷ more
    → fits_mark mark byte ≡ true → fits_at text mark index ≡ true
fits_there text more mark index byte next fit =
    subst (λ o. option_map_or (fits_mark mark) o false ≡ true) (sym (slice_get-next text more index byte next)) fit

-- what remains of a text after a part of it
pub drop_past : (text part rest : List ℕ) (index : ℕ) → drop index text ≡ part ++ rest
    → drop (index + length part) text ≡ rest
drop_past text part rest index joined =
    sym (drop-drop (length part) index text) ∙ ap (drop (length part)) joined ∙ drop_at part rest (length part) refl

-- what remains is inside the text
pub in_text : (text part rest : List ℕ) (index : ℕ) → index ≤ length text → drop index text ≡ part ++ rest
    → index + length part ≤ length text
in_text text part rest index inside joined =
    omega (arith, inside, ap length joined, length-drop index text, length-append part rest)

-- The first byte of a filled pattern fits the first mark.
record IsFilledFirst (mark : ℕ) (marks letters : List ℕ) : Type 0 where
  byte : ℕ
  others : List ℕ
  filled : filled_pattern (mark ∷ marks) letters ≡ byte ∷ filled_pattern marks others
  fits : fits_mark mark byte ≡ true
  are : AreLetters (blank_count marks) others

filled_first : (mark : ℕ) (marks letters : List ℕ) (blank : Bool) → (mark == 95) ≡ blank
    → AreLetters (blank_count (mark ∷ marks)) letters → IsFilledFirst mark marks letters
filled_first mark marks letters true is are =
    let count : length letters ≡ blank_count marks + 1 = rw is at are.count in
    let small : get_or letters 0 0 < 26 = are.within 0 0 (omega (arith, count)) in
    let low : nat_le 65 (get_or letters 0 0 + 65) ≡ true = grind (arith, nat_tests) in
    let high : nat_le (get_or letters 0 0 + 65) 90 ≡ true = grind (arith, nat_tests) in
    record {
      byte = get_or letters 0 0 + 65;
      others = drop 1 letters;
      filled = rw is refl;
      fits = rw (is, low, high) refl;
      are = record {
        count = omega (arith, count, length-drop 1 letters);
        within = All-drop (λ l. l < 26) 1 letters are.within;
      };
    }
filled_first mark marks letters false is are = record {
  byte = mark;
  others = letters;
  filled = rw is refl;
  fits = rw is (grind (arith, nat_tests));
  are = rw is at are;
}

pub marks_there : (text marks letters rest : List ℕ) (index : ℕ) → AreLetters (blank_count marks) letters
    → drop index text ≡ filled_pattern marks letters ++ rest → marks_end text marks index ≡ Ok (index + length marks)
marks_there text [] letters rest index are joined = let place : index ≡ index + 0 = omega arith in ap Ok place
marks_there text (mark ∷ marks) letters rest index are joined =
    let first = filled_first mark marks letters (mark == 95) refl are in
    let next : drop index text ≡ first.byte ∷ (filled_pattern marks first.others ++ rest) =
    joined ∙ ap (λ l. l ++ rest) first.filled in
    let fit : fits_at text mark index ≡ true = fits_there text _ mark index first.byte next first.fits in
    let place : index + 1 + length marks ≡ index + length (mark ∷ marks) = omega arith in
    rw fit (marks_there text marks first.others rest (index + 1) first.are
    (drop_next text (filled_pattern marks first.others ++ rest) index first.byte next) ∙ ap Ok place)

-- Bytes that fit a pattern are in the text from `index` to `end`.
pub record AreMarksAt (text marks : List ℕ) (index end : ℕ) : Type 0 where
  pub letters : List ℕ
  pub are : AreLetters (blank_count marks) letters
  pub joined : drop index text ≡ filled_pattern marks letters ++ drop end text
  pub size : end ≡ index + length marks

module _ (text : List ℕ) (mark : ℕ) (marks : List ℕ) (index byte end : ℕ)
    (next : drop index text ≡ byte ∷ drop (index + 1) text) (fit : fits_mark mark byte ≡ true)
    (rest : AreMarksAt text marks (index + 1) end) where
  one_mark : (blank : Bool) → (mark == 95) ≡ blank → AreMarksAt text (mark ∷ marks) index end
  one_mark true is =
      let inside : (nat_le 65 byte && nat_le byte 90) ≡ true = rw is at fit in
      let low : 65 ≤ byte = grind (arith, nat_tests, cases_Bool (nat_le 65 byte)) in
      let high : byte ≤ 90 = grind (arith, nat_tests, cases_Bool (nat_le 65 byte)) in
      let same : byte - 65 + 65 ≡ byte = omega (arith, low) in
      record {
        letters = (byte - 65) ∷ rest.letters;
        are = rw is (record {
          count = omega (arith, rest.are.count);
          within = All-cons (λ l. l < 26) (byte - 65) rest.letters (omega (arith, low, high)) rest.are.within;
        });
        joined = rw (is, same) (next ∙ ap (λ l. byte ∷ l) rest.joined);
        size = omega (arith, rest.size);
      }
  one_mark false is =
      let here : (byte == mark) ≡ true = rw is at fit in
      let same : byte ≡ mark = grind (arith, nat_tests) in
      record {
        letters = rest.letters;
        are = rw is rest.are;
        joined = rw is (next ∙ ap (λ l. byte ∷ l) rest.joined
            ∙ ap (λ b. b ∷ (filled_pattern marks rest.letters ++ drop end text)) same);
        size = omega (arith, rest.size);
      }

marks_step : (text : List ℕ) (mark : ℕ) (marks : List ℕ) (index end : ℕ) (wrong : WrongByte) (fits : Bool)
    → fits_at text mark index ≡ fits
    → (marks_end text marks (index + 1) ≡ Ok end → AreMarksAt text marks (index + 1) end)
    → cond fits (marks_end text marks (index + 1)) (Err wrong) ≡ Ok end → AreMarksAt text (mark ∷ marks) index end
marks_step text mark marks index end wrong true fits on is =
    let (byte, next, fit) = fits_next text mark index fits in
    one_mark text mark marks index byte end next fit (on is) (mark == 95) refl
marks_step text mark marks index end wrong false fits on is = absurd (cc)

pub marks_read : (text marks : List ℕ) (index end : ℕ) → marks_end text marks index ≡ Ok end
    → AreMarksAt text marks index end
marks_read text [] index end is =
    let same : index ≡ end = cc in
    record {
      letters = [];
      are = record { count = refl; within = All-nil (λ l. l < 26) };
      joined = ap (λ n. drop n text) same;
      size = omega (arith, same);
    }
marks_read text (mark ∷ marks) index end is = marks_step text mark marks index end _ (fits_at text mark index) refl
    (marks_read text marks (index + 1) end) is
