-- A heading that `look` reads is a heading for `receive`.
use Rattle.std.proofs.Common.{◌≡◌, ◌≢◌, ◌∙◌, ℕ, ◌<◌, ◌≤◌, ◌==◌, ◌&&◌, Bool, true, false, List, [], ◌∷◌, ◌++◌, Option}
use Rattle.std.proofs.Common.{Some, None, Result, Ok, Err, ap, arith, cond, codes, decimal, drop, get_or, inl, inr}
use Rattle.std.proofs.Common.{length, nat_le, refl, subst, sym, append_assoc, length-append}
use Rattle.kd_look.proofs.Numbers.{number_read, IsNumberAt}
use Rattle.std.proofs.lemmas.Bool.{Decides.nat_tests, cases_Bool}
use Rattle.std.proofs.Math.Seq.{get_or-append_seam}
use Rattle.std.proofs.lemmas.List.{append-nil, drop_all, length-drop}
use Rattle.std.proofs.lemmas.List.Elements.{All-append, All-cons, All-nil}
use Rattle.kd_tables.specs.LineWords.{IsWithout, line_of}
use Rattle.kd_state.specs.Machine.{AreLetters}
use Rattle.kd_state.specs.SheetDay.{Day}
use Rattle.kd_form.specs.declared.heading.{Heading.Heading, Indicator.Indicator}
use Rattle.kd_form.specs.FormParts.{HasFirstLine, IsHeading, WithReturn, WithoutReturn}
use Rattle.kd_form.specs.Part.{fraction_text, heading_words, indicator_words}
use Rattle.kd_form.specs.PartReading.{HasHeading}
use Rattle.kd_form.specs.Patterns.{IsPatternLine, blank_count, filled_pattern}
use Rattle.kd_form.proofs.Headings.{plain_heading}
use Rattle.kd_form.proofs.Lines.{IsPlain, IsWithout-plain}
use Rattle.kd_sheet.specs.Document.{◌>>=◌, ◌>>◌, demand}
use Rattle.kd_look.specs.FormHeading.{heading_at, heading_end, heading_keys, is_letter_count, keys_or, keys_pattern}
use Rattle.kd_look.specs.FormHeading.{number_at}
use Rattle.kd_look.specs.Laws.{HasKeyLineForm, count_end}
use Rattle.kd_look.specs.Signs.{end_of_line, marks_end}
use Rattle.kd_look.specs.declared.message.form_heading.FormHeading.{FormHeading}
use Rattle.kd_look.specs.declared.message.form_heading.Number.{Number}
use Rattle.kd_look.specs.declared.message.order_head.KeyLine.{KeyLine}
use Rattle.kd_look.specs.declared.message.signs.WrongByte.{WrongByte}
use Rattle.kd_look.proofs.LineEnds.{IsLineAnswer, line_answer}
use Rattle.kd_look.proofs.Marks.{AreMarksAt, marks_read}
use Rattle.kd_look.proofs.Indicators.{counts_agree, indicator_read, indicator_text}

-- -------- the bytes of a heading

-- the bytes of a heading's line, and then `rest`
abbrev pub heading_bytes : ℕ → ℕ → ℕ → List ℕ → List ℕ
heading_bytes part parts count rest =
    codes "PART " ++ (decimal part ++ 47 ∷ (decimal parts ++ 32 ∷ (decimal count ++ rest)))

pub words_bytes : (part parts count : ℕ) (i : Option Indicator) (rest : List ℕ)
    → line_of (codes "PART" ∷ fraction_text part parts ∷ decimal count ∷ indicator_words i) ++ rest
    ≡ heading_bytes part parts count (indicator_text i ++ rest)
words_bytes part parts count None rest = simp append_assoc
words_bytes part parts count (Some i) rest = simp append_assoc

-- if two steps succeed, the first step has a value with which the second succeeds
pub with_ok : {A B F P : Type 0} (first : Result A F) (next : A → Result B F) {y : B} → (first >>= next) ≡ Ok y
    → ((x : A) → first ≡ Ok x → next x ≡ Ok y → P) → P
with_ok (Ok x) next is on = on x refl is
with_ok (Err fault) next is on = absurd (cc)

pub with_demand : {B F P : Type 0} (test : Bool) (fault : F) (next : Result B F) {y : B}
    → (demand test fault >> next) ≡ Ok y → (test ≡ true → next ≡ Ok y → P) → P
with_demand true fault next is on = on refl is
with_demand false fault next is on = absurd (cc)

-- What `look` reads of the heading at `index`: its bytes up to `last`, where the line has to end,
-- and its numbers.
pub record IsHeadingRead (text : List ℕ) (first : Option KeyLine) (index : ℕ) (heading : FormHeading) : Type 0 where
  pub last : ℕ
  pub letters : List ℕ
  pub are : AreLetters (blank_count (keys_pattern heading.keys)) letters
  pub joined : drop index text ≡ heading_bytes heading.part heading.parts heading.letters
      (filled_pattern (keys_pattern heading.keys) letters ++ drop last text)
  pub ended : heading_end text last ≡ Ok heading.body
  pub count : ℕ
  pub counted_to : count_end text index ≡ Ok count
  pub keyed : heading.keys ≡ keys_or (heading_keys text count) first
  pub numbered : 1 ≤ heading.part
  pub in_order : heading.part ≤ heading.parts
  pub few : heading.parts ≤ 99
  pub counted : is_letter_count heading.keys heading.letters ≡ true

module _ {text : List ℕ} {index start slash space last : ℕ} {part parts count : Number} {pattern : List ℕ}
    (one : AreMarksAt text (codes "PART ") index start) (two : IsNumberAt text start part)
    (three : AreMarksAt text (codes "/") part.end slash) (four : IsNumberAt text slash parts)
    (six : AreMarksAt text (codes " ") parts.end space) (seven : IsNumberAt text space count)
    (eight : AreMarksAt text pattern count.end last) where
  joined_bytes : drop index text ≡ heading_bytes part.value parts.value count.value
      (filled_pattern pattern eight.letters ++ drop last text)
  joined_bytes =
      let end = ap (λ l. decimal count.value ++ l) eight.joined in
      let after = six.joined ∙ ap (λ l. 32 ∷ l) (seven.joined ∙ end) in
      let middle = three.joined ∙ ap (λ l. 47 ∷ l) (four.joined ∙ ap (λ l. decimal parts.value ++ l) after) in
      one.joined ∙ ap (λ l. codes "PART " ++ l) (two.joined ∙ ap (λ l. decimal part.value ++ l) middle)

pub then_is : {A B F : Type 0} (first : Result A F) (next : A → Result B F) (x : A) {y : Result B F} → first ≡ Ok x
    → next x ≡ y → (first >>= next) ≡ y
then_is first next x is on = ap (λ r. r >>= next) is ∙ on

pub demanded : {B F : Type 0} (test : Bool) (fault : F) (next : Result B F) {y : Result B F} → test ≡ true → next ≡ y
    → (demand test fault >> next) ≡ y
demanded test fault next is on = ap (λ t. demand t fault >> next) is ∙ on

pub counted_to : (text : List ℕ) (index start slash space : ℕ) (part parts count : Number)
    → marks_end text (codes "PART ") index ≡ Ok start → number_at text start ≡ Ok part
    → marks_end text (codes "/") part.end ≡ Ok slash → number_at text slash ≡ Ok parts
    → marks_end text (codes " ") parts.end ≡ Ok space → number_at text space ≡ Ok count
    → count_end text index ≡ Ok count.end
unfolding count_end
counted_to text index start slash space part parts count one two three four six seven =
    then_is (marks_end text (codes "PART ") index) _ start one (then_is (number_at text start) _ part two
    (then_is (marks_end text (codes "/") part.end) _ slash three (then_is (number_at text slash) _ parts four
    (then_is (marks_end text (codes " ") parts.end) _ space six (then_is (number_at text space) _ count seven refl)))))

read_whole : (text : List ℕ) (first : Option KeyLine) (index : ℕ) (heading : FormHeading)
    (start slash space last end : ℕ)
    (part parts count : Number) → marks_end text (codes "PART ") index ≡ Ok start → number_at text start ≡ Ok part
    → marks_end text (codes "/") part.end ≡ Ok slash → number_at text slash ≡ Ok parts
    → (nat_le part.value parts.value && nat_le parts.value 99) ≡ true
    → marks_end text (codes " ") parts.end ≡ Ok space → number_at text space ≡ Ok count
    → marks_end text (keys_pattern (keys_or (heading_keys text count.end) first)) count.end ≡ Ok last
    → heading_end text last ≡ Ok end
    → is_letter_count (keys_or (heading_keys text count.end) first) count.value ≡ true
    → ◌≡◌ {A = Result FormHeading WrongByte} (Ok (record {
      part = part.value;
      parts = parts.value;
      letters = count.value;
      keys = keys_or (heading_keys text count.end) first;
      body = end;
    })) (Ok heading)
    → IsHeadingRead text first index heading
read_whole text first index heading start slash space last end part parts count one two three four fit six seven eight
    ended counted is =
    let keys : KeyLine = keys_or (heading_keys text count.end) first in
    let pattern = marks_read text (keys_pattern keys) count.end last eight in
    let bytes =
    joined_bytes (marks_read text (codes "PART ") index start one) (number_read text start part two)
    (marks_read text (codes "/") part.end slash three) (number_read text slash parts four)
    (marks_read text (codes " ") parts.end space six) (number_read text space count seven) pattern in
    let made : FormHeading =
    record { part = part.value; parts = parts.value; letters = count.value; keys = keys; body = end } in
    let same : made ≡ heading = cc in
    subst (IsHeadingRead text first index) same (record {
      last = last;
      letters = pattern.letters;
      are = pattern.are;
      joined = bytes;
      ended = ended;
      count = count.end;
      counted_to = counted_to text index start slash space part parts count one two three four six seven;
      keyed = refl;
      numbered = (number_read text start part two).some;
      in_order = grind (arith, nat_tests, cases_Bool (nat_le part.value parts.value));
      few = grind (arith, nat_tests, cases_Bool (nat_le part.value parts.value));
      counted = counted;
    })

pub heading_read : (text : List ℕ) (first : Option KeyLine) (index : ℕ) (heading : FormHeading)
    → heading_at text first index ≡ Ok heading → IsHeadingRead text first index heading
unfolding heading_at
heading_read text first index heading is =
    with_ok (marks_end text (codes "PART ") index) _ is (λ start one is_one.
    with_ok (number_at text start) _ is_one (λ part two is_two.
    with_ok (marks_end text (codes "/") part.end) _ is_two (λ slash three is_three.
    with_ok (number_at text slash) _ is_three (λ parts four is_four.
    with_demand (nat_le part.value parts.value && nat_le parts.value 99) _ _ is_four (λ fit is_five.
    with_ok (marks_end text (codes " ") parts.end) _ is_five (λ space six is_six.
    with_ok (number_at text space) _ is_six (λ count seven is_seven.
    with_ok (marks_end text (keys_pattern (keys_or (heading_keys text count.end) first)) count.end) _ is_seven
    (λ last eight is_eight.
    with_ok (heading_end text last) _ is_eight (λ end ended is_nine.
    with_demand (is_letter_count (keys_or (heading_keys text count.end) first) count.value) _ _ is_nine
    (λ counted is_ten.
    read_whole text first index heading start slash space last end part parts count one two three four fit six seven
    eight ended counted is_ten))))))))))

-- -------- the end of a heading's line

-- After a heading's line, the text ends, or the line's end comes before `rest`.
pub data IsLineEnd (tail rest : List ℕ) : Type 0 where
  AtEnd : tail ≡ [] → rest ≡ [] → IsLineEnd tail rest
  AtFeed : tail ≡ 10 ∷ rest → IsLineEnd tail rest
  AtReturn : tail ≡ 13 ∷ 10 ∷ rest → IsLineEnd tail rest

end_cases : (text : List ℕ) (last body : ℕ) (whole : Bool) → (last == length text) ≡ whole
    → cond whole (Ok last) (end_of_line text last) ≡ Ok body
    → IsLineEnd (drop last text) (drop body text) × (body ≤ length text)
end_cases text last body true at is =
    let same : last ≡ body = cc in
    let size : last ≡ length text = grind (arith, nat_tests) in
    let none : drop last text ≡ [] = drop_all last text (omega (arith, size)) in
    (AtEnd none (ap (λ n. drop n text) (sym same) ∙ none), omega (arith, same, size))
end_cases text last body false at is =
    let line : IsLineAnswer (IsPatternLine []) text last (Ok body) =
    subst (IsLineAnswer (IsPatternLine []) text last) is (line_answer text [] last) in
    let inside : 1 ≤ length line.line → body ≤ length text = λ some.
    omega (
      arith,
      some,
      line.size,
      ap length line.joined,
      length-drop last text,
      length-append line.line (drop body text),
      length-drop body text,
    ) in
    elim (line.is.1.ended) [
      | inl feed ↦
          (AtFeed (line.joined ∙ ap (λ l. l ++ drop body text) feed), inside (omega (arith, ap length feed)))
      | inr return ↦
          (AtReturn (line.joined ∙ ap (λ l. l ++ drop body text) return), inside (omega (arith, ap length return)))
    ]

pub end_read : (text : List ℕ) (last body : ℕ) → heading_end text last ≡ Ok body
    → IsLineEnd (drop last text) (drop body text) × (body ≤ length text)
unfolding heading_end
end_read text last body is = end_cases text last body (last == length text) refl is

-- a plain line doesn't end in CR
no_return : (line front : List ℕ) → IsPlain line → line ≢ front ++ 13 ∷ []
no_return line front plain same =
    let inside : length front < length line = omega (arith, ap length same, length-append front (13 ∷ [])) in
    let byte : get_or line (length front) 0 ≡ 13 =
    ap (λ l. get_or l (length front) 0) same ∙ get_or-append_seam front 13 [] 0 in
    let high : 32 ≤ get_or line (length front) 0 = plain (length front) 0 inside in
    omega (arith, high, byte)

first_line : (bytes line tail rest : List ℕ) → IsPlain line → bytes ≡ line ++ tail → IsLineEnd tail rest
    → HasFirstLine bytes line rest
first_line bytes line tail rest plain joined (AtEnd none end) =
    let same : bytes ≡ line = joined ∙ ap (λ l. line ++ l) none ∙ append-nil line in
    inr (subst (IsWithout 10) (sym same) (IsWithout-plain 10 line (omega arith) plain), same, end)
first_line bytes line tail rest plain joined (AtFeed feed) = inl (
  line,
  record {
    joined = joined ∙ ap (λ l. line ++ l) feed;
    without = IsWithout-plain 10 line (omega arith) plain;
  },
  WithoutReturn refl (λ front. no_return line front plain),
)
first_line bytes line tail rest plain joined (AtReturn return) = inl (
  line ++ 13 ∷ [],
  record {
    joined = joined ∙ ap (λ l. line ++ l) return ∙ sym (append_assoc line (13 ∷ []) (10 ∷ rest));
    without = All-append (λ b. b ≢ 10) line (13 ∷ []) (IsWithout-plain 10 line (omega arith) plain)
        (All-cons (λ b. b ≢ 10) 13 [] (omega arith) (All-nil (λ b. b ≢ 10)));
  },
  WithReturn refl,
)

pub line_tail : (bytes line rest : List ℕ) → HasFirstLine bytes line rest
    → (tail : List ℕ) × (bytes ≡ line ++ tail) × IsLineEnd tail rest
line_tail bytes line rest (inl (shown, first, WithReturn is)) = (
  13 ∷ 10 ∷ rest,
  first.joined ∙ ap (λ l. l ++ 10 ∷ rest) is ∙ append_assoc line (13 ∷ []) (10 ∷ rest),
  AtReturn refl,
)
line_tail bytes line rest (inl (shown, first, WithoutReturn is none)) =
    (10 ∷ rest, first.joined ∙ ap (λ l. l ++ 10 ∷ rest) (sym is), AtFeed refl)
line_tail bytes line rest (inr (without, is, none)) = ([], is ∙ sym (append-nil line), AtEnd refl none)

-- -------- what is read is a heading

-- `look` and `receive` read the same heading
pub record HeadingsAgree (s : Day) (bytes : List ℕ) (heading : FormHeading) (h : Heading) (body : List ℕ) : Type 0 where
  pub has : HasHeading s bytes h body
  pub part : h.part ≡ heading.part
  pub parts : h.parts ≡ heading.parts
  pub letters : h.letters ≡ heading.letters

pub heading_is : (s : Day) (text : List ℕ) (first : Option KeyLine) (index : ℕ) (heading : FormHeading)
    → HasKeyLineForm s heading.keys → IsHeadingRead text first index heading
    → (h : Heading) × HeadingsAgree s (drop index text) heading h (drop heading.body text)
heading_is s text first index heading same read =
    let (i, has, filled) = indicator_read s heading.keys same read.letters read.are in
    let h : Heading =
    record { part = heading.part; parts = heading.parts; letters = heading.letters; indicator = i } in
    let is : IsHeading s h = record {
      number = record { first = read.numbered; in_order = read.in_order; few = read.few };
      letters = (counts_agree s heading.keys same heading.letters).0 read.counted;
      indicator = has;
    } in
    let joined : drop index text ≡ line_of (heading_words h) ++ drop read.last text =
    read.joined
    ∙ ap (λ l. heading_bytes heading.part heading.parts heading.letters (l ++ drop read.last text)) filled
    ∙ sym (words_bytes heading.part heading.parts heading.letters i (drop read.last text)) in (
      h,
      record {
        has = record {
          is_heading = is;
          first = first_line (drop index text) (line_of (heading_words h)) (drop read.last text)
              (drop heading.body text)
              (plain_heading s h is) joined (end_read text read.last heading.body read.ended).0;
        };
        part = refl;
        parts = refl;
        letters = refl;
      },
    )
