-- A heading for `receive` is one that `look` reads.
use Rattle.std.proofs.Common.{◌≡◌, ◌∙◌, ℕ, ◌+◌, ◌<◌, ◌≤◌, ◌==◌, ◌&&◌, true, false, List, [], ◌∷◌, ◌++◌, Option, Some}
use Rattle.std.proofs.Common.{None, Ok, ap, arith, codes, decimal, drop, get_or, length, nat_le, refl, sym}
use Rattle.kd_look.proofs.Numbers.{number_to, number_there, drop_next}
use Rattle.std.proofs.lemmas.Bool.{Decides.nat_tests}
use Rattle.std.proofs.lemmas.List.{length-drop}
use Rattle.std.proofs.lemmas.List.Elements.{All-nil}
use Rattle.kd_tables.specs.LineWords.{line_of}
use Rattle.kd_state.specs.Machine.{AreLetters}
use Rattle.kd_state.specs.SheetDay.{Day, Rotor, Pin}
use Rattle.kd_form.specs.declared.heading.{Heading.Heading, Indicator.Indicator}
use Rattle.kd_form.specs.FormParts.{IsLetterCount, IsHeading}
use Rattle.kd_form.specs.Part.{heading_words}
use Rattle.kd_form.specs.PartReading.{HasHeading}
use Rattle.kd_form.specs.Patterns.{filled_pattern}
use Rattle.kd_form.proofs.Headings.{at_most}
use Rattle.kd_form.proofs.Lines.{length-filled}
use Rattle.kd_look.specs.FormHeading.{heading_at, heading_end, heading_keys, is_letter_count, keys_or, keys_pattern}
use Rattle.kd_look.specs.FormHeading.{number_at}
use Rattle.kd_look.specs.Laws.{HasKeyLineForm, count_end}
use Rattle.kd_look.specs.Signs.{end_of_line, fits_at, marks_end}
use Rattle.kd_look.specs.declared.message.form_heading.FormHeading.{FormHeading}
use Rattle.kd_look.specs.declared.message.order_head.KeyLine.{KeyLine}
use Rattle.kd_look.proofs.LineEnds.{slice_get-next}
use Rattle.kd_look.proofs.Marks.{drop_past, fits_there, in_text, marks_there}
use Rattle.kd_look.proofs.Indicators.{counts_agree, indicator_there, indicator_text}
use Rattle.kd_look.proofs.HeadingsRead.{IsLineEnd, AtEnd, AtFeed, AtReturn, counted_to, demanded, heading_bytes}
use Rattle.kd_look.proofs.HeadingsRead.{line_tail, then_is, words_bytes}

-- -------- a heading that is there is read

end_there : (text tail rest : List ℕ) (last : ℕ) → last ≤ length text → drop last text ≡ tail → IsLineEnd tail rest
    → (body : ℕ) × (heading_end text last ≡ Ok body)
unfolding heading_end end_of_line
end_there text tail rest last inside there (AtEnd none end) =
    let size : length text ≡ last = omega (arith, inside, ap length (there ∙ none), length-drop last text) in
    let whole : (last == length text) ≡ true = grind (arith, nat_tests) in
    (last, rw whole refl)
end_there text tail rest last inside there (AtFeed feed) =
    let more : last < length text = omega (arith, inside, ap length (there ∙ feed), length-drop last text) in
    let other : (last == length text) ≡ false = grind (arith, nat_tests) in
    let fit : fits_at text 10 last ≡ true = fits_there text rest 10 last 10 (there ∙ feed) refl in
    (last + 1, rw (other, fit) refl)
end_there text tail rest last inside there (AtReturn return) =
    let more : last < length text = omega (arith, inside, ap length (there ∙ return), length-drop last text) in
    let other : (last == length text) ≡ false = grind (arith, nat_tests) in
    let byte = slice_get-next text (10 ∷ rest) last 13 (there ∙ return) in
    let off : fits_at text 10 last ≡ false = rw byte refl in
    let fit : fits_at text 13 last ≡ true = rw byte refl in
    let then : fits_at text 10 (last + 1) ≡ true =
    fits_there text rest 10 (last + 1) 10 (drop_next text (10 ∷ rest) last 13 (there ∙ return)) refl in
    (last + 2, rw (other, off, fit, then) refl)

none_filled : AreLetters 0 []
none_filled = record { count = refl; within = All-nil (λ l. l < 26) }

-- The numbers of a heading are in the text, and `rest` follows them.
record AreNumbersThere (text : List ℕ) (index part parts count : ℕ) (rest : List ℕ) : Type 0 where
  start : ℕ
  part_end : ℕ
  slash : ℕ
  parts_end : ℕ
  space : ℕ
  end : ℕ
  one : marks_end text (codes "PART ") index ≡ Ok start
  two : number_at text start ≡ Ok (number_to part part_end)
  three : marks_end text (codes "/") part_end ≡ Ok slash
  four : number_at text slash ≡ Ok (number_to parts parts_end)
  six : marks_end text (codes " ") parts_end ≡ Ok space
  seven : number_at text space ≡ Ok (number_to count end)
  next : drop end text ≡ rest
  inside : end ≤ length text

numbers_there : (text : List ℕ) (index part parts count : ℕ) (rest : List ℕ) → index ≤ length text → 1 ≤ part
    → part ≤ parts → parts ≤ 99 → 1 ≤ count → count ≤ 520 → get_or rest 0 0 < 48
    → drop index text ≡ heading_bytes part parts count rest
    → AreNumbersThere text index part parts count rest
numbers_there text index part parts count rest inside some in_order few most least low joined =
    let counted = decimal count ++ rest in
    let whole = decimal parts ++ 32 ∷ counted in
    let numbered = decimal part ++ 47 ∷ whole in
    let at_part : drop (index + 5) text ≡ numbered = drop_past text (codes "PART ") numbered index joined in
    let in_part : index + 5 ≤ length text = in_text text (codes "PART ") numbered index inside joined in
    let part_end : ℕ = index + 5 + length (decimal part) in
    let at_slash : drop part_end text ≡ 47 ∷ whole = drop_past text (decimal part) (47 ∷ whole) (index + 5) at_part in
    let in_slash : part_end ≤ length text = in_text text (decimal part) (47 ∷ whole) (index + 5) in_part at_part in
    let at_parts : drop (part_end + 1) text ≡ whole = drop_past text (codes "/") whole part_end at_slash in
    let in_parts : part_end + 1 ≤ length text = in_text text (codes "/") whole part_end in_slash at_slash in
    let parts_end : ℕ = part_end + 1 + length (decimal parts) in
    let at_space : drop parts_end text ≡ 32 ∷ counted =
    drop_past text (decimal parts) (32 ∷ counted) (part_end + 1) at_parts in
    let in_space : parts_end ≤ length text =
    in_text text (decimal parts) (32 ∷ counted) (part_end + 1) in_parts at_parts in
    let at_count : drop (parts_end + 1) text ≡ counted = drop_past text (codes " ") counted parts_end at_space in
    let in_count : parts_end + 1 ≤ length text = in_text text (codes " ") counted parts_end in_space at_space in
    record {
      start = index + 5;
      part_end = part_end;
      slash = part_end + 1;
      parts_end = parts_end;
      space = parts_end + 1;
      end = parts_end + 1 + length (decimal count);
      one = marks_there text (codes "PART ") [] numbered index none_filled joined;
      two = number_there text (47 ∷ whole) (index + 5) part some (omega (arith, in_order, few)) at_part (omega arith);
      three = marks_there text (codes "/") [] whole part_end none_filled at_slash;
      four = number_there text (32 ∷ counted) (part_end + 1) parts (omega (arith, some, in_order)) (omega (arith, few))
          at_parts (omega arith);
      six = marks_there text (codes " ") [] counted parts_end none_filled at_space;
      seven = number_there text rest (parts_end + 1) count most (omega (arith, least)) at_count low;
      next = drop_past text (decimal count) rest (parts_end + 1) at_count;
      inside = in_text text (decimal count) rest (parts_end + 1) in_count at_count;
    }

tail_low : (i : Option Indicator) (tail rest : List ℕ) → IsLineEnd tail rest
    → get_or (indicator_text i ++ tail) 0 0 < 48
tail_low (Some i) tail rest is = omega arith
tail_low None tail rest (AtEnd none end) = omega (arith, ap (λ l. get_or l 0 0) none)
tail_low None tail rest (AtFeed feed) = omega (arith, ap (λ l. get_or l 0 0) feed)
tail_low None tail rest (AtReturn return) = omega (arith, ap (λ l. get_or l 0 0) return)

least_count : (s : Day) (count : ℕ) → IsLetterCount s count → 1 ≤ count
least_count (Rotor s) count is = omega (arith, is.0)
least_count (Pin s) count is = omega (arith, is.0)

module _ (s : Day) (text : List ℕ) (first : Option KeyLine) (index : ℕ) (h : Heading) (tail rest : List ℕ)
    (is : IsHeading s h) (ends : IsLineEnd tail rest)
    (numbers : AreNumbersThere text index h.part h.parts h.letters (indicator_text h.indicator ++ tail)) where
  abbrev keys_there : KeyLine
  keys_there = keys_or (heading_keys text numbers.end) first

  heading_made : HasKeyLineForm s keys_there → (heading : FormHeading) × (heading_at text first index ≡ Ok heading)
  unfolding heading_at
  heading_made same =
      let (letters, are, filled) = indicator_there s keys_there same h.indicator is.indicator in
      let next : drop numbers.end text ≡ filled_pattern (keys_pattern keys_there) letters ++ tail =
      numbers.next ∙ ap (λ l. l ++ tail) (sym filled) in
      let last : ℕ = numbers.end + length (keys_pattern keys_there) in
      let size = length-filled (keys_pattern keys_there) letters in
      let place : numbers.end + length (filled_pattern (keys_pattern keys_there) letters) ≡ last =
      ap (λ n. numbers.end + n) size in
      let there : drop last text ≡ tail =
      ap (λ n. drop n text) (sym place)
      ∙ drop_past text (filled_pattern (keys_pattern keys_there) letters) tail numbers.end next in
      let inside : last ≤ length text =
      omega (
        arith,
        place,
        in_text text (filled_pattern (keys_pattern keys_there) letters) tail numbers.end numbers.inside next,
      ) in
      let (body, ended) = end_there text tail rest last inside there ends in
      let counted = (counts_agree s keys_there same h.letters).1 is.letters in
      let in_order : nat_le h.part h.parts ≡ true = grind (arith, nat_tests, is.number.in_order) in
      let few : nat_le h.parts 99 ≡ true = grind (arith, nat_tests, is.number.few) in
      let numbered : (nat_le h.part h.parts && nat_le h.parts 99) ≡ true = rw (in_order, few) refl in (
        record { part = h.part; parts = h.parts; letters = h.letters; keys = keys_there; body = body },
        then_is (marks_end text (codes "PART ") index) _ numbers.start numbers.one
            (then_is (number_at text numbers.start) _ (number_to h.part numbers.part_end) numbers.two
            (then_is (marks_end text (codes "/") numbers.part_end) _ numbers.slash numbers.three
            (then_is (number_at text numbers.slash) _ (number_to h.parts numbers.parts_end) numbers.four
            (demanded (nat_le h.part h.parts && nat_le h.parts 99) _ _ numbered
            (then_is (marks_end text (codes " ") numbers.parts_end) _ numbers.space numbers.six
            (then_is (number_at text numbers.space) _ (number_to h.letters numbers.end) numbers.seven
            (then_is (marks_end text (keys_pattern keys_there) numbers.end) _ last
            (marks_there text (keys_pattern keys_there) letters tail numbers.end are next)
            (then_is (heading_end text last) _ body ended
            (demanded (is_letter_count keys_there h.letters) _ _ counted refl))))))))),
      )

  count_made : count_end text index ≡ Ok numbers.end
  count_made = counted_to text index numbers.start numbers.slash numbers.space (number_to h.part numbers.part_end)
      (number_to h.parts numbers.parts_end) (number_to h.letters numbers.end) numbers.one numbers.two numbers.three
      numbers.four numbers.six numbers.seven

pub heading_there : (s : Day) (text : List ℕ) (first : Option KeyLine) (index : ℕ) (h : Heading) (rest : List ℕ)
    → index ≤ length text → HasHeading s (drop index text) h rest
    → ((end : ℕ) → count_end text index ≡ Ok end → HasKeyLineForm s (keys_or (heading_keys text end) first))
    → (heading : FormHeading) × (heading_at text first index ≡ Ok heading)
heading_there s text first index h rest inside has keyed =
    let (tail, joined, ends) = line_tail (drop index text) (line_of (heading_words h)) rest has.first in
    let is = has.is_heading in
    let bytes : drop index text ≡ heading_bytes h.part h.parts h.letters (indicator_text h.indicator ++ tail) =
    joined ∙ words_bytes h.part h.parts h.letters h.indicator tail in
    let numbers =
    numbers_there text index h.part h.parts h.letters (indicator_text h.indicator ++ tail) inside is.number.first
    is.number.in_order is.number.few (least_count s h.letters is.letters) (at_most s h.letters is.letters)
    (tail_low h.indicator tail rest ends) bytes in
    heading_made s text first index h tail rest is ends numbers
    (keyed numbers.end (count_made s text first index h tail rest is ends numbers))

-- The number of letters in a heading for `receive` is where `look` seeks it, and the indicator follows.
pub count_there : (s : Day) (text : List ℕ) (index : ℕ) (h : Heading) (rest : List ℕ) → index ≤ length text
    → HasHeading s (drop index text) h rest
    → (end : ℕ) × (tail : List ℕ) × IsLineEnd tail rest × (count_end text index ≡ Ok end)
    × (drop end text ≡ indicator_text h.indicator ++ tail)
count_there s text index h rest inside has =
    let (tail, joined, ends) = line_tail (drop index text) (line_of (heading_words h)) rest has.first in
    let is = has.is_heading in
    let bytes : drop index text ≡ heading_bytes h.part h.parts h.letters (indicator_text h.indicator ++ tail) =
    joined ∙ words_bytes h.part h.parts h.letters h.indicator tail in
    let numbers =
    numbers_there text index h.part h.parts h.letters (indicator_text h.indicator ++ tail) inside is.number.first
    is.number.in_order is.number.few (least_count s h.letters is.letters) (at_most s h.letters is.letters)
    (tail_low h.indicator tail rest ends) bytes in
    (numbers.end, tail, ends, count_made s text None index h tail rest is ends numbers, numbers.next)
