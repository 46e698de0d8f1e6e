-- No part that is read is hidden on the page, and a whole message is whole on it.
use Rattle.std.proofs.Common.{◌≡◌, ◌≢◌, ◌∙◌, ◌⊎◌, inl, inr, ℕ, zero, suc, ◌+◌, ◌-◌, ◌<◌, ◌≤◌, ◌&&◌, is_none, nat_le, slice_get}
use Rattle.std.proofs.Common.{Bool, true, false, List, [], ◌∷◌, ◌++◌, All, IsTrue, arith, refl, sym, ap, subst, map}
use Rattle.std.proofs.Common.{Option, Some, None, Result, Ok, Err, if◌then◌else◌, MatchOption, flat_map, append_assoc, append-nil}
use Rattle.std.proofs.lemmas.Bool.{Decides.nat_tests, and_parts, cases_Bool, false≢true}
use Rattle.std.proofs.lemmas.List.Elements.{All-contains_itself, All-head, All-tail}
use Rattle.std.proofs.lemmas.Option.{slice_get_within}
use Rattle.std.specs.List.{Contains, range_with_len}
use Rattle.kd_state.specs.SheetDay.{Day, day_model}
use Rattle.kd_state.proofs.OneAnswer.{ThenNext-Ok}
use Rattle.kd_form.specs.declared.heading.Heading.{Heading}
use Rattle.kd_form.specs.FormText.{plaintext_bytes}
use Rattle.kd_form.specs.Sending.{space_letter}
use Rattle.kd_lost.specs.declared.damage.PartDamage.{PartDamage}
use Rattle.kd_lost.specs.declared.damaged_text.DamagedText.{DamagedText}
use Rattle.kd_lost.specs.declared.part.{DamagedPart.{DamagedPart}, PartNumbers.{PartNumbers}}
use Rattle.kd_lost.specs.ByCount.{GivesByCount, IsFoundIn, counted_part, numbers_by_count, text_of}
use Rattle.kd_lost.specs.DamagedForm.{AreReadOf, IsReadAs, IsReadOf, PlacedPart, letters_in, shown_byte}
use Rattle.kd_lost.proofs.Counting.{numbers_given}
use Rattle.kd_lost.proofs.CompletedParts.{read_somehow}
use Rattle.kd_lost.specs.DamagedPart.{AreNumbersRead, IsDamagedHeading, IsDamagedTextAnswer, first_line}
use Rattle.kd_language.specs.declared.language.Language.{Language}
use Rattle.kd_part_sheet.specs.declared.part_sheet.PartName.{PartName}
use Rattle.kd_pictures.specs.declared.results.Results.TheVariants.{Shown}
use Rattle.kd_lost.proofs.WholeForms.{shown_known}
use Rattle.kd_message.specs.declared.receiving.Section.TheVariants as sections
use Rattle.kd_message.specs.Laws.{HasLettersOf, IsOn, NothingReadIsHidden, RepetitionsHaveTheLetters, WholeMessagesAreOnThePage}
use Rattle.kd_message.specs.Laws.{WholeMessagesHaveOneTotal, clear_text, letters_of_part}
use Rattle.kd_lost.specs.OneMessage.{agrees_with_each, are_of_one_message, headings_agree, numbers_agree, parts_agree}
use Rattle.kd_lost.proofs.OneMessage.{agree_with_it, contains_none, first_or_later, same_number_agree}
use Rattle.kd_lost.specs.OneMessage.{bodies_agree, ends_within, frames_agree, letters_agree, may_repeat, same_keys, texts_agree}
use Rattle.kd_lost.specs.Repetitions.{are_kept, is_kept, is_same_part}
use Rattle.kd_message.specs.ReceivePage.{as_they_came, by_number, counted_or_damage, missing_reason, name_at, number_in}
use Rattle.kd_message.specs.ReceivePage.{number_or, part_at, part_in, section_text, sheet_to_receive, shown_in}
use Rattle.kd_message.specs.ReceivePage.{text_or_damage}
unfoldable use Rattle.kd_message.specs.ReceivePage.{receive_text}
use Rattle.kd_message.specs.SendPage.{part_name}
use Rattle.kd_lost.specs.ShownParts.{IsNumberWhole, IsReadWhole, are_covered, better, is_covered, is_covered_by, is_number}
use Rattle.kd_lost.specs.ShownParts.{is_one_message, parts_or, shown_under, text_in, times_of, total_of}
use Rattle.kd_lost.specs.Texts.{letter_within, letters_within, lost_in, shown_text, text_or, text_within}
unfoldable use Rattle.kd_message.specs.TextSheet.{counted_text, read_text}
use Rattle.kd_message.specs.declared.texts.TheConstants.{TEXT_END}
use Rattle.kd_message.specs.TextSheet.{came_text, group_requests, text_begin, text_letters, text_part_head, warnings_of}
use Rattle.kd_part_sheet.specs.declared.markup.TheConstants.{SECTION_END}
use Rattle.kd_part_sheet.specs.PartSheet.{warnings_text}
use Rattle.kd_message.proofs.ReceivePages.{better_holds, shown_holds}
use Rattle.kd_lost.proofs.ShownParts.{range_first}

-- -------- pieces of a page

on_itself : (piece : List ℕ) → IsOn piece piece
on_itself piece = ([], [], sym (append-nil piece))

on_left : (one other piece : List ℕ) → IsOn one piece → IsOn (one ++ other) piece
on_left one other piece (before, after, is) =
    (before, after ++ other, ap (λ l. l ++ other) is ∙ append_assoc (before ++ piece) after other)

four_joined : (a b c d : List ℕ) → a ++ (b ++ c ++ d) ≡ (a ++ b) ++ c ++ d
four_joined a b c d = grind (arith, append_assoc)

on_right : (one other piece : List ℕ) → IsOn other piece → IsOn (one ++ other) piece
on_right one other piece (before, after, is) =
    (one ++ before, after, ap (λ l. one ++ l) is ∙ four_joined one before piece after)

on_range : (f : ℕ → List ℕ) (from count place : ℕ) (piece : List ℕ) → place < count → IsOn (f (from + place)) piece
    → IsOn (flat_map f (range_with_len from count)) piece
on_range f from count zero piece inside is =
    let same : from + 0 ≡ from = omega arith in
    subst (λ l. IsOn (flat_map f l) piece) (sym (range_first from count (omega (arith, inside))))
    (on_left (f from) (flat_map f (range_with_len (from + 1) (count - 1))) piece
    (subst (λ n. IsOn (f n) piece) same is))
on_range f from count (suc place) piece inside is =
    let same : from + suc place ≡ from + 1 + place = omega arith in
    subst (λ l. IsOn (flat_map f l) piece) (sym (range_first from count (omega (arith, inside))))
    (on_right (f from) (flat_map f (range_with_len (from + 1) (count - 1))) piece
    (on_range f (from + 1) (count - 1) place piece (omega (arith, inside)) (subst (λ n. IsOn (f n) piece) same is)))

pub at_range : (P : ℕ → Type 0) (from count place : ℕ) → place < count → All P (range_with_len from count)
    → P (from + place)
at_range P from count zero inside all =
    let same : from ≡ from + 0 = omega arith in
    subst P same (All-head P from (range_with_len (from + 1) (count - 1))
    (subst (All P) (range_first from count (omega (arith, inside))) all))
at_range P from count (suc place) inside all =
    let same : from + 1 + place ≡ from + suc place = omega arith in
    subst P same (at_range P (from + 1) (count - 1) place (omega (arith, inside))
    (All-tail P from (range_with_len (from + 1) (count - 1))
    (subst (All P) (range_first from count (omega (arith, inside))) all)))

page_has : (l : Language) (s : Day) (parts : List DamagedPart) (piece : List ℕ)
    → IsOn (section_text (sections.Texts Shown) l s parts) piece → IsOn (receive_text Shown l s parts) piece
unfolding receive_text
page_has l s parts piece is = on_left _ _ piece (on_left _ _ piece (on_left _ _ piece (on_right _ _ piece is)))

-- -------- parts that are read

module _ (s : Day) where
  read_of_cases : (part : PlacedPart) (parts : List PlacedPart) (one : DamagedPart) (reads : List DamagedPart)
      (read : DamagedPart) → AreReadOf s (part ∷ parts) (one ∷ reads) → (one ≡ read) ⊎ Contains reads read
      → (Contains reads read → (part : List ℕ) × IsReadOf s part read) → (part : List ℕ) × IsReadOf s part read
  read_of_cases part parts one reads read are (inl is) rest = (part.bytes, subst (IsReadOf s part.bytes) is are.0.0)
  read_of_cases part parts one reads read are (inr later) rest = rest later

  read_of : (parts : List PlacedPart) (reads : List DamagedPart) (read : DamagedPart) → AreReadOf s parts reads
      → Contains reads read → (part : List ℕ) × IsReadOf s part read
  read_of [] [] read are there = absurd (contains_none read there)
  read_of [] (one ∷ reads) read are there = absurd are
  read_of (part ∷ parts) [] read are there = absurd are
  read_of (part ∷ parts) (one ∷ reads) read are there =
      read_of_cases part parts one reads read are (first_or_later one reads read there)
      (λ later. read_of parts reads read are.1 later)

  -- a heading that is found gives numbers
  read_numbers : (line : List ℕ) (found : Option PartNumbers) (h : Heading) → IsDamagedHeading s line h
      → AreNumbersRead s line found
      → (numbers : PartNumbers) × (found ≡ Some numbers) × (1 ≤ numbers.part) × (numbers.part ≤ numbers.parts)
  read_numbers line None h headed none = absurd (none h headed)
  read_numbers line (Some given) h headed (other, is, same) = (
    given,
    refl,
    omega (arith, is.is_heading.number.first, ap (λ (n : PartNumbers). n.part) same),
    omega (
      arith,
      is.is_heading.number.in_order,
      ap (λ (n : PartNumbers). n.part) same,
      ap (λ (n : PartNumbers). n.parts) same,
    ),
  )

  -- a part that is read as it counts has a number
  counted_number : (part : List ℕ) (read : DamagedPart) (shown : DamagedText) → IsReadAs s part read
      → read.text ≡ Ok shown
      → (numbers : PartNumbers) × (read.numbers ≡ Some numbers) × (1 ≤ numbers.part) × (numbers.part ≤ numbers.parts)
  counted_number part read shown is text =
      let one = ThenNext-Ok (subst (λ t. IsDamagedTextAnswer s part t) text is.text) in
      read_numbers (first_line part) read.numbers one.found one.says (numbers_given s part read shown text is)

  -- so has a part that is read by the letters that came
  found_number : (part : List ℕ) (counted : Option PartNumbers) (found : Option DamagedText) (shown : DamagedText)
      (answer : Result DamagedText PartDamage) → (is : IsFoundIn s part counted found) → is.answer ≡ answer
      → found ≡ Some shown
      → (numbers : PartNumbers) × (counted ≡ Some numbers) × (1 ≤ numbers.part) × (numbers.part ≤ numbers.parts)
  found_number part counted found shown (Ok text) is told there =
      let one = ThenNext-Ok (subst (λ t. IsDamagedTextAnswer s part t) told is.text) in
      read_numbers (first_line part) counted one.found one.says is.given
  found_number part counted found shown (Err damage) is told there =
      let none : found ≡ None = is.is_its ∙ ap text_of told in absurd (cc)

  given_number : (line : List ℕ) (given counted numbers : Option PartNumbers) (found : Option DamagedText)
      (shown : DamagedText) → AreNumbersRead s line given → found ≡ Some shown
      → numbers ≡ numbers_by_count given counted found
      → (numbers : PartNumbers) × (counted ≡ Some numbers) × (1 ≤ numbers.part) × (numbers.part ≤ numbers.parts)
      → (own : PartNumbers) × (numbers ≡ Some own) × (1 ≤ own.part) × (own.part ≤ own.parts)
  given_number line (Some own) counted numbers found shown (h, headed, same) there is by =
      let (own, given, first, last) = read_numbers line (Some own) h headed (h, headed, same) in
      (own, is ∙ given, first, last)
  given_number line None counted numbers found shown none there is (own, given, first, last) =
      (own, is ∙ ap (numbers_by_count None counted) there ∙ given, first, last)

  by_count_number : (doubted : Bool) (part : List ℕ) (came : ℕ) (given numbers : Option PartNumbers)
      (found : Option DamagedText) (shown : DamagedText) → AreNumbersRead s (first_line part) given
      → GivesByCount doubted s part came given numbers found → found ≡ Some shown
      → (own : PartNumbers) × (numbers ≡ Some own) × (1 ≤ own.part) × (own.part ≤ own.parts)
  by_count_number false part came given numbers found shown read is there = let none = is.0 in absurd (cc)
  by_count_number true part came given numbers found shown read (counted, is, same) there =
      given_number (first_line part) given counted numbers found shown read there same
      (found_number (counted_part came part) counted found shown is.answer is refl there)

  number_cases_of : (part : List ℕ) (read : DamagedPart) (shown : DamagedText) (text : Result DamagedText PartDamage)
      → IsReadAs s part read → read.text ≡ text → text_or text read.by_count ≡ Some shown
      → (numbers : PartNumbers) × (read.numbers ≡ Some numbers) × (1 ≤ numbers.part) × (numbers.part ≤ numbers.parts)
  number_cases_of part read shown (Ok text) is told there = counted_number part read text is told
  number_cases_of part read shown (Err damage) is told there =
      by_count_number _ part read.came is.given read.numbers read.by_count shown is.given_there is.by_count there

  -- a part that has a text has a number
  number_there : (part : List ℕ) (read : DamagedPart) (shown : DamagedText) → IsReadOf s part read
      → shown_text read ≡ Some shown
      → (numbers : PartNumbers) × (read.numbers ≡ Some numbers) × (1 ≤ numbers.part) × (numbers.part ≤ numbers.parts)
  number_there part read shown is there = number_cases_of is.meant read shown read.text is.as_meant refl there

-- -------- how many parts the message has

same_total : (one other : PartNumbers) (agree : Bool) → numbers_agree one other agree ≡ true → one.parts ≡ other.parts
same_total one other agree is = grind (arith, nat_tests, cases_Bool)

total_here : (one part : DamagedPart) (numbers : PartNumbers) (found : Option PartNumbers) (later : ℕ)
    → one.numbers ≡ found → part.numbers ≡ Some numbers → parts_agree one part ≡ true → later ≡ numbers.parts
    → parts_or later one.numbers ≡ numbers.parts
total_here one part numbers None later is there agree rest = ap (parts_or later) is ∙ rest
total_here one part numbers (Some own) later is there agree rest =
    let both = may_repeat one part in
    let headings : headings_agree (Some own) (Some numbers) both ≡ true =
    ap (λ n. headings_agree n (Some numbers) both) (sym is) ∙ ap (λ n. headings_agree one.numbers n both) (sym there)
    ∙ agree in
    ap (parts_or later) is ∙ same_total own numbers both headings

total_is_cases : (one : DamagedPart) (parts : List DamagedPart) (part : DamagedPart) (numbers : PartNumbers)
    → agrees_with_each one parts ≡ true → (one ≡ part) ⊎ Contains parts part → part.numbers ≡ Some numbers
    → (Contains parts part → total_of parts ≡ numbers.parts) → total_of (one ∷ parts) ≡ numbers.parts
total_is_cases one parts part numbers agree (inl same) is rest =
    ap (λ (p : DamagedPart). parts_or (total_of parts) p.numbers) same ∙ ap (parts_or (total_of parts)) is
total_is_cases one parts part numbers agree (inr later) is rest =
    total_here one part numbers one.numbers (total_of parts) refl is (agree_with_it one part parts agree later)
    (rest later)

pub total_is : (parts : List DamagedPart) (part : DamagedPart) (numbers : PartNumbers) → are_of_one_message parts ≡ true
    → Contains parts part → part.numbers ≡ Some numbers → total_of parts ≡ numbers.parts
total_is [] part numbers agree there is = absurd (contains_none part there)
total_is (one ∷ parts) part numbers agree there is =
    let both = and_parts (agrees_with_each one parts) (are_of_one_message parts) agree in
    total_is_cases one parts part numbers both.0 (first_or_later one parts part there) is
    (λ later. total_is parts part numbers both.1 later is)

pub one_total : WholeMessagesHaveOneTotal
one_total parts one other numbers others whole there also is again =
    let agree = (and_parts (are_of_one_message parts) (are_covered parts parts) whole.one_message).0 in
    sym (total_is parts one numbers agree there is) ∙ total_is parts other others agree also again

pub repetition_letters : RepetitionsHaveTheLetters
repetition_letters one other others numbers again shown later whole there is its same text more =
    let all = one ∷ others in
    let agree = and_parts (are_of_one_message all) (are_covered all all) whole.one_message in
    let both = and_parts (agrees_with_each one others) (are_of_one_message others) agree.0 in
    let letters = letters_agree shown.received.items later.received.items in
    let keys = same_keys shown.keys later.keys in
    let bodies = bodies_agree one.body.items other.body.items in
    let ends = ends_within one other && (ends_within other one && frames_agree one other) in
    let told : headings_agree (Some numbers) (Some again) (bodies && (texts_agree (Ok shown) (Ok later) && ends)) ≡ true =
    (λ i. headings_agree (sym is i) (sym its i) (bodies && (texts_agree (sym text i) (sym more i) && ends)))
    ∙ agree_with_it one other others both.0 there in
    let repeats = same_number_agree numbers again (bodies && ((letters && keys) && ends)) same told in
    (and_parts letters keys (and_parts (letters && keys) ends (and_parts bodies _ repeats).1).0).0

-- -------- the part that is shown has all letters

head_is : (x : Option ℕ) (one : List (Option ℕ)) (letter : ℕ) → slice_get (x ∷ one) 0 ≡ Some (Some letter)
    → x ≡ Some letter
head_is x one letter is = cc

none_within : (x : Option ℕ) (letter : ℕ) (rest : Bool) → x ≡ Some letter → (is_none x && rest) ≡ true → ⊥
none_within x letter rest is within =
    false≢true (sym (ap (λ (o : Option ℕ). is_none o && rest) is) ∙ within)

same_within : (y : Option ℕ) (letter : ℕ) → letter_within (Some letter) y ≡ true → y ≡ Some letter
same_within None letter within = absurd (false≢true within)
same_within (Some again) letter within =
    let same : letter ≡ again = grind (arith, nat_tests, within) in λ i. Some (sym same i)

within_places : (one other : List (Option ℕ)) → letters_within one other ≡ true → (place letter : ℕ)
    → slice_get one place ≡ Some (Some letter) → slice_get other place ≡ Some (Some letter)
within_places [] other within place letter is = absurd (omega (arith, slice_get_within [] place (Some letter) is))
within_places (x ∷ one) [] within zero letter is =
    absurd (none_within x letter (letters_within one []) (head_is x one letter is) within)
within_places (x ∷ one) [] within (suc place) letter is =
    within_places one [] (and_parts (is_none x) (letters_within one []) within).1 place letter is
within_places (x ∷ one) (y ∷ other) within zero letter is =
    let both = and_parts (letter_within x y) (letters_within one other) within in
    let head = head_is x one letter is in
    ap (λ o. Some o) (same_within y letter (ap (λ o. letter_within o y) (sym head) ∙ both.0))
within_places (x ∷ one) (y ∷ other) within (suc place) letter is =
    within_places one other (and_parts (letter_within x y) (letters_within one other) within).1 place letter is

-- a text is found that has all letters of `shown`, and no more lost ones
record IsWithin (found : Option DamagedText) (shown : DamagedText) : Type 0 where
  pub text : DamagedText
  pub is : found ≡ Some text
  pub has : HasLettersOf text shown
  pub no_more : lost_in text ≤ lost_in shown

within_found : (shown : DamagedText) (found : Option DamagedText) → text_within (Some shown) found ≡ true
    → IsWithin found shown
within_found shown None off = absurd (false≢true off)
within_found shown (Some text) within =
    let both = and_parts (letters_within shown.letters.items text.letters.items) (nat_le (lost_in text) (lost_in shown))
    within in
    record {
      text = text;
      is = refl;
      has = within_places shown.letters.items text.letters.items both.0;
      no_more = grind (arith, nat_tests, both.1);
    }

itself_within : (part : DamagedPart) (shown : DamagedText) → shown_text part ≡ Some shown
    → IsWithin (shown_text part) shown
itself_within part shown is =
    record { text = shown; is = is; has = λ place letter there. there; no_more = omega arith }

within_further : (found : Option DamagedText) (middle shown : DamagedText) → HasLettersOf middle shown
    → lost_in middle ≤ lost_in shown → IsWithin found middle → IsWithin found shown
within_further found middle shown has fewer further = record {
  text = further.text;
  is = further.is;
  has = λ place letter there. further.has place letter (has place letter there);
  no_more = omega (arith, fewer, further.no_more);
}

-- a part of which `part` was read alone: it has the same number, and all letters
record IsKeptIn (parts : List DamagedPart) (part : DamagedPart) (shown : DamagedText) : Type 0 where
  pub kept : DamagedPart
  pub there : Contains parts kept
  pub same : is_same_part part.numbers kept.numbers ≡ true
  pub within : IsWithin (shown_text kept) shown

kept_later : (one : DamagedPart) (parts : List DamagedPart) (part : DamagedPart) (shown : DamagedText)
    → IsKeptIn parts part shown → IsKeptIn (one ∷ parts) part shown
kept_later one parts part shown is = record {
  kept = is.kept;
  there = (suc is.there.0, omega (arith, is.there.1), is.there.2);
  same = is.same;
  within = is.within;
}

kept_cases : (one again part : DamagedPart) (alone parts : List DamagedPart) (shown : DamagedText)
    → is_kept one again ≡ true → (one ≡ part) ⊎ Contains alone part → shown_text part ≡ Some shown
    → (Contains alone part → IsKeptIn parts part shown) → IsKeptIn (again ∷ parts) part shown
kept_cases one again part alone parts shown kept (inl is) text rest =
    let both = and_parts (is_same_part one.numbers again.numbers) (text_within (shown_text one) (shown_text again)) kept in
    let its = ap shown_text is ∙ text in
    record {
      kept = again;
      there = (0, omega arith, refl);
      same = ap (λ (p : DamagedPart). is_same_part p.numbers again.numbers) (sym is) ∙ both.0;
      within = within_found shown (shown_text again) (ap (λ t. text_within t (shown_text again)) (sym its) ∙ both.1);
    }
kept_cases one again part alone parts shown kept (inr later) text rest =
    kept_later again parts part shown (rest later)

kept_there : (alone parts : List DamagedPart) (part : DamagedPart) (shown : DamagedText) → are_kept alone parts ≡ true
    → Contains alone part → shown_text part ≡ Some shown → IsKeptIn parts part shown
kept_there [] parts part shown kept there is = absurd (contains_none part there)
kept_there (one ∷ alone) [] part shown kept there is = absurd (false≢true kept)
kept_there (one ∷ alone) (again ∷ parts) part shown kept there is =
    let both = and_parts (is_kept one again) (are_kept alone parts) kept in
    kept_cases one again part alone parts shown both.0 (first_or_later one alone part there) is
    (λ later. kept_there alone parts part shown both.1 later is)

same_as_itself : (numbers : Option PartNumbers) → is_same_part numbers numbers ≡ true
same_as_itself None = refl
same_as_itself (Some numbers) = grind (arith, nat_tests)

kept_or_alone : (alone again : List DamagedPart) (part : DamagedPart) (shown : DamagedText) (kept : Bool)
    → are_kept alone again ≡ kept → Contains alone part → shown_text part ≡ Some shown
    → IsKeptIn (if kept then again else alone) part shown
kept_or_alone alone again part shown true kept there is = kept_there alone again part shown kept there is
kept_or_alone alone again part shown false kept there is = record {
  kept = part;
  there = there;
  same = same_as_itself part.numbers;
  within = itself_within part shown is;
}

covered_cases : (all : List DamagedPart) (one part : DamagedPart) (parts : List DamagedPart) → is_covered all one ≡ true
    → (one ≡ part) ⊎ Contains parts part → (Contains parts part → is_covered all part ≡ true)
    → is_covered all part ≡ true
covered_cases all one part parts covered (inl is) rest = subst (λ p. is_covered all p ≡ true) is covered
covered_cases all one part parts covered (inr later) rest = rest later

covered_there : (all parts : List DamagedPart) (part : DamagedPart) → are_covered all parts ≡ true → Contains parts part
    → is_covered all part ≡ true
covered_there all [] part covered there = absurd (contains_none part there)
covered_there all (one ∷ parts) part covered there =
    let both = and_parts (is_covered all one) (are_covered all parts) covered in
    covered_cases all one part parts both.0 (first_or_later one parts part there)
    (λ later. covered_there all parts part both.1 later)

-- the part that is found has a text with all letters
record IsTold (found : Option DamagedPart) (shown : DamagedText) : Type 0 where
  pub best : DamagedPart
  pub is : found ≡ Some best
  pub within : IsWithin (shown_text best) shown

told_by : (found : Option DamagedPart) (shown : DamagedText) → IsWithin (text_in found) shown → IsTold found shown
told_by None shown within = let off = within.is in absurd (cc)
told_by (Some best) shown within = record { best = best; is = refl; within = within }

best_told : (parts : List DamagedPart) (part : DamagedPart) (numbers : PartNumbers) (shown : DamagedText)
    → are_covered parts parts ≡ true → Contains parts part → part.numbers ≡ Some numbers
    → shown_text part ≡ Some shown → IsTold (shown_under parts numbers.part) shown
best_told parts part numbers shown covered there number is =
    let found = text_in (shown_under parts numbers.part) in
    let its : text_within (Some shown) found ≡ true =
    ap (λ t. text_within t found) (sym is)
    ∙ ap (is_covered_by parts (shown_text part)) (sym number)
    ∙ covered_there parts parts part covered there in
    told_by (shown_under parts numbers.part) shown (within_found shown found its)

-- the part that is shown under a number has this number
number_cases : (number : ℕ) (is_it : Bool) (one : DamagedPart) (later : Option DamagedPart) (part : DamagedPart)
    → is_number number one.numbers ≡ is_it
    → ((other : DamagedPart) → later ≡ Some other → is_number number other.numbers ≡ true)
    → (if is_it then better one later else later) ≡ Some part → is_number number part.numbers ≡ true
number_cases number true one later part its rest is =
    better_holds (λ (d : DamagedPart). is_number number d.numbers ≡ true) one later part its rest is
number_cases number false one later part its rest is = rest part is

pub shown_numbered : (number : ℕ) (parts : List DamagedPart) (part : DamagedPart) → shown_under parts number ≡ Some part
    → is_number number part.numbers ≡ true
shown_numbered number [] part is = absurd (cc)
shown_numbered number (one ∷ parts) part is =
    number_cases number (is_number number one.numbers) one (shown_under parts number) part refl
    (λ other there. shown_numbered number parts other there) is

-- -------- the texts on the page

text_on_cases : (l : Language) (s : Day) (name : PartName) (part : DamagedPart) (shown : DamagedText)
    (text : Result DamagedText PartDamage) (counted : Option DamagedText) → part.by_count ≡ counted
    → text_or text counted ≡ Some shown
    → IsOn (text_or_damage l s name part text) (read_text l (sheet_to_receive (day_model s)) s name shown)
unfolding counted_text
text_on_cases l s name part shown (Ok text) counted by is =
    let same : text ≡ shown = cc in
    subst (λ t. IsOn (read_text l (sheet_to_receive (day_model s)) s name text)
    (read_text l (sheet_to_receive (day_model s)) s name t)) same
    (on_itself (read_text l (sheet_to_receive (day_model s)) s name text))
text_on_cases l s name part shown (Err damage) None by is = absurd (cc)
text_on_cases l s name part shown (Err damage) (Some text) by is =
    let piece = read_text l (sheet_to_receive (day_model s)) s name shown in
    let same : text ≡ shown = cc in
    subst (λ c. IsOn (counted_or_damage l s name part damage c) piece) (sym (by ∙ ap (λ t. Some t) same))
    (on_left _ _ piece (on_right _ _ piece (on_itself piece)))

text_on_part : (l : Language) (s : Day) (name : PartName) (times : ℕ) (part : DamagedPart) (shown : DamagedText)
    → shown_text part ≡ Some shown
    → IsOn (part_in (sections.Texts Shown) l s name times part) (read_text l (sheet_to_receive (day_model s)) s name shown)
text_on_part l s name times part shown is =
    on_left _ _ _ (on_right _ _ _ (text_on_cases l s name part shown part.text part.by_count refl is))

came_there_cases : (l : Language) (s : Day) (place before : ℕ) (one : DamagedPart) (parts : List DamagedPart)
    (part : DamagedPart) (numbers : PartNumbers) → (one ≡ part) ⊎ Contains parts part → part.numbers ≡ Some numbers
    → (Contains parts part → (at : ℕ) × IsOn
    (as_they_came (sections.Texts Shown) l s (place + 1) (number_or before one.numbers) parts)
    (part_in (sections.Texts Shown) l s (name_at Shown s at numbers) 1 part))
    → (at : ℕ) × IsOn (as_they_came (sections.Texts Shown) l s place before (one ∷ parts))
    (part_in (sections.Texts Shown) l s (name_at Shown s at numbers) 1 part)
came_there_cases l s place before one parts part numbers (inl same) is rest =
    let piece = part_in (sections.Texts Shown) l s (name_at Shown s place numbers) 1 part in
    let here : part_at (sections.Texts Shown) l s place before one.numbers one ≡ piece =
    ap (λ (p : DamagedPart). part_at (sections.Texts Shown) l s place before p.numbers p) same
    ∙ ap (λ n. part_at (sections.Texts Shown) l s place before n part) is in
    (place, on_left _ _ piece (subst (λ t. IsOn t piece) (sym here) (on_itself piece)))
came_there_cases l s place before one parts part numbers (inr later) is rest =
    let found = rest later in
    (found.0, on_right _ _ _ found.1)

came_there : (l : Language) (s : Day) (place before : ℕ) (parts : List DamagedPart) (part : DamagedPart)
    (numbers : PartNumbers) → Contains parts part → part.numbers ≡ Some numbers
    → (at : ℕ) × IsOn (as_they_came (sections.Texts Shown) l s place before parts)
    (part_in (sections.Texts Shown) l s (name_at Shown s at numbers) 1 part)
came_there l s place before [] part numbers there is = absurd (contains_none part there)
came_there l s place before (one ∷ parts) part numbers there is =
    came_there_cases l s place before one parts part numbers (first_or_later one parts part there) is
    (λ later. came_there l s (place + 1) (number_or before one.numbers) parts part numbers later is)

on_part : (whole middle piece : List ℕ) → IsOn whole middle → IsOn middle piece → IsOn whole piece
on_part whole middle piece (before, after, is) inner =
    subst (λ w. IsOn w piece) (sym is) (on_left (before ++ middle) after piece (on_right before middle piece inner))

number_on_page : (l : Language) (s : Day) (parts : List DamagedPart) (number : ℕ) (part : DamagedPart)
    → is_one_message parts ≡ true → 1 ≤ number → number ≤ total_of parts → shown_under parts number ≡ Some part
    → IsOn (receive_text Shown l s parts)
    (part_in (sections.Texts Shown) l s (part_name Shown s number (total_of parts)) (times_of parts number) part)
number_on_page l s parts number part agree first last is =
    let name = part_name Shown s number (total_of parts) in
    let times = times_of parts number in
    let piece = part_in (sections.Texts Shown) l s name times part in
    let same : 1 + (number - 1) ≡ number = omega (arith, first) in
    let shown : IsOn (number_in (sections.Texts Shown) l s parts number) piece =
    on_left _ _ piece
    (subst (λ o. IsOn (shown_in (sections.Texts Shown) l s name (missing_reason l parts) times o) piece) (sym is) (on_itself piece)) in
    let all : IsOn (by_number (sections.Texts Shown) l s parts) piece =
    on_right _ _ piece (on_range (number_in (sections.Texts Shown) l s parts) 1 (total_of parts) (number - 1) piece
    (omega (arith, first, last)) (subst (λ n. IsOn (number_in (sections.Texts Shown) l s parts n) piece) (sym same) shown)) in
    page_has l s parts piece
    (subst (λ b. IsOn (if b then by_number (sections.Texts Shown) l s parts else as_they_came (sections.Texts Shown) l s 1 0 parts) piece)
    (sym agree) all)

its_number : (numbers : PartNumbers) → is_number numbers.part (Some numbers) ≡ true
its_number numbers = grind (arith, nat_tests)

-- what the law says of a page
abbrev IsNotHidden : Language → Day → List DamagedPart → DamagedPart → DamagedText → Type 0
IsNotHidden l s parts part shown =
    (name : PartName) × (best : DamagedPart) × (text : DamagedText) × IsTrue (is_number name.part part.numbers)
    × IsTrue (is_number name.part best.numbers) × Contains parts best × (shown_text best ≡ Some text)
    × HasLettersOf text shown × (lost_in text ≤ lost_in shown) × (name.results ≡ Shown)
    × IsOn (receive_text Shown l s parts) (read_text l (sheet_to_receive (day_model s)) s name text)

same_number : (one : Option PartNumbers) (numbers : PartNumbers) → is_same_part one (Some numbers) ≡ true
    → is_number numbers.part one ≡ true
same_number None numbers is = absurd (false≢true is)
same_number (Some own) numbers is = grind (arith, nat_tests, cases_Bool, is)

hidden_by_none : (l : Language) (s : Day) (parts : List DamagedPart) (part kept : DamagedPart) (shown : DamagedText)
    (numbers : PartNumbers) (one : Bool) → is_one_message parts ≡ one → is_number numbers.part part.numbers ≡ true
    → Contains parts kept → IsWithin (shown_text kept) shown → kept.numbers ≡ Some numbers → 1 ≤ numbers.part
    → numbers.part ≤ numbers.parts → IsNotHidden l s parts part shown
hidden_by_none l s parts part kept shown numbers true one its there within number first last =
    let both = and_parts (are_of_one_message parts) (are_covered parts parts) one in
    let told = best_told parts kept numbers within.text both.1 there number within.is in
    let all = within_further (shown_text told.best) within.text shown within.has within.no_more told.within in
    let total = total_is parts kept numbers both.0 there number in
    let name = part_name Shown s numbers.part (total_of parts) in (
      name,
      told.best,
      all.text,
      its,
      shown_numbered numbers.part parts told.best told.is,
      shown_holds (Contains parts) numbers.part parts told.best (All-contains_itself parts) told.is,
      all.is,
      all.has,
      all.no_more,
      refl,
      on_part _ _ _
          (number_on_page l s parts numbers.part told.best one first (omega (arith, last, total)) told.is)
          (text_on_part l s name (times_of parts numbers.part) told.best all.text all.is),
    )
hidden_by_none l s parts part kept shown numbers false one its there within number first last =
    let (at, on) = came_there l s 1 0 parts kept numbers there number in
    let name = name_at Shown s at numbers in
    let piece = read_text l (sheet_to_receive (day_model s)) s name within.text in
    let all : IsOn (as_they_came (sections.Texts Shown) l s 1 0 parts) piece =
    on_part _ _ _ on (text_on_part l s name 1 kept within.text within.is) in (
      name,
      kept,
      within.text,
      its,
      ap (is_number numbers.part) number ∙ its_number numbers,
      there,
      within.is,
      within.has,
      within.no_more,
      refl,
      page_has l s parts piece
          (subst (λ b. IsOn (if b then by_number (sections.Texts Shown) l s parts else as_they_came (sections.Texts Shown) l s 1 0 parts) piece)
          (sym one) all),
    )

pub nothing_hidden : NothingReadIsHidden
nothing_hidden l s form parts read part shown there is =
    let kept = subst (λ all. IsKeptIn all part shown) (sym read.chosen)
    (kept_or_alone read.alone read.again part shown (are_kept read.alone read.again) refl there is) in
    let (bytes, all) = read_somehow s form parts read in
    let (placed, one) = read_of s bytes parts kept.kept all kept.there in
    let (numbers, number, first, last) = number_there s placed kept.kept kept.within.text one kept.within.is in
    let its = same_number part.numbers numbers
    (ap (is_same_part part.numbers) (sym number) ∙ kept.same) in
    hidden_by_none l s parts part kept.kept shown numbers (is_one_message parts) refl its kept.there kept.within number
    first last

-- -------- a whole message

known_letters : (items : List (Option ℕ)) → All (λ got. got ≢ None) items → (letters : List ℕ) × (items ≡ map Some letters)
known_letters [] all = ([], refl)
known_letters (None ∷ items) all = absurd (All-head (λ (got : Option ℕ). got ≢ None) None items all refl)
known_letters (Some letter ∷ items) all =
    let rest = known_letters items (All-tail (λ (got : Option ℕ). got ≢ None) (Some letter) items all) in
    (letter ∷ rest.0, ap (λ l. Some letter ∷ l) rest.1)

pub whole_under : (found : Option DamagedPart) → MatchOption found ⊥ IsReadWhole
    → (part : DamagedPart) × (found ≡ Some part) × IsReadWhole part
whole_under None whole = absurd whole
whole_under (Some part) whole = (part, refl, whole)

clear_joined : (h c b t e w a x : List ℕ)
    → h ++ c ++ (b ++ t ++ e ++ w ++ a) ++ x ≡ [] ++ (h ++ c ++ (b ++ t ++ e)) ++ (w ++ a ++ x)
clear_joined h c b t e w a x = grind (arith, append_assoc)

clear_on_part : (l : Language) (s : Day) (name : PartName) (times : ℕ) (part : DamagedPart) (shown : DamagedText)
    (letters : List ℕ) → name.results ≡ Shown → part.text ≡ Ok shown → shown.letters.items ≡ map Some letters
    → IsOn (part_in (sections.Texts Shown) l s name times part) (clear_text l s name times letters)
unfolding read_text
clear_on_part l s name times part shown letters shows is known =
    let bytes : text_letters name.results s shown.letters.items ≡ plaintext_bytes s letters =
    ap (λ r. text_letters r s shown.letters.items) shows ∙ ap (map (shown_byte (space_letter s))) known
    ∙ shown_known s letters in
    let head = text_part_head l name in
    let came = came_text l times in
    let begin = text_begin name.model in
    let warnings = warnings_text l (sheet_to_receive (day_model s)) (warnings_of shown) in
    let asked = group_requests l name shown in (
      [],
      warnings ++ asked ++ SECTION_END.now,
      ap (λ t. head ++ came ++ text_or_damage l s name part t ++ SECTION_END.now) is
          ∙ ap (λ t. head ++ came ++ (begin ++ t ++ TEXT_END.now ++ warnings ++ asked) ++ SECTION_END.now) bytes
          ∙ clear_joined head came begin (plaintext_bytes s letters) TEXT_END.now warnings asked SECTION_END.now,
    )

pub whole_on_page : WholeMessagesAreOnThePage
whole_on_page l s parts number whole first last =
    let same : 1 + (number - 1) ≡ number = omega (arith, first) in
    let (part, found, read) = whole_under (shown_under parts number)
    (subst (IsNumberWhole parts) same
    (at_range (IsNumberWhole parts) 1 (total_of parts) (number - 1) (omega (arith, first, last)) whole.each)) in
    let (shown, is, all) = read in
    let (letters, known) = known_letters shown.letters.items all in
    let name = part_name Shown s number (total_of parts) in (
      letters,
      ap letters_of_part found ∙ ap letters_in is ∙ known,
      on_part _ _ _ (number_on_page l s parts number part whole.one_message first last found)
          (clear_on_part l s name (times_of parts number) part shown letters refl is known),
    )
