-- A form that `desk receive` reads is one whole message.
use Rattle.std.proofs.Common.{◌≡◌, ◌≢◌, ◌∙◌, inl, inr, ℕ, zero, suc, ◌+◌, ◌-◌, ◌<◌, ◌≤◌, ◌&&◌, nat_le, IsFalse}
use Rattle.std.proofs.Common.{Bool, true, false, List, [], ◌∷◌, ◌++◌, All, arith, refl, sym, ap, subst, map, Option, Some}
use Rattle.std.proofs.Common.{None, Ok, if◌then◌else◌, MatchOption, flat_map}
use Rattle.std.proofs.lemmas.Bool.{Decides.nat_tests, cases_Bool}
use Rattle.std.proofs.lemmas.List.Elements.{All-cons, All-head, All-nil, All-tail}
use Rattle.std.specs.List.{range_with_len}
use Rattle.kd_state.specs.SheetDay.{Day}
use Rattle.kd_form.specs.FormParts.{parts_of}
use Rattle.kd_form.specs.FormText.{IsAnswerAt, ReadsPartsTo, first_part_start, next_part_start}
use Rattle.kd_form.specs.PartReading.{IsExpectedCount, IsPartAnswer, PartStart, ReadPart}
use Rattle.kd_form.specs.Sending.{space_letter}
use Rattle.kd_lost.specs.declared.damaged_text.DamagedText.{DamagedText}
use Rattle.kd_lost.specs.declared.damaged_text.GroupTest.TheVariants.{Right}
use Rattle.kd_lost.specs.declared.part.{DamagedPart.{DamagedPart}, PartNumbers.{PartNumbers}}
use Rattle.kd_lost.specs.DamagedForm.{IsReadOf, letters_in}
use Rattle.kd_lost.specs.DamagedForm.{shown_byte, shown_letters}
use Rattle.kd_lost.specs.DamagedPart.{AreNumbersRead, IsDamagedTextAnswer, first_line}
use Rattle.kd_lost.specs.Lost.{is_lost}
use Rattle.kd_lost.proofs.CompletedParts.{read_as_it_stands}
use Rattle.kd_lost.proofs.KnownLetters.{none_lost}
use Rattle.kd_lost.proofs.Forms.{AreAllReadOf, all_read}
use Rattle.kd_lost.proofs.Counting.{numbers_given}
use Rattle.kd_lost.proofs.WholeForms.{as_it_stands, forms_shown, parts_kept, same_parts}
use Rattle.kd_lost.proofs.WholeParts.{numbers_there, shown_whole, whole_part}
use Rattle.kd_message.specs.Laws.{FormsReadAreWhole, letters_of_part, message_letters}
use Rattle.kd_lost.specs.OneMessage.{agrees_with_each, are_of_one_message, numbers_agree, headings_agree, may_repeat}
use Rattle.kd_lost.specs.ShownParts.{IsNumberWhole, IsReadWhole, MayBeOfTheDay, are_covered, better, is_covered, is_covered_by}
use Rattle.kd_lost.specs.ShownParts.{is_number, is_one_message, parts_or, shown_under, text_in, total_of}
use Rattle.kd_lost.specs.Texts.{is_wrong_day, letter_within, letters_within, lost_in, shown_text, test_or, text_or, text_within}
use Rattle.kd_lost.proofs.ShownParts.{range_first}

-- -------- parts in the order of their numbers

-- the parts have the numbers from `number` to `total`, one after another
abbrev pub AreInOrder : ℕ → ℕ → List DamagedPart → Type 0
AreInOrder total number [] = number ≡ total + 1
AreInOrder total number (part ∷ parts) =
    (numbers : PartNumbers) × (part.numbers ≡ Some numbers) × (numbers.part ≡ number) × (numbers.parts ≡ total)
    × AreInOrder total (number + 1) parts

in_order_few : (total number : ℕ) (parts : List DamagedPart) → AreInOrder total number parts → number ≤ total + 1
in_order_few total number [] are = omega (arith, are)
in_order_few total number (part ∷ parts) (numbers, there, numbered, counted, rest) =
    omega (arith, in_order_few total (number + 1) parts rest)

in_order_total : (total number : ℕ) (part : DamagedPart) (parts : List DamagedPart)
    → AreInOrder total number (part ∷ parts) → total_of (part ∷ parts) ≡ total
in_order_total total number part parts (numbers, there, numbered, counted, rest) =
    ap (parts_or (total_of parts)) there ∙ counted

-- -------- they are of one message

numbers_apart : (one other : PartNumbers) (agree : Bool) → one.parts ≡ other.parts → one.part < other.part
    → numbers_agree one other agree ≡ true
numbers_apart one other agree parts part = grind (arith, nat_tests, cases_Bool)

agrees_with_later : (total number : ℕ) (part : DamagedPart) (numbers : PartNumbers) (parts : List DamagedPart)
    → part.numbers ≡ Some numbers → numbers.parts ≡ total → numbers.part < number → AreInOrder total number parts
    → agrees_with_each part parts ≡ true
agrees_with_later total number part numbers [] there counted before are = refl
agrees_with_later total number part numbers (other ∷ others) there counted before (its, is, numbered, total_is, rest) =
    let agree = may_repeat part other in
    let one : headings_agree part.numbers other.numbers agree ≡ true =
    ap (λ n. headings_agree n other.numbers agree) there ∙ ap (λ n. headings_agree (Some numbers) n agree) is
    ∙ numbers_apart numbers its agree (counted ∙ sym total_is) (omega (arith, before, numbered)) in
    ap (λ b. b && agrees_with_each part others) one
    ∙ agrees_with_later total (number + 1) part numbers others there counted (omega (arith, before)) rest

in_order_agree : (total number : ℕ) (parts : List DamagedPart) → AreInOrder total number parts
    → are_of_one_message parts ≡ true
in_order_agree total number [] are = refl
in_order_agree total number (part ∷ parts) (numbers, there, numbered, counted, rest) =
    ap (λ b. b && are_of_one_message parts)
    (agrees_with_later total (number + 1) part numbers parts there counted (omega (arith, numbered)) rest)
    ∙ in_order_agree total (number + 1) parts rest

some_number : (found : Option PartNumbers) (numbers : PartNumbers) → found ≡ Some numbers → found ≢ None
some_number found numbers is none = absurd (cc)

in_order_numbered : (total number : ℕ) (parts : List DamagedPart) → AreInOrder total number parts
    → All (λ part. part.numbers ≢ None) parts
in_order_numbered total number [] are = All-nil (λ part. part.numbers ≢ None)
in_order_numbered total number (part ∷ parts) (numbers, there, numbered, counted, rest) =
    All-cons (λ (one : DamagedPart). one.numbers ≢ None) part parts (some_number part.numbers numbers there)
    (in_order_numbered total (number + 1) parts rest)

-- -------- the part that is shown under each number

its_number : (numbers : PartNumbers) (number : ℕ) → numbers.part ≡ number → is_number number (Some numbers) ≡ true
its_number numbers number is = grind (arith, nat_tests)

other_number : (numbers : PartNumbers) (number : ℕ) → number ≢ numbers.part → is_number number (Some numbers) ≡ false
other_number numbers number off = grind (arith, nat_tests, cases_Bool)

shown_later : (total number later : ℕ) (part : DamagedPart) (parts : List DamagedPart) → number ≢ later
    → AreInOrder total number (part ∷ parts) → shown_under (part ∷ parts) later ≡ shown_under parts later
shown_later total number later part parts off (numbers, there, numbered, counted, rest) =
    ap (λ b. if b then better part (shown_under parts later) else shown_under parts later)
    (ap (is_number later) there ∙ other_number numbers later (λ is. off (sym numbered ∙ sym is)))

none_before : (total number before : ℕ) (parts : List DamagedPart) → before < number → AreInOrder total number parts
    → shown_under parts before ≡ None
none_before total number before [] less are = refl
none_before total number before (part ∷ parts) less are =
    let off : number ≢ before = λ is. absurd (omega (arith, is, less)) in
    shown_later total number before part parts off are
    ∙ none_before total (number + 1) before parts (omega (arith, less)) are.4

shown_first : (total number : ℕ) (part : DamagedPart) (parts : List DamagedPart)
    → AreInOrder total number (part ∷ parts) → shown_under (part ∷ parts) number ≡ Some part
shown_first total number part parts (numbers, there, numbered, counted, rest) =
    ap (λ b. if b then better part (shown_under parts number) else shown_under parts number)
    (ap (is_number number) there ∙ its_number numbers number numbered)
    ∙ ap (better part) (none_before total (number + 1) number parts (omega arith) rest)

pub All_range : (P Q : ℕ → Type 0) (from count : ℕ) → ((m : ℕ) → from ≤ m → P m → Q m)
    → All P (range_with_len from count) → All Q (range_with_len from count)
All_range P Q from zero weaker all = All-nil Q
All_range P Q from (suc count) weaker all =
    let later = range_with_len (from + 1) (suc count - 1) in
    let first = range_first from (suc count) (omega arith) in
    let split = subst (All P) first all in
    let step : suc count - 1 ≡ count = omega arith in
    subst (All Q) (sym first) (All-cons Q from later (weaker from (omega arith) (All-head P from later split))
    (subst (λ n. All Q (range_with_len (from + 1) n)) (sym step)
    (All_range P Q (from + 1) count (λ m least. weaker m (omega (arith, least)))
    (subst (λ n. All P (range_with_len (from + 1) n)) step (All-tail P from later split)))))

flat_map_range : {A : Type 0} (f g : ℕ → List A) (from count : ℕ) → ((m : ℕ) → from ≤ m → f m ≡ g m)
    → flat_map f (range_with_len from count) ≡ flat_map g (range_with_len from count)
flat_map_range f g from zero same = refl
flat_map_range f g from (suc count) same =
    let first = range_first from (suc count) (omega arith) in
    let step : suc count - 1 ≡ count = omega arith in
    let rest : ℕ → List ℕ = λ n. range_with_len (from + 1) n in
    ap (flat_map f) first ∙ ap (λ n. f from ++ flat_map f (rest n)) step
    ∙ ap (λ l. l ++ flat_map f (rest count)) (same from (omega arith))
    ∙ ap (λ l. g from ++ l) (flat_map_range f g (from + 1) count (λ m least. same m (omega (arith, least))))
    ∙ ap (λ n. g from ++ flat_map g (rest n)) (sym step) ∙ ap (flat_map g) (sym first)

same_shown : (parts : List DamagedPart) (number : ℕ) (other : Option DamagedPart) → shown_under parts number ≡ other
    → MatchOption other ⊥ IsReadWhole → IsNumberWhole parts number
same_shown parts number other is holds = subst (λ o. MatchOption o ⊥ IsReadWhole) (sym is) holds

in_order_whole : (total number count : ℕ) (parts : List DamagedPart) → number + count ≡ total + 1
    → AreInOrder total number parts → All IsReadWhole parts
    → All (IsNumberWhole parts) (range_with_len number count)
in_order_whole total number count [] sum are whole =
    let none : 0 ≡ count = omega (arith, sum, are) in
    subst (λ n. All (IsNumberWhole []) (range_with_len number n)) none (All-nil (IsNumberWhole []))
in_order_whole total number count (part ∷ parts) sum are whole =
    let some : 0 < count = omega (arith, sum, in_order_few total (number + 1) parts are.4) in
    let later = range_with_len (number + 1) (count - 1) in
    subst (All (IsNumberWhole (part ∷ parts))) (sym (range_first number count some))
    (All-cons (IsNumberWhole (part ∷ parts)) number later
    (same_shown (part ∷ parts) number (Some part) (shown_first total number part parts are)
    (All-head IsReadWhole part parts whole))
    (All_range (IsNumberWhole parts) (IsNumberWhole (part ∷ parts)) (number + 1) (count - 1)
    (λ m least is. same_shown (part ∷ parts) m (shown_under parts m)
    (shown_later total number m part parts (λ same. absurd (omega (arith, same, least))) are) is)
    (in_order_whole total (number + 1) (count - 1) parts (omega (arith, sum, some)) are.4
    (All-tail IsReadWhole part parts whole))))

in_order_letters : (total number count : ℕ) (parts : List DamagedPart) → number + count ≡ total + 1
    → AreInOrder total number parts
    → flat_map (λ m. letters_of_part (shown_under parts m)) (range_with_len number count) ≡ shown_letters parts
in_order_letters total number count [] sum are =
    let none : count ≡ 0 = omega (arith, sum, are) in
    ap (λ n. flat_map (λ m. letters_of_part (shown_under [] m)) (range_with_len number n)) none
in_order_letters total number count (part ∷ parts) sum are =
    let some : 0 < count = omega (arith, sum, in_order_few total (number + 1) parts are.4) in
    let rest = range_with_len (number + 1) (count - 1) in
    let all : ℕ → List (Option ℕ) = λ m. letters_of_part (shown_under (part ∷ parts) m) in
    let others : ℕ → List (Option ℕ) = λ m. letters_of_part (shown_under parts m) in
    ap (flat_map all) (range_first number count some)
    ∙ ap (λ o. letters_of_part o ++ flat_map all rest) (shown_first total number part parts are)
    ∙ ap (λ l. letters_in part.text ++ l)
    (flat_map_range all others (number + 1) (count - 1)
    (λ m least. ap letters_of_part
    (shown_later total number m part parts (λ same. absurd (omega (arith, same, least))) are))
    ∙ in_order_letters total (number + 1) (count - 1) parts (omega (arith, sum, some)) are.4)

-- -------- each part has all letters of its own text

letter_in_itself : (letter : Option ℕ) → letter_within letter letter ≡ true
letter_in_itself None = refl
letter_in_itself (Some letter) = grind (arith, nat_tests)

letters_in_themselves : (letters : List (Option ℕ)) → letters_within letters letters ≡ true
letters_in_themselves [] = refl
letters_in_themselves (letter ∷ letters) =
    ap (λ b. b && letters_within letters letters) (letter_in_itself letter) ∙ letters_in_themselves letters

within_itself : (text : Option DamagedText) → text_within text text ≡ true
within_itself None = refl
within_itself (Some text) =
    ap (λ b. b && nat_le (lost_in text) (lost_in text)) (letters_in_themselves text.letters.items)
    ∙ grind (arith, nat_tests)

in_order_covered : (total number : ℕ) (all parts : List DamagedPart) → AreInOrder total number parts
    → ((m : ℕ) → number ≤ m → shown_under all m ≡ shown_under parts m) → are_covered all parts ≡ true
in_order_covered total number all [] are same = refl
in_order_covered total number all (part ∷ parts) are same =
    let (numbers, there, numbered, counted, rest) = are in
    let found : shown_under all numbers.part ≡ Some part =
    ap (shown_under all) numbered ∙ same number (omega arith) ∙ shown_first total number part parts are in
    let here : is_covered all part ≡ true =
    ap (is_covered_by all (shown_text part)) there ∙ ap (λ o. text_within (shown_text part) (text_in o)) found
    ∙ within_itself (shown_text part) in
    ap (λ b. b && are_covered all parts) here
    ∙ in_order_covered total (number + 1) all parts rest
    (λ m least. same m (omega (arith, least))
    ∙ shown_later total number m part parts (λ is. absurd (omega (arith, is, least))) are)

in_order_one : (total number : ℕ) (parts : List DamagedPart) → AreInOrder total number parts
    → is_one_message parts ≡ true
in_order_one total number parts are =
    ap (λ b. b && are_covered parts parts) (in_order_agree total number parts are)
    ∙ in_order_covered total number parts parts are (λ m least. refl)

-- -------- a form that `desk receive` reads

right_day : (part : DamagedPart) (shown : DamagedText) → part.text ≡ Ok shown → shown.group ≡ Right → MayBeOfTheDay part
right_day part shown is right =
    ap (λ t. is_wrong_day (test_or part.group (text_or t part.by_count))) is ∙ ap is_wrong_day right

-- the part is shown whole, under its number
record IsShownAs (one : DamagedPart) (number : ℕ) (read : ReadPart) : Type 0 where
  pub numbers : PartNumbers
  pub there : one.numbers ≡ Some numbers
  pub numbered : numbers.part ≡ number
  pub counted : numbers.parts ≡ read.parts
  pub whole : IsReadWhole one
  pub of_the_day : MayBeOfTheDay one

shown_as : (s : Day) (p : PartStart) (part : List ℕ) (read : ReadPart) (one : DamagedPart)
    → IsPartAnswer s p part (Ok read) → IsReadOf s part one → IsShownAs one p.number read
shown_as s p part read one is of =
    let stands = as_it_stands s p part read one is of in
    let (shown, told, whole) = shown_whole s p part read one.text is
    (subst (λ l. IsDamagedTextAnswer s l one.text) stands of.as_meant.text) in
    let (numbers, there, numbered, counted) = numbers_there s p part read one.numbers is
    (subst (λ l. AreNumbersRead s (first_line l) one.numbers) stands
    (numbers_given s of.meant one shown told of.as_meant)) in
    let known = subst (All (λ (got : Option ℕ). got ≢ None)) (sym whole.letters) (none_lost read.letters) in
    record {
      numbers = numbers;
      there = there;
      numbered = numbered;
      counted = counted;
      whole = (shown, told, known);
      of_the_day = right_day one shown told whole.group;
    }

-- what holds of the parts of a form that `desk receive` reads
record AreAllWhole (total number : ℕ) (parts : List DamagedPart) : Type 0 where
  pub in_order : AreInOrder total number parts
  pub whole : All IsReadWhole parts
  pub of_the_day : All MayBeOfTheDay parts

module _ (s : Day) where
  read_in_order : (p : PartStart) (total : ℕ) (parts : List (List ℕ)) (letters : List ℕ) (reads : List DamagedPart)
      → p.expected ≡ Some total → ReadsPartsTo s (IsAnswerAt s (Ok tt)) p parts letters → AreAllReadOf s parts reads
      → AreAllWhole total p.number reads
  read_in_order p total [] letters [] expected ((count, is, due), none) are =
      let same : count ≡ total = let e : Some count ≡ Some total = sym is ∙ expected in cc in record {
        in_order = due ∙ ap (λ n. n + 1) same;
        whole = All-nil IsReadWhole;
        of_the_day = All-nil MayBeOfTheDay;
      }
  read_in_order p total [] letters (one ∷ reads) expected read are = absurd are
  read_in_order p total (part ∷ parts) letters [] expected read are = absurd are
  read_in_order p total (part ∷ parts) letters (one ∷ reads) expected (inl (fault, none)) are =
      let off = fault.2 in absurd (cc)
  read_in_order p total (part ∷ parts) letters (one ∷ reads) expected (inr (read, more, is, rest, joined)) are =
      let same : total ≡ read.parts =
      subst (λ e. IsExpectedCount e read.parts) expected (whole_part s p part read is).expected in
      let its = shown_as s p part read one is are.0 in
      let others = read_in_order (next_part_start p read.parts part) total parts more reads (ap Some (sym same)) rest are.1 in
      record {
        in_order = (its.numbers, its.there, its.numbered, its.counted ∙ sym same, others.in_order);
        whole = All-cons IsReadWhole one reads its.whole others.whole;
        of_the_day = All-cons MayBeOfTheDay one reads its.of_the_day others.of_the_day;
      }

  first_in_order : (parts : List (List ℕ)) (part letters : List ℕ) (reads : List DamagedPart)
      → ReadsPartsTo s (IsAnswerAt s (Ok tt)) first_part_start (part ∷ parts) letters
      → AreAllReadOf s (part ∷ parts) reads → (total : ℕ) × (0 < total) × (total_of reads ≡ total) × AreAllWhole total 1 reads
  first_in_order parts part letters [] read are = absurd are
  first_in_order parts part letters (one ∷ reads) (inl (fault, none)) are = let off = fault.2 in absurd (cc)
  first_in_order parts part letters (one ∷ reads) (inr (read, more, is, rest, joined)) are =
      let its = shown_as s first_part_start part read one is are.0 in
      let others = read_in_order (next_part_start first_part_start read.parts part) read.parts parts more reads refl rest are.1 in
      let order : AreInOrder read.parts 1 (one ∷ reads) =
      (its.numbers, its.there, its.numbered, its.counted, others.in_order) in
      let few = in_order_few read.parts 2 reads others.in_order in (
        read.parts,
        omega (arith, few),
        in_order_total read.parts 1 one reads order,
        record {
          in_order = order;
          whole = All-cons IsReadWhole one reads its.whole others.whole;
          of_the_day = All-cons MayBeOfTheDay one reads its.of_the_day others.of_the_day;
        },
      )

pub forms_whole : FormsReadAreWhole
forms_whole s form text reads is completed =
    let (parts, (letters, read, made), joined) = is in
    let kept = subst (All (All (λ b. IsFalse (is_lost b)))) (sym (same_parts s form text is))
    (parts_kept s first_part_start (parts_of form) letters read) in
    let are = read_as_it_stands s form reads kept completed in
    let there = subst (λ l. AreAllReadOf s l reads) (same_parts s form text is) (all_read s form reads are) in
    let (total, some, counted, all) = first_in_order s _ _ letters reads read there in
    let shown = forms_shown s form text reads is are in
    let letters_are : message_letters reads ≡ shown_letters reads =
    ap (λ n. flat_map (λ m. letters_of_part (shown_under reads m)) (range_with_len 1 n)) counted
    ∙ in_order_letters total 1 total reads (omega arith) all.in_order in (
      record {
        one_message = in_order_one total 1 reads all.in_order;
        numbered = in_order_numbered total 1 reads all.in_order;
        of_the_day = all.of_the_day;
        some = omega (arith, some, counted);
        each = subst (λ n. All (IsNumberWhole reads) (range_with_len 1 n)) (sym counted)
            (in_order_whole total 1 total reads (omega arith) all.in_order all.whole);
      },
      shown.1 ∙ ap (λ l. map (shown_byte (space_letter s)) l ++ 10 ∷ []) (sym letters_are),
    )
