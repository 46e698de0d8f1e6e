-- A whole message in which nothing was lost is one that `desk receive` reads, if its parts stand in order.
use Rattle.std.proofs.Common.{◌≡◌, ◌≢◌, ◌∙◌, ◌⊎◌, inl, inr, ℕ, zero, suc, ◌+◌, ◌-◌, ◌≤◌, true, List, []}
use Rattle.std.proofs.Common.{◌∷◌, ◌++◌, All, Any, IsTrue, IsFalse, arith, refl, sym, ap, subst, map, drop, take, length, flat_map, get_or}
use Rattle.std.proofs.Common.{Option, Some, None, Ok}
use Rattle.std.proofs.lemmas.Bool.{Decides.nat_tests, and_parts, cases_eq, false≢true}
use Rattle.std.proofs.lemmas.List.{drop-drop, drop-take, map-append, take-append-drop, take-take}
use Rattle.std.proofs.lemmas.List.Elements.{All-contains_itself, All-cons, All-head, All-nil, All-tail, All-weaker}
use Rattle.std.specs.List.{Contains, range_with_len, slice_range}
use Rattle.std.specs.Prelude.{IfOk}
use Rattle.kd_tables.specs.Text.{is_text_byte}
use Rattle.kd_state.specs.AnswerRules.{GoesOn}
use Rattle.kd_tables.specs.LineWords.{IsFirstPart, line_of}
use Rattle.kd_state.specs.SheetDay.{AreADaysGroup, Day}
use Rattle.kd_state.proofs.OneAnswer.{ThenNext-Ok}
use Rattle.kd_form.specs.declared.heading.{Heading.{Heading}, Indicator.{Indicator}}
use Rattle.kd_form.specs.BodyCipher.{IsLettersAnswer, group_of_body, list_of_body}
use Rattle.kd_form.specs.FormParts.{HasFirstLine, IsHeading, IsLineText}
use Rattle.kd_form.specs.FormText.{IsAnswerAt, ReadsPartsTo, first_part_start, next_part_start}
use Rattle.kd_form.specs.Part.{heading_words}
use Rattle.kd_form.specs.PartMaking.{list_letters}
use Rattle.kd_form.specs.PartReading.{IsExpectedCount, IsPartAnswer, PartContent, PartStart, ReadPart}
use Rattle.kd_form.specs.Sending.{IsBytesAnswer, letters_from, space_letter}
use Rattle.kd_lost.specs.declared.damaged_text.DamagedText.{DamagedText}
use Rattle.kd_lost.specs.declared.damaged_text.GroupTest.{GroupTest}
use Rattle.kd_lost.specs.declared.damaged_text.GroupTest.TheVariants.{Wrong}
use Rattle.kd_lost.specs.declared.part.{DamagedPart.{DamagedPart}, PartNumbers.{PartNumbers}}
use Rattle.kd_lost.specs.DamagedForm.{IsReadOf, form_parts, letters_in, shown_byte}
use Rattle.kd_lost.proofs.Counting.{numbers_given}
use Rattle.kd_lost.proofs.Forms.{AreAllReadOf, all_read as all_read_of}
use Rattle.kd_lost.specs.DamagedPart.{AreNumbersRead, IsDamagedHeading, IsDamagedTextAnswer, IsPartShown, body_of}
use Rattle.kd_lost.specs.DamagedPart.{first_line, numbers_of}
use Rattle.kd_lost.specs.DamagedText.{AreWarnings, GroupLost, GroupRight, GroupWrong, IsGroupTest, IsListTest, IsTextShown}
use Rattle.kd_lost.specs.DamagedText.{ListLost, ListRight, ListWrong}
use Rattle.kd_lost.specs.Lost.{AnyLetter, AsReceived, Completes, IsCompletion, is_lost}
use Rattle.kd_lost.specs.Lost.{received_letters}
use Rattle.kd_lost.specs.WholePart.{IsLettersText, IsPartText, IsPinText}
use Rattle.kd_lost.proofs.FirmBytes.{IsFirm, firm_filled, received_all}
use Rattle.kd_lost.proofs.KnownLetters.{drop_known, known_length, none_lost_in_both}
use Rattle.kd_lost.proofs.KnownLetters.{not_any_lost, same_known, take_known}
use Rattle.kd_lost.proofs.Parts.{lines_there}
use Rattle.kd_lost.proofs.PartShown.{least_count, shown_there}
use Rattle.kd_lost.proofs.WholeForms.{shown_known}
use Rattle.kd_lost.proofs.WholeParts.{known_shown, same_heading}
use Rattle.kd_message.specs.Laws.{IsClear, WholeMessagesAreRead, letters_of_part}
use Rattle.kd_lost.specs.OneMessage.{are_of_one_message}
use Rattle.kd_lost.specs.ShownParts.{IsNumberWhole, IsWhole, MayBeOfTheDay, are_covered, is_number, shown_under, total_of}
use Rattle.kd_lost.specs.Texts.{is_wrong_day, test_or, text_or}
use Rattle.kd_lost.proofs.CompletedParts.{read_as_it_stands}
use Rattle.kd_message.proofs.PagesWhole.{at_range, shown_numbered, total_is, whole_under}
use Rattle.kd_message.proofs.ReceivePages.{shown_holds}
use Rattle.kd_lost.proofs.ShownParts.{range_first}

-- -------- bytes of which none is lost

clear_not_lost : (byte : ℕ) → IsFalse (is_lost byte) → IsTrue (is_lost byte) → ⊥
clear_not_lost byte kept lost = absurd (false≢true (sym kept ∙ lost))

clear_whole : (part whole : List ℕ) → IsClear part → IsCompletion part whole → whole ≡ part
clear_whole [] [] clear is = refl
clear_whole [] (x ∷ whole) clear is = absurd is
clear_whole (byte ∷ part) [] clear is = absurd is
clear_whole (byte ∷ part) (x ∷ whole) clear (AnyLetter lost capital, rest) =
    absurd (clear_not_lost byte (All-head IsFirm byte part clear).0 lost)
clear_whole (byte ∷ part) (x ∷ whole) clear (AsReceived kept is, rest) =
    let here : x ≡ byte = is ∙ (All-head IsFirm byte part clear).1 in
    let more = clear_whole part whole (All-tail IsFirm byte part clear) rest in
    λ i. here i ∷ more i

clear_front : (line rest : List ℕ) → IsClear (line ++ rest) → IsClear line
clear_front [] rest clear = All-nil IsFirm
clear_front (byte ∷ line) rest clear =
    All-cons IsFirm byte line (All-head IsFirm byte (line ++ rest) clear)
    (clear_front line rest (All-tail IsFirm byte (line ++ rest) clear))

clear_back : (line rest : List ℕ) → IsClear (line ++ rest) → IsClear rest
clear_back [] rest clear = clear
clear_back (byte ∷ line) rest clear = clear_back line rest (All-tail IsFirm byte (line ++ rest) clear)

all_bytes : (position : ℕ) (body : List ℕ) → All (λ byte. IsTrue (is_text_byte byte)) body
    → IsBytesAnswer position body (Ok tt)
all_bytes position [] allowed = refl
all_bytes position (byte ∷ body) allowed =
    GoesOn tt (All-head (λ byte. IsTrue (is_text_byte byte)) byte body allowed)
    (all_bytes (position + 1) body (All-tail (λ byte. IsTrue (is_text_byte byte)) byte body allowed))

-- -------- the letters of a body of which none is lost

a_group : (s : Day) (letters : List ℕ) (test : GroupTest) → IsGroupTest s (slice_range (map Some letters) 2 5) test
    → test ≢ Wrong → AreADaysGroup s (group_of_body letters)
a_group s letters test (GroupRight others is has right) off =
    let known = ap (take 3) (drop_known 2 letters) ∙ take_known 3 (drop 2 letters) in
    subst (AreADaysGroup s) (sym (same_known (group_of_body letters) others (sym known ∙ is))) has
a_group s letters test (GroupWrong others is bad wrong) off = absurd (off wrong)
a_group s letters test (GroupLost some lost) off =
    let known = ap (take 3) (drop_known 2 letters) ∙ take_known 3 (drop 2 letters) in
    absurd (not_any_lost (group_of_body letters) (subst (Any (λ got. got ≡ None)) known some))

completed : (letters due : List ℕ) → Completes (map Some letters) due → letters ≡ due
completed [] [] is = refl
completed [] (y ∷ due) is = absurd is
completed (x ∷ letters) [] is = absurd is
completed (x ∷ letters) (y ∷ due) (is, rest) =
    let here : x ≡ y = sym is in let more = completed letters due rest in λ i. here i ∷ more i

a_list : (due one other : List ℕ) (test : GroupTest) → IsListTest due (map Some one) (map Some other) test
    → test ≢ Wrong → (one ≡ due) × (other ≡ due)
a_list due one other test (ListWrong bad is) off = absurd (off is)
a_list due one other test (ListLost fits others lost is) off = absurd (none_lost_in_both one (map Some other) lost)
a_list due one other test (ListRight fits others kept is) off = (completed one due fits, completed other due others)

pin_answer : (s : Day) (number : ℕ) (letters text : List ℕ) (shown : DamagedText) → 20 ≤ length letters
    → IsPinText s letters text → AreWarnings s None (map Some letters) shown → shown.group ≢ Wrong
    → IsLettersAnswer s number None letters (Ok text)
pin_answer s number letters text shown some is warnings right =
    let n = length letters in
    let received = map Some letters in
    let size : length received ≡ n = known_length letters in
    let first_list : slice_range received 8 10 ≡ map Some (list_of_body letters) =
    ap (take 2) (drop_known 8 letters) ∙ take_known 2 (drop 8 letters) in
    let last_list : drop (length received - 2) received ≡ map Some (drop (n - 2) letters) =
    ap (λ m. drop (m - 2) received) size ∙ drop_known (n - 2) letters in
    let lists = subst (λ l. IsListTest (list_letters s) l (map Some (drop (n - 2) letters)) shown.group) first_list
    (subst (λ l. IsListTest (list_letters s) (slice_range received 8 10) l shown.group) last_list warnings.0) in
    let due = a_list (list_letters s) (list_of_body letters) (drop (n - 2) letters) shown.group lists right in
    let place : n - 10 + 8 ≡ n - 2 = omega (arith, some) in
    let front : take 10 letters ≡ take 8 letters ++ list_of_body letters =
    sym (take-append-drop 8 (take 10 letters))
    ∙ ap (λ l. l ++ drop 8 (take 10 letters)) (take-take 8 10 letters (omega arith))
    ∙ ap (λ l. take 8 letters ++ l) (drop-take 8 2 letters) in
    let end = drop (n - 10) letters in
    let back : drop 8 end ≡ drop (n - 2) letters = drop-drop 8 (n - 10) letters ∙ ap (λ m. drop m letters) place in
    let again : take 10 letters ≡ end =
    front ∙ ap (λ l. l ++ list_of_body letters) is.around.again
    ∙ ap (λ l. take 8 end ++ l) (due.0 ∙ sym due.1 ∙ sym back) ∙ take-append-drop 8 end in
    GoesOn tt (record { again = again; twice = is.around.twice })
    (GoesOn tt is.on_wheels (GoesOn tt due.0 (GoesOn is.internal is.is_key (ap Ok is.is))))

letters_read : (s : Day) (number : ℕ) (i : Option Indicator) (letters text : List ℕ) (shown : DamagedText)
    → (i ≡ None → 20 ≤ length letters) → IsLettersText s i letters text → IsTextShown s i (map Some letters) shown
    → shown.group ≢ Wrong
    → IsLettersAnswer s number i letters (Ok text) × (shown.letters.items ≡ map Some text)
letters_read s number (Some i) letters text shown some is given right = (
  GoesOn tt (a_group s letters shown.group given.warnings.0 right) (ap Ok is),
  known_shown s (Some i) letters text shown given is,
)
letters_read s number None letters text shown some is given right = (
  pin_answer s number letters text shown (some refl) is given.warnings right,
  known_shown s None letters text shown given is,
)

-- -------- a part of which no byte is lost

-- `desk receive` reads the part to the letters that are shown
record IsReadBack (s : Day) (p : PartStart) (part : List ℕ) (parts : ℕ) (shown : DamagedText) : Type 0 where
  pub text : List ℕ
  pub reads : IsPartAnswer s p part (Ok (record { parts = parts; letters = text }))
  pub letters : shown.letters.items ≡ map Some text

lines_read : (s : Day) (p : PartStart) (part line body text : List ℕ) (h : Heading) (numbers : PartNumbers)
    (shown : DamagedText) → IsFirstPart 10 part line body → IsHeading s h
    → IsLineText line (line_of (heading_words h)) → All (λ byte. IsTrue (is_text_byte byte)) body
    → length (letters_from None body) ≡ h.letters → IsLettersText s h.indicator (letters_from None body) text
    → IsClear part → AreNumbersRead s (first_line part) (Some numbers) → IsDamagedTextAnswer s part (Ok shown)
    → shown.group ≢ Wrong → numbers.part ≡ p.number → IsExpectedCount p.expected numbers.parts
    → IsReadBack s p part numbers.parts shown
lines_read s p part line body text h numbers shown first is line_text allowed counted is_text clear
    (other, other_headed, given) read right numbered expected =
    let letters = letters_from None body in
    let clear_lines = subst IsClear first.joined clear in
    let clear_line = clear_front line (10 ∷ body) clear_lines in
    let clear_body = All-tail IsFirm 10 body (clear_back line (10 ∷ body) clear_lines) in
    let there = lines_there line body first.without in
    let first_is : first_line part ≡ line = ap first_line first.joined ∙ there.0 in
    let rest_is : body_of part ≡ body = ap body_of first.joined ∙ there.1 in
    let filled = firm_filled line clear_line in
    let headed : IsDamagedHeading s line h =
    record { is_heading = is; text = subst (λ l. IsLineText l (line_of (heading_words h))) (sym filled) line_text } in
    let other_is : other ≡ h =
    same_heading s line body h other first.without filled headed
    (subst (λ l. IsDamagedHeading s l other) first_is other_headed) in
    let numbers_are : numbers ≡ numbers_of h = given ∙ ap numbers_of other_is in
    let one = ThenNext-Ok read in
    let found_is : one.found ≡ h =
    same_heading s line body h one.found first.without filled headed
    (subst (λ l. IsDamagedHeading s l one.found) first_is one.says) in
    let two = ThenNext-Ok one.next in
    let three = ThenNext-Ok two.next in
    let four = ThenNext-Ok three.next in
    let shown_is = shown_there s one.found.indicator (received_letters (body_of part)) shown four.next in
    let known : received_letters (body_of part) ≡ map Some letters =
    ap received_letters rest_is ∙ received_all body clear_body in
    let shown_there : IsTextShown s h.indicator (map Some letters) shown =
    subst (λ (g : Heading). IsTextShown s g.indicator (map Some letters) shown) found_is
    (subst (λ r. IsTextShown s one.found.indicator r shown) known shown_is) in
    let least = least_count s h.letters h.indicator is.letters is.indicator in
    let answer = letters_read s p.number h.indicator letters text shown (λ none. omega (arith, least.1 none, counted))
    is_text shown_there right in
    let content : PartContent = record { heading = h; body = body } in
    let made : ℕ → ReadPart = λ n. record { parts = n; letters = text } in
    let due_part : h.part ≡ p.number = sym (ap (λ (n : PartNumbers). n.part) numbers_are) ∙ numbered in
    let parts_are : numbers.parts ≡ h.parts = ap (λ (n : PartNumbers). n.parts) numbers_are in
    record {
      text = text;
      reads =
          GoesOn content
          (GoesOn content (record { is_heading = is; first = inl (line, first, line_text) })
          (GoesOn tt (record { numbered = due_part; as_expected = subst (IsExpectedCount p.expected) parts_are expected })
          (GoesOn tt (all_bytes _ body allowed) refl)))
          (GoesOn text (GoesOn tt counted answer.0) (ap (λ n. Ok (made n)) parts_are));
      letters = answer.1;
    }

first_read : (s : Day) (p : PartStart) (part body text : List ℕ) (h : Heading) (numbers : PartNumbers)
    (shown : DamagedText) → HasFirstLine part (line_of (heading_words h)) body → IsHeading s h
    → All (λ byte. IsTrue (is_text_byte byte)) body → length (letters_from None body) ≡ h.letters
    → IsLettersText s h.indicator (letters_from None body) text → IsClear part
    → AreNumbersRead s (first_line part) (Some numbers) → IsDamagedTextAnswer s part (Ok shown)
    → shown.group ≢ Wrong → numbers.part ≡ p.number → IsExpectedCount p.expected numbers.parts
    → IsReadBack s p part numbers.parts shown
first_read s p part body text h numbers shown (inl (line, first, line_text)) is allowed counted is_text clear given read
    right numbered expected =
    lines_read s p part line body text h numbers shown first is line_text allowed counted is_text clear given read right
    numbered expected
first_read s p part body text h numbers shown (inr (without, same, none)) is allowed counted is_text clear given read
    right numbered expected =
    let least = least_count s h.letters h.indicator is.letters is.indicator in
    absurd (omega (arith, least.0, counted, ap (λ b. length (letters_from None b)) none))

part_read : (s : Day) (p : PartStart) (part : List ℕ) (one : DamagedPart) (numbers : PartNumbers) (shown : DamagedText)
    → (of : IsReadOf s part one) → of.meant ≡ part → IsClear part → one.numbers ≡ Some numbers → one.text ≡ Ok shown
    → shown.group ≢ Wrong → numbers.part ≡ p.number → IsExpectedCount p.expected numbers.parts
    → IsReadBack s p part numbers.parts shown
part_read s p part one numbers shown of stands clear is_numbers is_text right numbered expected =
    let its : IsPartShown s part shown =
    subst (λ l. IsPartShown s l shown) stands (subst (λ t. IfOk t (IsPartShown s of.meant)) is_text of.as_meant.shown) in
    let same = clear_whole part its.whole clear its.completes in
    let whole : IsPartText s part its.heading its.text =
    subst (λ w. IsPartText s w its.heading its.text) same its.some in
    let given = subst (λ n. AreNumbersRead s (first_line part) n) is_numbers
    (subst (λ l. AreNumbersRead s (first_line l) one.numbers) stands
    (numbers_given s of.meant one shown is_text of.as_meant)) in
    let read = subst (λ t. IsDamagedTextAnswer s part t) is_text
    (subst (λ l. IsDamagedTextAnswer s l one.text) stands of.as_meant.text) in
    first_read s p part whole.body its.text its.heading numbers shown whole.has.first whole.has.is_heading whole.allowed
    whole.counted whole.read clear given read right numbered expected

-- -------- the parts that are shown

list_cases : (x y : ℕ) (one other : List ℕ) → (x ≡ y) ⊎ (x ≢ y) → (one ≡ other) ⊎ (one ≢ other)
    → (x ∷ one ≡ y ∷ other) ⊎ (x ∷ one ≢ y ∷ other)
list_cases x y one other (inl is) (inl same) = inl (λ i. is i ∷ same i)
list_cases x y one other (inl is) (inr off) = inr (λ e. off (ap (drop 1) e))
list_cases x y one other (inr off) rest = inr (λ e. off (ap (λ l. get_or l 0 0) e))

same_or_not : (one other : List ℕ) → (one ≡ other) ⊎ (one ≢ other)
same_or_not [] [] = inl refl
same_or_not [] (y ∷ other) = inr (λ e. absurd (cc))
same_or_not (x ∷ one) [] = inr (λ e. absurd (cc))
same_or_not (x ∷ one) (y ∷ other) = list_cases x y one other (cases_eq x y) (same_or_not one other)

stands_cases : (s : Day) (part : List ℕ) (one : DamagedPart) (of : IsReadOf s part one) → IsFalse one.respaced
    → (of.meant ≡ part) ⊎ (of.meant ≢ part) → of.meant ≡ part
stands_cases s part one of off (inl is) = is
stands_cases s part one of off (inr other) = absurd (false≢true (sym off ∙ of.respaced.1 other))

-- the part is read of one of `bytes`, as it stands, of which nothing is lost
abbrev IsHeld : Day → List (List ℕ) → DamagedPart → Type 0
IsHeld s bytes one =
    (part : List ℕ) × Contains bytes part × ((of : IsReadOf s part one) × (of.meant ≡ part)) × IsClear part
    × MayBeOfTheDay one

held : (s : Day) (all bytes : List (List ℕ)) (reads : List DamagedPart)
    → ((part : List ℕ) → Contains bytes part → Contains all part) → AreAllReadOf s bytes reads → All IsClear bytes
    → All (λ one. IsFalse one.respaced) reads → All MayBeOfTheDay reads → All (IsHeld s all) reads
held s all [] [] within are clear stand day = All-nil (IsHeld s all)
held s all [] (one ∷ reads) within are clear stand day = absurd are
held s all (part ∷ bytes) [] within are clear stand day = absurd are
held s all (part ∷ bytes) (one ∷ reads) within are clear stand day =
    All-cons (IsHeld s all) one reads (
      part,
      within part (0, omega arith, refl),
      (
        are.0,
        stands_cases s part one are.0 (All-head (λ (d : DamagedPart). IsFalse d.respaced) one reads stand)
            (same_or_not are.0.meant part),
      ),
      All-head IsClear part bytes clear,
      All-head MayBeOfTheDay one reads day,
    )
    (held s all bytes reads (λ other there. within other (suc there.0, omega (arith, there.1), there.2)) are.1
    (All-tail IsClear part bytes clear) (All-tail (λ (d : DamagedPart). IsFalse d.respaced) one reads stand)
    (All-tail MayBeOfTheDay one reads day))

its_numbers : (number : ℕ) (found : Option PartNumbers) → is_number number found ≡ true
    → (numbers : PartNumbers) × (found ≡ Some numbers) × (numbers.part ≡ number)
its_numbers number None is = absurd (false≢true is)
its_numbers number (Some numbers) is = (numbers, refl, grind (arith, nat_tests, is))

-- -------- one part after another

abbrev texts_from : List DamagedPart → ℕ → ℕ → List (Option ℕ)
texts_from reads from count = flat_map (λ m. letters_of_part (shown_under reads m)) (range_with_len from count)

-- the parts under `count` numbers, from the start `p` on, are read to the letters that are shown
record AreReadBack (s : Day) (bytes : List (List ℕ)) (reads : List DamagedPart) (p : PartStart) (count : ℕ)
    : Type 0 where
  pub ordered : List (List ℕ)
  pub letters : List ℕ
  pub within : All (Contains bytes) ordered
  pub as_many : length ordered ≡ count
  pub reading : ReadsPartsTo s (IsAnswerAt s (Ok tt)) p ordered letters
  pub shown : texts_from reads p.number count ≡ map Some letters

-- one part is read to the letters that are shown
record IsOneReadBack (s : Day) (bytes : List (List ℕ)) (reads : List DamagedPart) (p : PartStart) : Type 0 where
  pub part : List ℕ
  pub text : List ℕ
  pub within : Contains bytes part
  pub reads_to : IsPartAnswer s p part (Ok (record { parts = total_of reads; letters = text }))
  pub shown : letters_of_part (shown_under reads p.number) ≡ map Some text

module _ (s : Day) (bytes : List (List ℕ)) (reads : List DamagedPart) (whole : IsWhole reads)
    (all : All (IsHeld s bytes) reads) where
  one_read : (p : PartStart) → 1 ≤ p.number → p.number ≤ total_of reads → IsExpectedCount p.expected (total_of reads)
      → IsOneReadBack s bytes reads p
  one_read p first last expected =
      let number = p.number in
      let same : 1 + (number - 1) ≡ number = omega (arith, first) in
      let (one, found, (shown, is, known)) = whole_under (shown_under reads number)
      (subst (IsNumberWhole reads) same
      (at_range (IsNumberWhole reads) 1 (total_of reads) (number - 1) (omega (arith, first, last)) whole.each)) in
      let (part, there, (of, stands), clear, day) = shown_holds (IsHeld s bytes) number reads one all found in
      let (numbers, given, numbered) = its_numbers number one.numbers (shown_numbered number reads one found) in
      let inside = shown_holds (Contains reads) number reads one (All-contains_itself reads) found in
      let agree = (and_parts (are_of_one_message reads) (are_covered reads reads) whole.one_message).0 in
      let counted : total_of reads ≡ numbers.parts = total_is reads one numbers agree inside given in
      let right : shown.group ≢ Wrong =
      λ wrong. false≢true (sym day ∙ ap (λ t. is_wrong_day (test_or one.group (text_or t one.by_count))) is
      ∙ ap is_wrong_day wrong) in
      let back = part_read s p part one numbers shown of stands clear given is right numbered
      (subst (IsExpectedCount p.expected) counted expected) in
      let made : ℕ → ReadPart = λ n. record { parts = n; letters = back.text } in
      record {
        part = part;
        text = back.text;
        within = there;
        reads_to = subst (λ n. IsPartAnswer s p part (Ok (made n))) (sym counted) back.reads;
        shown = ap letters_of_part found ∙ ap letters_in is ∙ back.letters;
      }

  one_more : (count : ℕ) (p : PartStart) → 1 ≤ p.number → p.number + suc count ≡ total_of reads + 1
      → IsExpectedCount p.expected (total_of reads)
      → ((part : List ℕ) → AreReadBack s bytes reads (next_part_start p (total_of reads) part) count)
      → AreReadBack s bytes reads p (suc count)
  one_more count p first sum expected others =
      let one = one_read p first (omega (arith, sum)) expected in
      let rest = others one.part in
      let made : ReadPart = record { parts = total_of reads; letters = one.text } in
      let f : ℕ → List (Option ℕ) = λ m. letters_of_part (shown_under reads m) in
      let step : suc count - 1 ≡ count = omega arith in
      record {
        ordered = one.part ∷ rest.ordered;
        letters = one.text ++ rest.letters;
        within = All-cons (Contains bytes) one.part rest.ordered one.within rest.within;
        as_many = ap suc rest.as_many;
        reading = inr (made, rest.letters, one.reads_to, rest.reading, refl);
        shown =
            ap (flat_map f) (range_first p.number (suc count) (omega arith))
            ∙ ap (λ n. f p.number ++ texts_from reads (p.number + 1) n) step
            ∙ ap (λ l. l ++ texts_from reads (p.number + 1) count) one.shown
            ∙ ap (λ l. map Some one.text ++ l) rest.shown ∙ sym (map-append Some one.text rest.letters);
      }

  more_read : (count : ℕ) (p : PartStart) → 1 ≤ p.number → p.number + count ≡ total_of reads + 1
      → p.expected ≡ Some (total_of reads) → AreReadBack s bytes reads p count
  more_read zero p first sum expected = record {
    ordered = [];
    letters = [];
    within = All-nil (Contains bytes);
    as_many = refl;
    reading = ((total_of reads, expected, omega (arith, sum)), refl);
    shown = refl;
  }
  more_read (suc count) p first sum expected =
      one_more count p first sum (subst (λ e. IsExpectedCount e (total_of reads)) (sym expected) refl)
      (λ part. more_read count (next_part_start p (total_of reads) part) (omega arith) (omega (arith, sum)) refl)

  all_read : (count : ℕ) → total_of reads ≡ suc count → AreReadBack s bytes reads first_part_start (suc count)
  all_read count is =
      one_more count first_part_start (omega arith) (omega (arith, is)) tt
      (λ part. more_read count (next_part_start first_part_start (total_of reads) part) (omega arith)
      (omega (arith, is)) refl)

read_again : (s : Day) (bytes : List (List ℕ)) (reads : List DamagedPart) (total : ℕ) → total_of reads ≡ total
    → IsWhole reads → All (IsHeld s bytes) reads → AreReadBack s bytes reads first_part_start total
read_again s bytes reads zero is whole all = absurd (omega (arith, is, whole.some))
read_again s bytes reads (suc count) is whole all = all_read s bytes reads whole all count is

kept_of_clear : (parts : List (List ℕ)) → All IsClear parts → All (All (λ b. IsFalse (is_lost b))) parts
kept_of_clear parts clear =
    All-weaker IsClear (All (λ b. IsFalse (is_lost b)))
    (λ part. All-weaker IsFirm (λ b. IsFalse (is_lost b)) (λ b firm. firm.0) part) parts clear

pub whole_read : WholeMessagesAreRead
whole_read s form reads completed clear stand whole =
    let bytes = form_parts form in
    let are = read_as_it_stands s form reads (kept_of_clear bytes clear) completed in
    let all = held s bytes bytes reads (λ part there. there) (all_read_of s form reads are) clear stand whole.of_the_day in
    let back = read_again s bytes reads (total_of reads) refl whole all in (
      back.ordered,
      back.letters,
      back.within,
      back.as_many,
      back.reading,
      ap (map (shown_byte (space_letter s))) back.shown ∙ shown_known s back.letters,
    )
