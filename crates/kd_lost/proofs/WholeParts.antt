-- A part that is read as it was received has no lost letter, and is shown whole.
use Rattle.std.proofs.Common.{All, append_assoc, ◌≡◌, ◌≢◌, ◌∙◌, ℕ, ◌+◌, ◌-◌, ◌<◌, ◌≤◌, ◌^◌, List, [], ◌∷◌, ◌++◌, length}
use Rattle.std.proofs.Common.{map, drop, take, refl, sym, ap, subst, arith, Option, Some, None, inl, inr, IsTrue}
use Rattle.std.proofs.Common.{IsFalse}
use Rattle.std.proofs.Common.{Result, Ok, Err, codes, decimal, Any, get_or, ◌↔◌}
use Rattle.std.proofs.lemmas.Bool.{Decides.nat_tests, cases_Bool}
use Rattle.std.proofs.lemmas.List.{drop-drop, drop-take, get_or-take, length-take-le, take-take}
use Rattle.std.proofs.lemmas.List.Elements.{All-append, All-cons, All-from_get_or, All-map, All-nil}
use Rattle.std.proofs.lemmas.List.Elements.{All-weaker}
use Rattle.std.proofs.lemmas.Fmt.{digits_decimal}
use Rattle.std.specs.List.{slice_range}
use Rattle.kd_tables.specs.Text.{is_text_byte, letters_text}
use Rattle.kd_tables.specs.LineWords.{IsWithout, IsFirstPart, line_of}
use Rattle.kd_state.specs.SheetDay.{AreADaysGroup, Day, Rotor, Pin}
use Rattle.kd_state.specs.EngineKey.{IsWindow}
use Rattle.kd_state.specs.OwnKeys.{sheet_key}
use Rattle.kd_tables.proofs.LineWords.{IsNumeralModel-digits}
use Rattle.kd_state.proofs.OneAnswer.{ThenNext-Ok, Yields-Ok}
use Rattle.kd_form.specs.declared.{heading.{Heading.{Heading}, Indicator.{Indicator}}}
use Rattle.kd_form.specs.BodyCipher.{HasIndicator, IsLettersAnswer, IsPinAnswer, deciphered_key}
use Rattle.kd_form.specs.BodyCipher.{keys_of_body, text_of_body, list_of_body, group_of_body}
use Rattle.kd_form.specs.FormParts.{HasFirstLine, IsHeading, IsLineText, WithReturn, WithoutReturn}
use Rattle.kd_form.specs.InternalKey.{IsInternalKey}
use Rattle.kd_form.specs.Part.{fraction_text, heading_words, indicator_words}
use Rattle.kd_form.specs.PartMaking.{enciphered_choice, list_letters}
use Rattle.kd_form.specs.PartReading.{HasDueNumbers, IsExpectedCount, IsPartAnswer, PartStart, ReadPart}
use Rattle.kd_form.specs.Sending.{IsBytesAnswer, letters_from}
use Rattle.kd_form.proofs.Headings.{at_most, ended_heading, one_heading}
use Rattle.kd_form.proofs.MadeParts.{enciphered_length}
use Rattle.kd_lost.specs.declared.damage.PartDamage.{PartDamage}
use Rattle.kd_lost.specs.declared.damaged_text.DamagedText.{DamagedText}
use Rattle.kd_lost.specs.declared.part.PartNumbers.{PartNumbers}
use Rattle.kd_lost.specs.Lost.{Completes, covered, is_lost, received_letters}
use Rattle.kd_lost.specs.Copies.{IsKeysAnswer}
use Rattle.kd_lost.specs.DamagedText.{GroupLost, GroupRight, GroupWrong, IsDamagedLettersAnswer, IsListTest}
use Rattle.kd_lost.specs.DamagedText.{IsGroupTest, IsTextShown, ListLost, ListRight, ListWrong, text_part}
use Rattle.kd_lost.specs.WholePart.{IsLettersText}
use Rattle.kd_lost.specs.DamagedPart.{AreNumbersRead, IsDamagedHeading, IsHeadedPartAnswer}
use Rattle.kd_lost.specs.DamagedPart.{IsDamagedLinesAnswer, body_of, filled_byte, first_line, is_body_byte}
use Rattle.kd_lost.specs.Laws.{AreWholeCopies, IsShownWhole, PartsReadAreShownWhole, PartsReadHaveNumbers}
use Rattle.kd_lost.specs.declared.damaged_text.GroupTest.{GroupTest}
use Rattle.kd_lost.specs.declared.damaged_text.GroupTest.TheVariants as tests
use Rattle.kd_lost.proofs.FirmBytes.{AreFirm, IsFirm, firm_filled, received_all}
use Rattle.kd_lost.proofs.KnownLetters.{always, covered_none, drop_known, found, known_completes, known_keys}
use Rattle.kd_lost.proofs.KnownLetters.{known_length}
use Rattle.kd_lost.proofs.KnownLetters.{lost_is_false, none_lost_in_both, not_any_lost, passed, same_known, take_known}
use Rattle.kd_lost.proofs.PinText.{end_of, keys_there, start_of}
use Rattle.kd_lost.proofs.Parts.{lines_there}
use Rattle.kd_lost.proofs.PartShown.{least_count}

-- -------- bytes that are firm

firm_byte : (byte : ℕ) → 10 ≤ byte → byte ≤ 90 → byte ≢ 63 → byte ≢ 45 → IsFirm byte
firm_byte byte high low one other = grind (arith, nat_tests, cases_Bool)

firm_letters : (letters : List ℕ) → All (λ letter. letter < 26) letters → AreFirm (letters_text letters)
firm_letters letters within = All-map IsFirm (λ l. l + 65) letters
    (λ k d inside. let low = within k d inside in
    firm_byte _ (omega arith) (omega (arith, low)) (omega arith) (omega arith))

firm_number : (number : ℕ) → number < 2 ^ 64 → AreFirm (decimal number)
firm_number number small = All-from_get_or IsFirm (decimal number) 0
    (λ i inside. let digit = digits_decimal IsNumeralModel-digits number small i inside in
    firm_byte _ (omega (arith, digit)) (omega (arith, digit)) (omega (arith, digit)) (omega (arith, digit)))

firm_then : (byte : ℕ) (front rest : List ℕ) → IsFirm byte → AreFirm front → AreFirm rest
    → AreFirm (front ++ byte ∷ rest)
firm_then byte front rest here one other = All-append IsFirm front (byte ∷ rest) one
    (All-cons IsFirm byte rest here other)

text_firm : (byte : ℕ) → IsTrue (is_text_byte byte) → IsFirm byte
text_firm byte allowed = grind (arith, nat_tests, cases_Bool)

firm_text : (body : List ℕ) → All (λ b. IsTrue (is_text_byte b)) body → AreFirm body
firm_text body allowed = All-weaker (λ b. IsTrue (is_text_byte b)) IsFirm (λ b. text_firm b) body allowed

firm_end : (s : Day) (count : ℕ) (i : Option Indicator) → count < 2 ^ 64 → HasIndicator s i
    → AreFirm (line_of (decimal count ∷ indicator_words i))
firm_end s count None small has = firm_number count small
firm_end (Rotor s) count (Some i) small has =
    firm_then 32 (decimal count) _ (refl, refl) (firm_number count small)
    (firm_then 32 (letters_text i.ground_setting) (letters_text i.enciphered_key) (refl, refl)
    (firm_letters i.ground_setting has.0.within) (firm_letters i.enciphered_key has.1.within))
firm_end (Pin s) count (Some i) small has = absurd has

firm_word : AreFirm (codes "PART")
firm_word =
    All-cons IsFirm 80 (65 ∷ 82 ∷ 84 ∷ []) (refl, refl) (All-cons IsFirm 65 (82 ∷ 84 ∷ []) (refl, refl)
    (All-cons IsFirm 82 (84 ∷ []) (refl, refl) (All-cons IsFirm 84 [] (refl, refl) (All-nil IsFirm))))

firm_heading : (s : Day) (h : Heading) → IsHeading s h → AreFirm (line_of (heading_words h))
firm_heading s h is =
    let part : h.part < 2 ^ 64 = omega (arith, is.number.in_order, is.number.few) in
    let parts : h.parts < 2 ^ 64 = omega (arith, is.number.few) in
    let letters : h.letters < 2 ^ 64 = omega (arith, at_most s h.letters is.letters) in
    firm_then 32 (codes "PART") _ (refl, refl) firm_word
    (firm_then 32 (fraction_text h.part h.parts) _ (refl, refl)
    (subst AreFirm (sym (append_assoc (decimal h.part) (codes "/") (decimal h.parts)))
    (firm_then 47 (decimal h.part) (decimal h.parts) (refl, refl) (firm_number h.part part)
    (firm_number h.parts parts)))
    (firm_end s h.letters h.indicator letters is.indicator))

firm_line : (line text : List ℕ) → IsLineText line text → AreFirm text → AreFirm line
firm_line line text (WithReturn is) firm =
    subst AreFirm (sym is) (firm_then 13 text [] (refl, refl) firm (All-nil IsFirm))
firm_line line text (WithoutReturn is none) firm = subst AreFirm is firm

firm_allowed : (byte : ℕ) → IsTrue (is_text_byte byte) → IsTrue (is_body_byte byte)
firm_allowed byte allowed = let firm = text_firm byte allowed in grind (arith, firm, allowed)

all_allowed : (position : ℕ) (body : List ℕ) → IsBytesAnswer position body (Ok tt)
    → All (λ b. IsTrue (is_text_byte b)) body
all_allowed position [] read = All-nil (λ b. IsTrue (is_text_byte b))
all_allowed position (byte ∷ body) read =
    let first = ThenNext-Ok read in
    All-cons (λ b. IsTrue (is_text_byte b)) byte body first.says (all_allowed (position + 1) body first.next)

-- -------- a part that `receive` reads

-- what `receive` says of a part that it reads
pub record IsWholePart (s : Day) (p : PartStart) (part : List ℕ) (read : ReadPart) : Type 0 where
  pub h : Heading
  pub line : List ℕ
  pub body : List ℕ
  pub first : IsFirstPart 10 part line body
  pub headed : IsDamagedHeading s line h
  pub filled : map filled_byte line ≡ line
  pub kept : All (λ byte. IsFalse (is_lost byte)) line
  pub allowed : All (λ byte. IsTrue (is_text_byte byte)) body
  pub counted : length (letters_from None body) ≡ h.letters
  pub text : IsLettersAnswer s p.number h.indicator (letters_from None body) (Ok read.letters)
  pub numbered : h.part ≡ p.number
  pub parts : read.parts ≡ h.parts
  pub expected : IsExpectedCount p.expected read.parts

least_letters : (s : Day) (h : Heading) → IsHeading s h → 0 < h.letters
least_letters (Rotor s) h is = omega (arith, is.letters)
least_letters (Pin s) h is = omega (arith, is.letters)

whole_lines : (s : Day) (p : PartStart) (part : List ℕ) (read : ReadPart) (h : Heading) (body : List ℕ) → IsHeading s h
    → HasFirstLine part (line_of (heading_words h)) body → HasDueNumbers p.number p.expected h
    → All (λ byte. IsTrue (is_text_byte byte)) body → length (letters_from None body) ≡ h.letters
    → IsLettersAnswer s p.number h.indicator (letters_from None body) (Ok read.letters) → read.parts ≡ h.parts
    → IsWholePart s p part read
whole_lines s p part read h body is (inl (line, first, text)) due allowed counted letters parts =
    let firm = firm_line line (line_of (heading_words h)) text (firm_heading s h is) in
    record {
      h = h;
      line = line;
      body = body;
      first = first;
      headed = record {
        is_heading = is;
        text = subst (λ l. IsLineText l (line_of (heading_words h))) (sym (firm_filled line firm)) text;
      };
      filled = firm_filled line firm;
      kept = All-weaker IsFirm (λ byte. IsFalse (is_lost byte)) (λ byte of. of.0) line firm;
      allowed = allowed;
      counted = counted;
      text = letters;
      numbered = due.numbered;
      parts = parts;
      expected = subst (IsExpectedCount p.expected) (sym parts) due.as_expected;
    }
whole_lines s p part read h body is (inr (without, same, none)) due allowed counted letters parts =
    absurd (omega (arith, least_letters s h is, counted, ap (λ b. length (letters_from None b)) none))

pub whole_part : (s : Day) (p : PartStart) (part : List ℕ) (read : ReadPart) → IsPartAnswer s p part (Ok read)
    → IsWholePart s p part read
whole_part s p part read is =
    let content = ThenNext-Ok is in
    let one = ThenNext-Ok content.says in
    let two = ThenNext-Ok one.next in
    let three = ThenNext-Ok two.next in
    let same = Yields-Ok three.next in
    let text = ThenNext-Ok content.next in
    let counted = ThenNext-Ok text.says in
    let told = Yields-Ok text.next in
    let h = content.found.heading in
    let body = content.found.body in
    whole_lines s p part read h body
    (subst (λ c. IsHeading s c.heading) (sym same) one.says.is_heading)
    (subst (λ c. HasFirstLine part (line_of (heading_words c.heading)) c.body) (sym same) one.says.first)
    (subst (λ c. HasDueNumbers p.number p.expected c.heading) (sym same) two.says)
    (subst (λ c. All (λ byte. IsTrue (is_text_byte byte)) c.body) (sym same) (all_allowed _ one.found.body three.says))
    counted.says
    (subst (λ l. IsLettersAnswer s p.number h.indicator (letters_from None body) (Ok l)) (sym (ap
    (λ r. r.letters) told))
    counted.next)
    (ap (λ r. r.parts) told)

-- two headings in one line are equal
pub same_heading : (s : Day) (line body : List ℕ) (h other : Heading) → IsWithout 10 line → map filled_byte line ≡ line
    → IsDamagedHeading s line h → IsDamagedHeading s line other → other ≡ h
same_heading s line body h other without filled a b =
    let is = λ (g : Heading) (d : IsDamagedHeading s line g).
    ended_heading s line body g without d.is_heading (subst (λ l. IsLineText l (line_of
    (heading_words g))) filled d.text) in
    (one_heading s (line ++ 10 ∷ body) other h body body (is other b) (is h a)).0

-- -------- the letters of a part that `receive` reads

-- the group of a text that `receive` reads is right
right_group : (s : Day) (letters : List ℕ) (test : GroupTest) → AreADaysGroup s (group_of_body letters)
    → IsGroupTest s (slice_range (map Some letters) 2 5) test → test ≡ tests.Right
right_group s letters test due (GroupRight others is has right) = right
right_group s letters test due (GroupWrong others is bad wrong) =
    let known = ap (take 3) (drop_known 2 letters) ∙ take_known 3 (drop 2 letters) in
    absurd (bad (subst (AreADaysGroup s) (same_known (group_of_body letters) others (sym known ∙ is)) due))
right_group s letters test due (GroupLost some lost) =
    let known = ap (take 3) (drop_known 2 letters) ∙ take_known 3 (drop 2 letters) in
    absurd (not_any_lost (group_of_body letters) (subst (Any (λ got. got ≡ None)) known some))

-- the letters that are shown for a body in which no letter is lost
pub known_shown : (s : Day) (i : Option Indicator) (letters text : List ℕ) (shown : DamagedText)
    → IsTextShown s i (map Some letters) shown → IsLettersText s i letters text → shown.letters.items ≡ map Some text
known_shown s (Some i) letters text shown given is =
    let size : length (drop 5 letters) ≡ length text =
    sym (ap length is ∙ enciphered_length s (deciphered_key s i) (drop 5 letters)) in
    given.each letters text (known_completes letters) is ∙ ap (λ r. covered r text) (drop_known 5 letters)
    ∙ covered_none (drop 5 letters) text size
known_shown s None letters text shown given is =
    let n = length letters in
    let middle : text_part None (map Some letters) ≡ map Some (text_of_body letters) =
    ap (λ m. slice_range (map Some letters) 10 (m - 10)) (known_length letters)
    ∙ ap (take (n - 10 - 10)) (drop_known 10 letters) ∙ take_known (n - 10 - 10) (drop 10 letters) in
    let same : length (text_of_body letters) ≡ length text =
    sym (ap length is.is ∙ enciphered_length s is.internal (text_of_body letters)) in
    given.each letters text (known_completes letters) is ∙ ap (λ r. covered r text) middle
    ∙ covered_none (text_of_body letters) text same

known_rotor : (s : Day) (number : ℕ) (i : Indicator) (letters text : List ℕ) (answer : Result DamagedText PartDamage)
    → IsLettersAnswer s number (Some i) letters (Ok text)
    → IsDamagedLettersAnswer s (Some i) (map Some letters) answer
    → (shown : DamagedText) × (answer ≡ Ok shown) × IsShownWhole text shown
known_rotor s number i letters text answer read told =
    let (shown, is, given) = always answer told in
    let two = ThenNext-Ok read in
    let made = Yields-Ok two.next in (
      shown,
      is,
      record {
        letters = known_shown s (Some i) letters text shown given made;
        group = right_group s letters shown.group two.says given.warnings.0;
        copies = subst AreWholeCopies (sym given.warnings.1) tt;
      },
    )

right_list : (due list : List ℕ) (test : GroupTest) → list ≡ due → IsListTest due (map Some list) (map Some list) test
    → test ≡ tests.Right
right_list due list test same (ListWrong bad is) =
    let fits = subst (Completes (map Some list)) same (known_completes list) in absurd (bad (fits, fits))
right_list due list test same (ListLost one other lost is) = absurd (none_lost_in_both list (map Some list) lost)
right_list due list test same (ListRight one other kept is) = is

known_pin : (s : Day) (number : ℕ) (letters text : List ℕ) (answer : Result DamagedText PartDamage)
    → 20 ≤ length letters → IsPinAnswer s number letters (Ok text)
    → IsDamagedLettersAnswer s None (map Some letters) answer
    → (shown : DamagedText) × (answer ≡ Ok shown) × IsShownWhole text shown
known_pin s number letters text answer some read told =
    let one = ThenNext-Ok read in
    let around = one.says in
    let two = ThenNext-Ok one.next in
    let three = ThenNext-Ok two.next in
    let four = ThenNext-Ok three.next in
    let made = Yields-Ok four.next in
    let received = map Some letters in
    let n = length letters in
    let size : length received ≡ n = known_length letters in
    let keys = take 8 letters in
    let again : take 8 (drop (n - 10) letters) ≡ keys =
    ap (take 8) (sym around.again) ∙ take-take 8 10 letters (omega arith) in
    let at_end : end_of received ≡ map Some keys =
    ap (λ m. take 8 (drop (m - 10) received)) size ∙ ap (take 8) (drop_known (n - 10) letters)
    ∙ take_known 8 (drop (n - 10) letters) ∙ ap (map Some) again in
    let at_start : start_of received ≡ map Some keys = take_known 8 letters in
    let eight : length keys ≡ 8 = length-take-le 8 letters (omega (arith, some)) in
    let equal : get_or keys 0 0 ≡ get_or keys 1 0 =
    get_or-take 8 letters 0 0 (omega arith) ∙ around.twice ∙ sym (get_or-take 8 letters 1 0 (omega arith)) in
    let (its, reads, next) = found {First = IsKeysAnswer (start_of received) (end_of received)}
    (λ damage failed. known_keys keys damage (omega (arith, eight)) equal
    (subst (λ l. IsKeysAnswer l (map Some keys) (Err damage)) at_start
    (subst (λ l. IsKeysAnswer (start_of received) l (Err damage)) at_end failed))) told in
    let its_there : keys_of_body letters ≡ its =
    keys_there (map Some keys) (map Some keys) letters its (omega (arith, known_length keys, eight))
    (omega (arith, known_length keys, eight)) (known_completes keys) (known_completes keys) around.twice
    (subst (λ l. IsKeysAnswer l (map Some keys) (Ok its)) at_start
    (subst (λ l. IsKeysAnswer (start_of received) l (Ok its)) at_end reads)) in
    let shows = subst (λ k. IsWindow (sheet_key s) k.external) its_there two.says in
    let key = subst (λ k. IsInternalKey (enciphered_choice s k) four.found) its_there four.says in
    let (internal, is_key, last) = found (λ damage failed. failed.0 four.found key) (passed shows next) in
    let (shown, is, given) = always answer last in
    let lost = given.warnings.1 in
    let copied = given.warnings.2 in
    let told_lost = given.warnings.3 in
    let first_list : slice_range received 8 10 ≡ map Some (list_of_body letters) =
    ap (take 2) (drop_known 8 letters) ∙ take_known 2 (drop 8 letters) in
    let place : n - 10 + 8 ≡ n - 2 = omega (arith, some) in
    let last_two : drop (n - 2) letters ≡ list_of_body letters =
    sym (drop-drop 8 (n - 10) letters ∙ ap (λ m. drop m letters) place) ∙ ap (drop 8) (sym around.again)
    ∙ drop-take 8 2 letters in
    let last_list : drop (length received - 2) received ≡ map Some (list_of_body letters) =
    ap (λ m. drop (m - 2) received) size ∙ drop_known (n - 2) letters ∙ ap (map Some) last_two in
    let lists = subst (λ l. IsListTest (list_letters s) l (map Some (list_of_body letters)) shown.group) first_list
    (subst (λ l. IsListTest (list_letters s) (slice_range received 8 10) l shown.group) last_list given.warnings.0) in
    let P = λ (l : List (Option ℕ)). Any (λ got. got ≡ None) l in
    let ends : drop (length received - 10) received ≡ map Some (drop (n - 10) letters) =
    ap (λ m. drop (m - 10) received) size ∙ drop_known (n - 10) letters in (
      shown,
      is,
      record {
        letters = known_shown s None letters text shown given (record {
          around = record { again = sym again; twice = around.twice };
          on_wheels = two.says;
          internal = four.found;
          is_key = four.says;
          is = made;
        });
        group = right_list (list_letters s) (list_of_body letters) shown.group three.says lists;
        copies = subst AreWholeCopies (sym copied) (
          lost_is_false lost.at_start (take 10 letters)
              (subst (λ l. IsTrue lost.at_start ↔ P l) (take_known 10 letters) told_lost.at_start),
          lost_is_false lost.at_end (drop (n - 10) letters)
              (subst (λ l. IsTrue lost.at_end ↔ P l) ends told_lost.at_end),
        );
      },
    )

known_letters_shown : (s : Day) (number : ℕ) (i : Option Indicator) (letters text : List ℕ)
    (answer : Result DamagedText PartDamage) → (i ≡ None → 20 ≤ length letters)
    → IsLettersAnswer s number i letters (Ok text) → IsDamagedLettersAnswer s i (map Some letters) answer
    → (shown : DamagedText) × (answer ≡ Ok shown) × IsShownWhole text shown
known_letters_shown s number (Some i) letters text answer some read told = known_rotor s number i letters text
    answer read told
known_letters_shown s number None letters text answer some read told =
    known_pin s number letters text answer (some refl) read told

lines_shown : (s : Day) (p : PartStart) (part : List ℕ) (read : ReadPart) (answer : Result DamagedText PartDamage)
    (w : IsWholePart s p part read) → IsDamagedLinesAnswer s w.line w.body answer
    → (shown : DamagedText) × (answer ≡ Ok shown) × IsShownWhole read.letters shown
lines_shown s p part read answer w told =
    let letters = letters_from None w.body in
    let (h, headed, next) = found (λ damage failed. failed.0 w.h w.headed) told in
    let same = same_heading s w.line w.body w.h h w.first.without w.filled w.headed headed in
    let rest = subst (λ g. IsHeadedPartAnswer s g w.line w.body answer) same next in
    let all = received_all w.body (firm_text w.body w.allowed) in
    let bytes = All-weaker (λ b. IsTrue (is_text_byte b)) (λ b. IsTrue (is_body_byte b)) (λ b. firm_allowed b) w.body
    w.allowed in
    let count : length (received_letters w.body) ≡ w.h.letters =
    ap length all ∙ known_length letters ∙ w.counted in
    let given = passed count (passed bytes (passed w.kept rest)) in
    let least = least_count s w.h.letters w.h.indicator w.headed.is_heading.letters w.headed.is_heading.indicator in
    known_letters_shown s p.number w.h.indicator letters read.letters answer
    (λ none. omega (arith, least.1 none, w.counted)) w.text
    (subst (λ r. IsDamagedLettersAnswer s w.h.indicator r answer) all given)

pub shown_whole : PartsReadAreShownWhole
shown_whole s p part read answer is told =
    let w = whole_part s p part read is in
    let there = lines_there w.line w.body w.first.without in
    let first = ap first_line w.first.joined ∙ there.0 in
    let rest = ap body_of w.first.joined ∙ there.1 in
    lines_shown s p part read answer w
    (subst (λ b. IsDamagedLinesAnswer s w.line b answer) rest
    (subst (λ l. IsDamagedLinesAnswer s l (body_of part) answer) first told))

numbers_found : (s : Day) (p : PartStart) (part : List ℕ) (read : ReadPart) (found : Option PartNumbers)
    (w : IsWholePart s p part read) → AreNumbersRead s w.line found
    → (numbers : PartNumbers) × (found ≡ Some numbers) × (numbers.part ≡ p.number) × (numbers.parts ≡ read.parts)
numbers_found s p part read None w none = absurd (none w.h w.headed)
numbers_found s p part read (Some numbers) w (h, headed, is) =
    let same = same_heading s w.line w.body w.h h w.first.without w.filled w.headed headed in (
      numbers,
      refl,
      ap (λ n. n.part) is ∙ ap (λ (g : Heading). g.part) same ∙ w.numbered,
      ap (λ n. n.parts) is ∙ ap (λ (g : Heading). g.parts) same ∙ sym w.parts,
    )

pub numbers_there : PartsReadHaveNumbers
numbers_there s p part read found is told =
    let w = whole_part s p part read is in
    let there = lines_there w.line w.body w.first.without in
    numbers_found s p part read found w
    (subst (λ l. AreNumbersRead s l found) (ap first_line w.first.joined ∙ there.0) told)
