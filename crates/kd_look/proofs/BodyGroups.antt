-- The groups in the bodies of a form's parts: `look` finds each of them, and no others.
use Rattle.std.proofs.Common.{◌≡◌, ◌≢◌, ◌∙◌, ℕ, zero, suc, ◌+◌, ◌-◌, ◌<◌, ◌≤◌, ◌==◌, Bool, true, false}
use Rattle.std.proofs.Common.{List, [], ◌∷◌, ◌++◌, Option, Some, None, Result, Ok, Err, ap, arith, cond, drop, inl}
use Rattle.std.proofs.Common.{inr, length, refl, subst, sym, take, nat_le, get_or, append_assoc, length-append, IfOk}
use Rattle.std.proofs.Common.{if◌then◌else◌, map, option_map, option_to_list}
use Rattle.std.proofs.lemmas.Bool.{Decides.nat_tests, eqb-true}
use Rattle.std.proofs.lemmas.Iterator.Adapters.{position_from-zero}
use Rattle.std.proofs.lemmas.List.{drop_all, drop_at, nil_from_length, Folds.drop_split}
use Rattle.std.proofs.lemmas.List.Elements.{All-head, All-tail}
use Rattle.std.specs.List.{count_by, find, flat_map, position_from, range_with_len, slice_range}
use Rattle.std.specs.Option.{option_map_or}
use Rattle.std.specs.Result.{result_map_both}
use Rattle.kd_tables.specs.LineWords.{IsWithout, line_of}
use Rattle.kd_tables.specs.Text.{is_capital}
use Rattle.kd_state.specs.SheetDay.{Day, PinDay, RotorDay, Rotor, Pin}
use Rattle.kd_form.specs.BodyCipher.{group_of_body}
use Rattle.kd_form.specs.FormParts.{BeginsHeading, HasFirstLine, parts_of}
use Rattle.kd_form.specs.Part.{heading_words}
use Rattle.kd_form.specs.PartReading.{HasHeading}
use Rattle.kd_form.specs.Sending.{letter_of_byte, letters_from}
use Rattle.kd_form.proofs.Headings.{BeginsHeading-bytes, as_parts, begins_there}
use Rattle.kd_form.proofs.Lines.{letters_first}
use Rattle.kd_look.specs.Form.{body_end, body_signs, due_heading, first_or, form_answer, form_from, has_due_numbers}
use Rattle.kd_look.specs.Form.{heading_fault, heading_follows, part_at}
use Rattle.kd_look.specs.FormHeading.{heading_at, heading_keys}
use Rattle.kd_look.specs.Groups.{after_line, form_groups, form_message, group_of, letters_of, message_of, next_group}
use Rattle.kd_look.specs.Groups.{order_message, part_group, rotor_form_groups, three_letters}
use Rattle.kd_look.specs.Laws.{AreGroupsOfParts, ConverterFormsHaveNoGroups, FormGroupsAreThoseOfBodies, HasGroup}
use Rattle.kd_look.specs.Laws.{HasKeyLineForm, IsDayOfForm}
use Rattle.kd_look.specs.MessageWords.{is_form}
use Rattle.kd_look.specs.Order.{order_start}
use Rattle.kd_look.specs.declared.message.form.FormPart.{FormPart}
use Rattle.kd_look.specs.declared.message.form_heading.FormHeading.{FormHeading}
use Rattle.kd_look.specs.declared.message.order_head.KeyLine.{KeyLine}
use Rattle.kd_look.specs.declared.message.order_head.KeyLine.TheVariants as lines
use Rattle.kd_look.specs.declared.message.signs.WrongByte.{WrongByte}
use Rattle.kd_look.proofs.Form.{answer_after}
use Rattle.kd_look.proofs.Forms.{IsKeyed, capitals_agree, keyed_on, keys_known}
use Rattle.kd_look.proofs.Groups.{letters_of-append}
use Rattle.kd_look.proofs.HeadingsRead.{end_read, heading_is, heading_read, with_demand, with_ok}
use Rattle.kd_look.proofs.KeyGroups.{with_then}
use Rattle.kd_look.proofs.PartsCut.{IsAfterPart, IsPartCut, Last, More, body_end_is, body_start, cut_of, first_end}
use Rattle.kd_look.proofs.PartsCut.{to_part}

-- -------- what `look` reads of a part

heading_ok : (number : ℕ) (read : Result FormHeading WrongByte) (heading : FormHeading)
    → result_map_both (λ heading. heading) (heading_fault number) read ≡ Ok heading → read ≡ Ok heading
heading_ok number (Ok found) heading is = let same : found ≡ heading = cc in ap Ok same
heading_ok number (Err wrong) heading is = absurd (cc)

due_read : (text : List ℕ) (first : Option FormHeading) (number index : ℕ) (heading : FormHeading)
    → due_heading text first number index ≡ Ok heading
    → heading_at text (option_map (λ heading. heading.keys) first) index ≡ Ok heading
unfolding due_heading
due_read text first number index heading is =
    with_ok (result_map_both (λ heading. heading) (heading_fault number)
    (heading_at text (option_map (λ heading. heading.keys) first) index)) _ is (λ found one rest.
    with_demand (has_due_numbers first number found) _ _ rest (λ due two.
    let same : found ≡ heading = cc in
    heading_ok number (heading_at text (option_map (λ heading. heading.keys) first) index) found one ∙ ap Ok same))

-- What `look` reads of the part at `index`, if it finds no fault in the part.
record IsPartRead (text : List ℕ) (first : Option FormHeading) (index : ℕ) (part : FormPart) : Type 0 where
  headed : heading_at text (option_map (λ heading. heading.keys) first) index ≡ Ok part.heading
  ends : part.end ≡ body_end text part.heading.body
  counted : (count_by is_capital (slice_range text part.heading.body part.end) == part.heading.letters) ≡ true

part_read : (text : List ℕ) (first : Option FormHeading) (number index : ℕ) (part : FormPart)
    → part_at text first number index ≡ Ok part → IsPartRead text first index part
unfolding part_at
part_read text first number index part is =
    with_ok (due_heading text first number index) _ is (λ heading one rest.
    with_then (body_signs text heading.body (body_end text heading.body)) _ rest (λ _ two left.
    with_demand (count_by is_capital (slice_range text heading.body (body_end text heading.body)) == heading.letters)
    _ _ left (λ counted last.
    let made : FormPart = record { heading = heading; end = body_end text heading.body } in
    let same : made ≡ part = cc in
    subst (IsPartRead text first index) same (record {
      headed = due_read text first number index heading one;
      ends = refl;
      counted = counted;
    }))))

-- -------- the group in a body

letter_same : (byte : ℕ) (capital : Bool)
    → map (λ b. b - 65) (if capital then byte ∷ [] else [])
    ≡ option_to_list (if capital then Some (byte - 65) else if byte == 32 then None else None)
letter_same byte true = refl
letter_same byte false = no_letter (byte == 32) where
  no_letter : (space : Bool) → ◌≡◌ {A = List ℕ} [] (option_to_list (if space then None else None))
  no_letter true = refl
  no_letter false = refl

letters_same : (text : List ℕ) → letters_of text ≡ letters_from None text
letters_same [] = refl
letters_same (byte ∷ text) =
    letters_of-append (byte ∷ []) text
    ∙ ap (λ l. l ++ letters_of text) (letter_same byte (is_capital byte))
    ∙ ap (λ l. option_to_list (letter_of_byte None byte) ++ l) (letters_same text)
    ∙ sym (letters_first None byte text)

front_group : (letters more : List ℕ) → 5 ≤ length letters
    → three_letters (take 3 (drop 2 (letters ++ more))) ≡ Some (group_of_body letters)
front_group [] more long = absurd (omega (arith, long))
front_group (a ∷ []) more long = absurd (omega (arith, long))
front_group (a ∷ b ∷ []) more long = absurd (omega (arith, long))
front_group (a ∷ b ∷ c ∷ []) more long = absurd (omega (arith, long))
front_group (a ∷ b ∷ c ∷ d ∷ []) more long = absurd (omega (arith, long))
front_group (a ∷ b ∷ c ∷ d ∷ e ∷ letters) more long = refl

body_group : (body more : List ℕ) → 5 ≤ length (letters_from None body)
    → group_of (body ++ more) ≡ Some (group_of_body (letters_from None body))
body_group body more long =
    ap (λ l. three_letters (take 3 (drop 2 l)))
    (letters_of-append body more ∙ ap (λ l. l ++ letters_of more) (letters_same body))
    ∙ front_group (letters_from None body) (letters_of more) long

-- -------- what comes after a heading's line

feed_at : (shown rest : List ℕ) (seen : ℕ) → IsWithout 10 shown
    → position_from (λ byte. byte == 10) seen (shown ++ 10 ∷ rest) ≡ Some (seen + length shown)
feed_at [] rest seen without = let same : seen ≡ seen + 0 = omega arith in ap Some same
feed_at (byte ∷ shown) rest seen without =
    let off : byte ≢ 10 = All-head (λ b. b ≢ 10) byte shown without in
    let other : (byte == 10) ≡ false = grind (arith, nat_tests) in
    let next : seen + 1 + length shown ≡ seen + length (byte ∷ shown) = omega arith in
    rw other (feed_at shown rest (seen + 1) (All-tail (λ b. b ≢ 10) byte shown without) ∙ ap Some next)

after_first : (shown rest : List ℕ) → IsWithout 10 shown → after_line (shown ++ 10 ∷ rest) ≡ rest
after_first shown rest without =
    ap (λ found. option_map_or (λ place. drop (place + 1) (shown ++ 10 ∷ rest)) found [])
    (position_from-zero (λ byte. byte == 10) (shown ++ 10 ∷ rest) ∙ feed_at shown rest 0 without)
    ∙ ap (drop (0 + length shown + 1)) (sym (append_assoc shown (10 ∷ []) rest))
    ∙ drop_at (shown ++ 10 ∷ []) rest (0 + length shown + 1) (omega (arith, length-append shown (10 ∷ [])))

after_heading : (bytes line rest : List ℕ) → rest ≢ [] → HasFirstLine bytes line rest → after_line bytes ≡ rest
after_heading bytes line rest some (inl (shown, first, is)) =
    ap after_line first.joined ∙ after_first shown rest first.without
after_heading bytes line rest some (inr (without, is, none)) = absurd (some none)

-- -------- the group of a part

-- The part at `index` has the group that `look` finds for it.
record IsPartGrouped (s : RotorDay) (text : List ℕ) (index : ℕ) (cut : IsPartCut text index (first_end text index))
    (part : FormPart) : Type 0 where
  group : List ℕ
  has : HasGroup (Rotor s) cut.part group
  found : part_group text index ≡ group ∷ []
  ends : part.end ≡ first_end text index

part_keys : (s : Day) (text : List ℕ) (first : Option FormHeading) (index : ℕ) (part : FormPart)
    → IsKeyed s text first index → IsPartRead text first index part → HasKeyLineForm s part.heading.keys
part_keys s text first index part keyed is =
    let read = heading_read text (option_map (λ heading. heading.keys) first) index part.heading is.headed in
    subst (HasKeyLineForm s) (sym read.keyed) (keys_known s text first index keyed read.count read.counted_to)

part_grouped : (s : RotorDay) (text : List ℕ) (first : Option FormHeading) (index : ℕ) (part : FormPart)
    → index ≤ length text → (cut : IsPartCut text index (first_end text index)) → IsKeyed (Rotor s) text first index
    → IsPartRead text first index part → IsPartGrouped s text index cut part
part_grouped s text first index part inside cut keyed is =
    let heading : FormHeading = part.heading in
    let end : ℕ = first_end text index in
    let read = heading_read text (option_map (λ heading. heading.keys) first) index heading is.headed in
    let same : HasKeyLineForm (Rotor s) heading.keys = part_keys (Rotor s) text first index part keyed is in
    let (h, agree) = heading_is (Rotor s) text (option_map (λ heading. heading.keys) first) index heading same read in
    let within = (end_read text read.last heading.body read.ended).1 in
    let start = body_start (Rotor s) text index heading.body h inside within agree.has.first in
    let (ends, before) = body_end_is text index heading.body start in
    let at : part.end ≡ end = is.ends ∙ ends in
    let ahead : heading.body ≤ end = omega (arith, before, ends) in
    let body : List ℕ = slice_range text heading.body end in
    let has : HasHeading (Rotor s) cut.part h body =
    to_part (Rotor s) text index h end heading.body cut ahead agree.has in
    let counted : (count_by is_capital body == heading.letters) ≡ true =
    subst (λ n. (count_by is_capital (slice_range text heading.body n) == heading.letters) ≡ true) at is.counted in
    let size : length (letters_from None body) ≡ h.letters =
    capitals_agree body ∙ eqb-true (count_by is_capital body) heading.letters counted ∙ sym agree.letters in
    let many : 6 ≤ h.letters = has.is_heading.letters.0 in
    let split : drop heading.body text ≡ body ++ drop end text = drop_split text heading.body end ahead in
    let some : drop heading.body text ≢ [] = λ none.
    let nil : body ≡ [] = nil_from_length body
    (omega (arith, ap length (sym split ∙ none), length-append body (drop end text))) in
    omega (arith, many, size, ap (λ b. length (letters_from None b)) nil) in
    let after : after_line (drop index text) ≡ drop heading.body text =
    after_heading (drop index text) (line_of (heading_words h)) (drop heading.body text) some agree.has.first in
    record {
      group = group_of_body (letters_from None body);
      has = record { heading = h; body = body; headed = has; is = refl };
      found = ap (λ l. option_to_list (group_of l)) (after ∙ split)
          ∙ ap option_to_list (body_group body (drop end text) (omega (arith, size, many)));
      ends = at;
    }

-- -------- the groups of the parts that follow

-- the groups of the part at `index` and of all parts after it
abbrev groups_from : List ℕ → ℕ → List (List ℕ)
groups_from text index =
    part_group text index ++ flat_map (next_group text) (range_with_len index (length text - index))

-- the groups of the parts after the LF at `found`
abbrev groups_after : List ℕ → Option ℕ → List (List ℕ)
groups_after text None = []
groups_after text (Some found) = groups_from text (found + 1)

after_step : (text : List ℕ) (index : ℕ) (follows : Bool) (rest : List (List ℕ)) (later : Option ℕ)
    → rest ≡ groups_after text later
    → rest ≡ flat_map (next_group text) (range_with_len (index + 1) (length text - (index + 1)))
    → (if follows then part_group text (index + 1) else []) ++ rest ≡ groups_after text (cond follows (Some index) later)
after_step text index true rest later is all = ap (λ l. part_group text (index + 1) ++ l) all
after_step text index false rest later is all = is

after_found : (text : List ℕ) (count index : ℕ) → index + count ≡ length text
    → flat_map (next_group text) (range_with_len index count)
    ≡ groups_after text (find (heading_follows text) (range_with_len index count))
after_found text zero index size = refl
after_found text (suc count) index size =
    let number : count ≡ length text - (index + 1) = omega (arith, size) in
    after_step text index (heading_follows text index)
    (flat_map (next_group text) (range_with_len (index + 1) count))
    (find (heading_follows text) (range_with_len (index + 1) count))
    (after_found text count (index + 1) (omega (arith, size)))
    (ap (λ n. flat_map (next_group text) (range_with_len (index + 1) n)) number)

none_after : (text : List ℕ) (found : Option ℕ) → option_map_or (λ i. i + 1) found (length text) ≡ length text
    → groups_after text found ≡ []
none_after text None at = refl
none_after text (Some i) at =
    let none : drop (i + 1) text ≡ [] = drop_all (i + 1) text (omega (arith, at)) in
    let left : length text - (i + 1) ≡ 0 = omega (arith, at) in
    ap (λ l. option_to_list (group_of (after_line l))
    ++ flat_map (next_group text) (range_with_len (i + 1) (length text - (i + 1)))) none
    ∙ ap (λ n. flat_map (next_group text) (range_with_len (i + 1) n)) left

more_after : (text : List ℕ) (found : Option ℕ) → option_map_or (λ i. i + 1) found (length text) < length text
    → groups_after text found ≡ groups_from text (option_map_or (λ i. i + 1) found (length text))
more_after text None less = absurd (omega (arith, less))
more_after text (Some i) less = refl

-- -------- all parts

-- after a part, the form ends, or its next part is read
form_step : {P : Type 0} (text : List ℕ) (left number : ℕ) (first : Option FormHeading) (part : FormPart)
    (result : FormHeading) (last : Bool) → answer_after text left first number part last ≡ Ok result
    → (last ≡ true → first_or part.heading first ≡ result → P)
    → (last ≡ false → form_from text left (Some (first_or part.heading first)) (number + 1) part.end ≡ Ok result → P)
    → P
form_step text left number first part result true is ended more =
    with_demand (part.heading.parts == number) _ (Ok (first_or part.heading first)) is (λ _ made.
    let same : first_or part.heading first ≡ result = cc in ended refl same)
form_step text left number first part result false is ended more = more refl is

form_keys : (s : Day) (text : List ℕ) (left : ℕ) (first : Option FormHeading) (number index : ℕ) (result : FormHeading)
    → IsKeyed s text first index → form_from text left first number index ≡ Ok result → HasKeyLineForm s result.keys
form_keys s text zero first number index result keyed is = absurd (cc)
form_keys s text (suc left) first number index result keyed is =
    with_ok (part_at text first number index) _ is (λ part one rest.
    let own = part_keys s text first index part keyed (part_read text first number index part one) in
    let key = keyed_on s text first index part.heading keyed own in
    form_step text left number first part result (part.end == length text) rest
    (λ last same. subst (λ (h : FormHeading). HasKeyLineForm s h.keys) same key)
    (λ last more. form_keys s text left (Some (first_or part.heading first)) (number + 1) part.end result key more))

rest_grouped : (s : RotorDay) (text part : List ℕ) (end : ℕ) (others : List (List ℕ)) (found : Option ℕ)
    → option_map_or (λ i. i + 1) found (length text) ≡ end → IsAfterPart text part end others
    → (end < length text → AreGroupsOfParts (Rotor s) (parts_of (drop end text)) (groups_from text end))
    → AreGroupsOfParts (Rotor s) others (groups_after text found)
rest_grouped s text part end others found is (Last at none) on =
    subst (λ gs. AreGroupsOfParts (Rotor s) others gs) (sym (none_after text found (is ∙ at)))
    (subst (λ o. AreGroupsOfParts (Rotor s) o []) (sym none) tt)
rest_grouped s text part end others found is (More front whole more less) on =
    subst (λ gs. AreGroupsOfParts (Rotor s) others gs)
    (sym (more_after text found (omega (arith, is, less)) ∙ ap (groups_from text) is))
    (subst (λ o. AreGroupsOfParts (Rotor s) o (groups_from text end)) (sym more) (on less))

form_grouped : (s : RotorDay) (text : List ℕ) (left : ℕ) (first : Option FormHeading) (number index : ℕ)
    (result : FormHeading) → index ≤ length text → IsKeyed (Rotor s) text first index
    → form_from text left first number index ≡ Ok result
    → AreGroupsOfParts (Rotor s) (parts_of (drop index text)) (groups_from text index)
form_grouped s text zero first number index result inside keyed is = absurd (cc)
form_grouped s text (suc left) first number index result inside keyed is =
    with_ok (part_at text first number index) _ is (λ part one rest.
    let cut = cut_of text index inside in
    let read = part_read text first number index part one in
    let own = part_grouped s text first index part inside cut keyed read in
    let key = keyed_on (Rotor s) text first index part.heading keyed
    (part_keys (Rotor s) text first index part keyed read) in
    let found : Option ℕ = find (heading_follows text) (range_with_len index (length text - index)) in
    let after : flat_map (next_group text) (range_with_len index (length text - index)) ≡ groups_after text found =
    after_found text (length text - index) index (omega (arith, inside)) in
    let parts : parts_of (drop index text) ≡ cut.part ∷ cut.others =
    as_parts (drop index text) cut.part cut.others cut.cut in
    let groups : groups_from text index ≡ own.group ∷ groups_after text found =
    ap (λ l. l ++ flat_map (next_group text) (range_with_len index (length text - index))) own.found
    ∙ ap (λ l. own.group ∷ l) after in
    let later : first_end text index < length text
    → AreGroupsOfParts (Rotor s) (parts_of (drop (first_end text index) text))
    (groups_from text (first_end text index)) =
    (λ less. form_step text left number first part result (part.end == length text) rest
    (λ last same. let at = eqb-true part.end (length text) last in absurd (omega (arith, at, less, own.ends)))
    (λ last more. subst (λ n. AreGroupsOfParts (Rotor s) (parts_of (drop n text)) (groups_from text n)) own.ends
    (form_grouped s text left (Some (first_or part.heading first)) (number + 1) part.end result
    (omega (arith, own.ends, less)) key more))) in
    let others = rest_grouped s text cut.part (first_end text index) cut.others found refl cut.after later in
    subst (λ ps. AreGroupsOfParts (Rotor s) ps (groups_from text index)) (sym parts)
    (subst (λ gs. AreGroupsOfParts (Rotor s) (cut.part ∷ cut.others) gs) (sym groups) (own.has, others)))

-- -------- the laws

first_part : (text : List ℕ) (left : ℕ) (first : Option FormHeading) (number index : ℕ) (result : FormHeading)
    → form_from text left first number index ≡ Ok result → (part : FormPart) × IsPartRead text first index part
first_part text zero first number index result is = absurd (cc)
first_part text (suc left) first number index result is =
    with_ok (part_at text first number index) _ is (λ part one rest.
    (part, part_read text first number index part one))

begins_form : (text : List ℕ) → BeginsHeading text → is_form text ≡ true
begins_form text begins =
    let (front, first, last) = BeginsHeading-bytes text begins in
    let low : nat_le 48 (get_or text 5 0) ≡ true = grind (arith, nat_tests, first) in
    let high : nat_le (get_or text 5 0) 57 ≡ true = grind (arith, nat_tests, last) in
    rw (low, high) refl

module _ (s : Day) (form : List ℕ) (first : FormHeading) (day : IsDayOfForm s form)
    (is : form_answer form ≡ Ok first) where
  keyed_first : IsKeyed s form None 0
  keyed_first = λ end counted. subst (λ r. IfOk r (λ end. HasKeyLineForm s (heading_keys form end))) counted day

  form_there : is_form form ≡ true
  form_there =
      let (part, read) = first_part form 100 None 1 0 first is in
      let heading = heading_read form None 0 part.heading read.headed in
      let (h, agree) = heading_is s form None 0 part.heading (part_keys s form None 0 part keyed_first read) heading in
      begins_form form (begins_there s form h (drop part.heading.body form) agree.has)

  keys_first : HasKeyLineForm s first.keys
  keys_first = form_keys s form 100 None 1 0 first keyed_first is

  message_there : message_of form ≡ form_message form (Ok first)
  message_there =
      ap (λ b. cond b (form_message form (form_answer form)) (order_message form (order_start form))) form_there
      ∙ ap (form_message form) is

rotor_groups : (s : RotorDay) (form : List ℕ) (keys : KeyLine) → HasKeyLineForm (Rotor s) keys
    → form_groups form keys ≡ rotor_form_groups form
rotor_groups s form lines.ThreeSlots same = refl
rotor_groups s form lines.FourSlots same = refl
rotor_groups s form lines.Converter same = absurd same

pub body_groups_agree : FormGroupsAreThoseOfBodies
body_groups_agree s form first day is =
    let whole : length form - 0 ≡ length form = omega arith in
    let all : groups_from form 0 ≡ rotor_form_groups form =
    ap (λ n. part_group form 0 ++ flat_map (next_group form) (range_with_len 0 n)) whole in (
      rotor_form_groups form,
      message_there (Rotor s) form first day is
          ∙ ap (λ g. Some (record { keys = first.keys; groups = g }))
          (rotor_groups s form first.keys (keys_first (Rotor s) form first day is)),
      subst (AreGroupsOfParts (Rotor s) (parts_of form)) all
          (form_grouped s form 100 None 1 0 first (omega arith) (keyed_first (Rotor s) form first day is) is),
    )

converter_keys : (s : PinDay) (keys : KeyLine) → HasKeyLineForm (Pin s) keys → keys ≡ lines.Converter
converter_keys s lines.ThreeSlots same = absurd same
converter_keys s lines.FourSlots same = absurd same
converter_keys s lines.Converter same = refl

pub no_groups_agree : ConverterFormsHaveNoGroups
no_groups_agree s form first day is =
    message_there (Pin s) form first day is
    ∙ ap (λ k. Some (record { keys = k; groups = form_groups form k }))
    (converter_keys s first.keys (keys_first (Pin s) form first day is))
