-- A form that `receive` reads is cut into its parts, and shown whole.
use Rattle.std.proofs.Common.{All, ◌≡◌, ◌≢◌, ◌∙◌, ◌⊎◌, inl, inr, ℕ, ◌≤◌, ◌==◌, ◌&&◌, ◌||◌, nat_le, IsTrue, IsFalse}
use Rattle.std.proofs.Common.{List, [], ◌∷◌, ◌++◌, drop, length, map, take, refl, sym, ap, subst, arith, Bool, true, false}
use Rattle.std.proofs.Common.{Some, Ok, codes, get_or, slice_get, if◌then◌else◌}
use Rattle.std.proofs.lemmas.Bool.{Decides.nat_tests, and_parts, cases_Bool, cases_eq, false≢true}
use Rattle.std.proofs.lemmas.List.{take-append-drop}
use Rattle.std.proofs.lemmas.List.Elements.{All-append, All-cons, All-head, All-nil, All-tail, All-weaker}
use Rattle.kd_tables.specs.Text.{is_text_byte}
use Rattle.kd_tables.specs.LineWords.{IsWithout}
use Rattle.kd_state.specs.SheetDay.{Day}
use Rattle.kd_form.specs.FormParts.{BeginsHeading, begins_heading, cut_at_headings, parts_of}
use Rattle.kd_form.specs.declared.heading.Heading.{Heading}
use Rattle.kd_form.specs.FormText.{IsAnswerAt, IsTextOf, ReadsPartsTo, first_part_start, next_part_start, plaintext_bytes}
use Rattle.kd_form.specs.PartReading.{IsPartAnswer, PartStart, ReadPart}
use Rattle.kd_state.proofs.OneAnswer.{ThenNext-Ok}
use Rattle.kd_form.specs.Sending.{space_letter}
use Rattle.kd_form.proofs.Headings.{BeginsHeading-bytes, at_cut, begins_more, begins_there, first_there, heading_size}
use Rattle.kd_form.proofs.Headings.{no_cut}
use Rattle.std.proofs.lemmas.List.{map-append}
use Rattle.kd_lost.specs.declared.{part.DamagedPart.{DamagedPart}}
use Rattle.kd_lost.specs.HeadingLine.{after_blanks, after_word, has_digit_line, has_lost_number, has_short_word, is_blank}
use Rattle.kd_lost.specs.HeadingLine.{is_lost_sign, is_part_line}
unfoldable use Rattle.kd_lost.specs.HeadingLine.{fitting_signs, is_heading_line, is_letter, may_be_part, right_signs}
use Rattle.kd_lost.specs.Lost.{is_lost}
use Rattle.kd_lost.specs.DamagedForm.{AsItStands, IsMeant, IsReadOf, Respaced, cut_at_heading_lines}
use Rattle.kd_lost.specs.DamagedForm.{ends_part, parts_cut, shown_byte}
use Rattle.kd_lost.specs.DamagedPart.{IsDamagedHeading, IsDamagedTextAnswer, first_line}
use Rattle.kd_lost.specs.Tidy.{from_heading, without_mark}
use Rattle.kd_lost.proofs.CompletedParts.{chosen_cases}
use Rattle.kd_lost.proofs.Parts.{lines_there}
use Rattle.kd_lost.specs.DamagedForm.{letters_in, shown_letters}
use Rattle.kd_lost.specs.Laws.{FormsReadAreShownWhole, FormsReadAreTidy, FormsReadHaveTheirParts, IsReadWell}
use Rattle.kd_lost.proofs.Forms.{AreAllReadOf, all_read, an_end, no_end}
use Rattle.kd_lost.proofs.WholeParts.{shown_whole, whole_part}

-- -------- lines without digits

-- behind its first line, the part has no line with a digit
abbrev pub IsQuiet : List ℕ → Type 0
IsQuiet [] = Unit {0}
IsQuiet (byte ∷ bytes) = (byte ≡ 10 → has_digit_line bytes ≡ false) × IsQuiet bytes

abbrev pub AreQuiet : List (List ℕ) → Type 0
AreQuiet [] = Unit {0}
AreQuiet (part ∷ parts) = IsQuiet part × AreQuiet parts

no_digit : (byte : ℕ) (rest : Bool) → IsTrue (is_text_byte byte) → rest ≡ false
    → (if byte == 10 then false else (nat_le 47 byte && nat_le byte 57) || rest) ≡ false
no_digit byte rest allowed none = grind (arith, nat_tests, cases_Bool, allowed, none)

no_digits : (body : List ℕ) → All (λ byte. IsTrue (is_text_byte byte)) body → has_digit_line body ≡ false
no_digits [] allowed = refl
no_digits (byte ∷ body) allowed =
    no_digit byte (has_digit_line body) (All-head (λ byte. IsTrue (is_text_byte byte)) byte body allowed)
    (no_digits body (All-tail (λ byte. IsTrue (is_text_byte byte)) byte body allowed))

quiet_body : (body : List ℕ) → All (λ byte. IsTrue (is_text_byte byte)) body → IsQuiet body
quiet_body [] allowed = tt
quiet_body (byte ∷ body) allowed =
    let rest = All-tail (λ byte. IsTrue (is_text_byte byte)) byte body allowed in
    ((λ _. no_digits body rest), quiet_body body rest)

quiet_line : (line rest : List ℕ) → IsWithout 10 line → IsQuiet rest → IsQuiet (line ++ rest)
quiet_line [] rest without quiet = quiet
quiet_line (byte ∷ line) rest without quiet = (
  (λ is. absurd (All-head (λ other. other ≢ 10) byte line without is)),
  quiet_line line rest (All-tail (λ other. other ≢ 10) byte line without) quiet,
)

module _ (s : Day) where
  quiet_parts : (p : PartStart) (parts : List (List ℕ)) (letters : List ℕ)
      → ReadsPartsTo s (IsAnswerAt s (Ok tt)) p parts letters → AreQuiet parts
  quiet_parts p [] letters read = tt
  quiet_parts p (part ∷ parts) letters (inl (fault, none)) = let off = fault.2 in absurd (cc)
  quiet_parts p (part ∷ parts) letters (inr (read, more, is, rest, joined)) =
      let w = whole_part s p part read is in (
        subst IsQuiet (sym w.first.joined)
            (quiet_line w.line (10 ∷ w.body) w.first.without (
              (λ _. no_digits w.body w.allowed),
              quiet_body w.body w.allowed,
            )),
        quiet_parts (next_part_start p read.parts part) parts more rest,
      )

-- -------- both cuts

cut_or_not : (byte : ℕ) (bytes : List ℕ) → ((byte ≡ 10) × BeginsHeading bytes) ⊎ ((byte ≡ 10) → ¬ (BeginsHeading bytes))
cut_or_not byte bytes = grind (arith, cases_eq byte 10, cases_Bool (begins_heading bytes), false≢true)

digit_behind : (byte : ℕ) (rest : Bool) → 32 ≤ byte → rest ≡ true
    → (if byte == 10 then false else (nat_le 47 byte && nat_le byte 57) || rest) ≡ true
digit_behind byte rest high some = grind (arith, nat_tests, cases_Bool, high, some)

digit_here : (byte : ℕ) (rest : Bool) → 48 ≤ byte → byte ≤ 57
    → (if byte == 10 then false else (nat_le 47 byte && nat_le byte 57) || rest) ≡ true
digit_here byte rest low high = grind (arith, nat_tests, low, high)

heading_digit : (bytes : List ℕ) → 6 ≤ length bytes → take 5 bytes ≡ codes "PART " → 48 ≤ get_or bytes 5 0
    → get_or bytes 5 0 ≤ 57 → has_digit_line bytes ≡ true
heading_digit (a ∷ b ∷ c ∷ d ∷ e ∷ f ∷ bytes) long front low high =
    let one : a ≡ 80 = ap (λ l. get_or l 0 0) front in
    let two : b ≡ 65 = ap (λ l. get_or l 1 0) front in
    let three : c ≡ 82 = ap (λ l. get_or l 2 0) front in
    let four : d ≡ 84 = ap (λ l. get_or l 3 0) front in
    let five : e ≡ 32 = ap (λ l. get_or l 4 0) front in
    digit_behind a _ (omega (arith, one)) (digit_behind b _ (omega (arith, two)) (digit_behind c _ (omega
    (arith, three))
    (digit_behind d _ (omega (arith, four)) (digit_behind e _ (omega (arith, five))
    (digit_here f (has_digit_line bytes) low high)))))
heading_digit [] long front low high = absurd (omega (arith, long))
heading_digit (a ∷ []) long front low high = absurd (omega (arith, long))
heading_digit (a ∷ b ∷ []) long front low high = absurd (omega (arith, long))
heading_digit (a ∷ b ∷ c ∷ []) long front low high = absurd (omega (arith, long))
heading_digit (a ∷ b ∷ c ∷ d ∷ []) long front low high = absurd (omega (arith, long))
heading_digit (a ∷ b ∷ c ∷ d ∷ e ∷ []) long front low high = absurd (omega (arith, long))

begins_with_digit : (bytes : List ℕ) → BeginsHeading bytes → has_digit_line bytes ≡ true
begins_with_digit bytes begun =
    let told = BeginsHeading-bytes bytes begun in
    heading_digit bytes (heading_size bytes begun) told.0 told.1 told.2

-- a line that begins a heading for `receive` is taken for one
heading_begun : (more : List ℕ) → has_digit_line (codes "PART " ++ more) ≡ true
    → is_heading_line (codes "PART " ++ more) ≡ true
unfolding is_heading_line right_signs fitting_signs is_letter
heading_begun more digit = ap (λ b. b || has_lost_number (codes "PART " ++ more)) digit

begun_text : (bytes : List ℕ) → BeginsHeading bytes → bytes ≡ codes "PART " ++ drop 5 bytes
begun_text bytes begun =
    sym (take-append-drop 5 bytes) ∙ ap (λ l. l ++ drop 5 bytes) (BeginsHeading-bytes bytes begun).0

begins_line : (bytes : List ℕ) → BeginsHeading bytes → is_heading_line bytes ≡ true
begins_line bytes begun =
    let is = begun_text bytes begun in
    ap is_heading_line is
    ∙ heading_begun (drop 5 bytes) (sym (ap has_digit_line is) ∙ begins_with_digit bytes begun)

same_line_from : (byte : ℕ) (bytes : List ℕ)
    → ((byte ≡ 10) × BeginsHeading bytes) ⊎ ((byte ≡ 10) → ¬ (BeginsHeading bytes))
    → has_digit_line (cut_at_headings bytes).0 ≡ has_digit_line bytes
    → has_digit_line (cut_at_headings (byte ∷ bytes)).0 ≡ has_digit_line (byte ∷ bytes)
same_line_from byte bytes (inl (is, begun)) same =
    subst (λ b. has_digit_line (cut_at_headings (b ∷ bytes)).0 ≡ has_digit_line (b ∷ bytes)) (sym is)
    (ap (λ c. has_digit_line c.0) (at_cut bytes begun))
same_line_from byte bytes (inr not) same =
    ap (λ c. has_digit_line c.0) (no_cut byte bytes not)
    ∙ ap (λ h. if byte == 10 then false else (nat_le 47 byte && nat_le byte 57) || h) same

-- the first line of the first part is the form's
same_line : (bytes : List ℕ) → has_digit_line (cut_at_headings bytes).0 ≡ has_digit_line bytes
same_line [] = refl
same_line (byte ∷ bytes) = same_line_from byte bytes (cut_or_not byte bytes) (same_line bytes)

-- -------- bytes of which none is lost

abbrev AreKept : List ℕ → Type 0
AreKept bytes = All (λ byte. IsFalse (is_lost byte)) bytes

kept_rest : (byte : ℕ) (bytes : List ℕ) → AreKept (byte ∷ bytes) → AreKept bytes
kept_rest byte bytes kept = All-tail (λ b. IsFalse (is_lost b)) byte bytes kept

kept_after_blanks : (bytes : List ℕ) → AreKept bytes → AreKept (after_blanks bytes)
kept_after_blanks [] kept = kept
kept_after_blanks (byte ∷ bytes) kept =
    chosen_cases AreKept (byte ∷ bytes) (after_blanks bytes) (is_blank byte) kept
    (kept_after_blanks bytes (kept_rest byte bytes kept))

kept_after_word : (bytes : List ℕ) → AreKept bytes → AreKept (after_word bytes)
kept_after_word [] kept = kept
kept_after_word (byte ∷ bytes) kept =
    chosen_cases AreKept (after_word bytes) (byte ∷ bytes) (is_blank byte || byte == 10)
    (kept_after_word bytes (kept_rest byte bytes kept)) kept

kept_first : (bytes : List ℕ) → AreKept bytes → is_lost_sign (slice_get bytes 0) ≡ false
kept_first [] kept = refl
kept_first (byte ∷ bytes) kept = All-head (λ b. IsFalse (is_lost b)) byte bytes kept

not_both : (one other : Bool) → other ≡ false → (one && other) ≡ false
not_both true other none = none
not_both false other none = refl

no_lost_number : (bytes : List ℕ) → AreKept bytes → has_lost_number bytes ≡ false
no_lost_number bytes kept =
    not_both (has_short_word (after_blanks bytes)) _
    (kept_first (after_blanks (after_word (after_blanks bytes)))
    (kept_after_blanks (after_word (after_blanks bytes))
    (kept_after_word (after_blanks bytes) (kept_after_blanks bytes kept))))

form_kept_from : (byte : ℕ) (bytes : List ℕ)
    → ((byte ≡ 10) × BeginsHeading bytes) ⊎ ((byte ≡ 10) → ¬ (BeginsHeading bytes))
    → All AreKept (parts_of (byte ∷ bytes)) → (All AreKept (parts_of bytes) → AreKept bytes) → AreKept (byte ∷ bytes)
form_kept_from byte bytes (inl (is, begun)) kept rest =
    let cut = ap (λ b. cut_at_headings (b ∷ bytes)) is ∙ at_cut bytes begun in
    let parts = subst (λ (c : List ℕ × List (List ℕ)). All AreKept (c.0 ∷ c.1)) cut kept in
    subst (λ b. AreKept (b ∷ bytes)) (sym is)
    (All-cons (λ b. IsFalse (is_lost b)) 10 bytes refl (rest (All-tail AreKept (10 ∷ []) (parts_of bytes) parts)))
form_kept_from byte bytes (inr not) kept rest =
    let parts = subst (λ (c : List ℕ × List (List ℕ)). All AreKept (c.0 ∷ c.1)) (no_cut byte bytes not) kept in
    let first = (cut_at_headings bytes).0 in
    let others = (cut_at_headings bytes).1 in
    let one = All-head AreKept (byte ∷ first) others parts in
    All-cons (λ b. IsFalse (is_lost b)) byte bytes (All-head (λ b. IsFalse (is_lost b)) byte first one)
    (rest (All-cons AreKept first others (kept_rest byte first one) (All-tail AreKept (byte ∷ first) others parts)))

-- if no byte of its parts is lost, none of the form is
form_kept : (form : List ℕ) → All AreKept (parts_of form) → AreKept form
form_kept [] kept = All-nil (λ b. IsFalse (is_lost b))
form_kept (byte ∷ bytes) kept = form_kept_from byte bytes (cut_or_not byte bytes) kept (form_kept bytes)

kept_text : (byte : ℕ) → IsTrue (is_text_byte byte) → IsFalse (is_lost byte)
kept_text byte allowed = grind (arith, nat_tests, cases_Bool, allowed)

-- no byte of the parts that `receive` reads is lost
pub parts_kept : (s : Day) (p : PartStart) (parts : List (List ℕ)) (letters : List ℕ)
    → ReadsPartsTo s (IsAnswerAt s (Ok tt)) p parts letters → All (All (λ b. IsFalse (is_lost b))) parts
parts_kept s p [] letters read = All-nil AreKept
parts_kept s p (part ∷ parts) letters (inl (fault, none)) = let off = fault.2 in absurd (cc)
parts_kept s p (part ∷ parts) letters (inr (read, more, is, rest, joined)) =
    let w = whole_part s p part read is in
    let body = All-weaker (λ b. IsTrue (is_text_byte b)) (λ b. IsFalse (is_lost b)) (λ b. kept_text b) w.body w.allowed in
    All-cons AreKept part parts
    (subst AreKept (sym w.first.joined)
    (All-append (λ b. IsFalse (is_lost b)) w.line (10 ∷ w.body) w.kept
    (All-cons (λ b. IsFalse (is_lost b)) 10 w.body refl body)))
    (parts_kept s (next_part_start p read.parts part) parts more rest)

no_line_from : (begun digit lost : Bool) → digit ≡ false → lost ≡ false → (begun && (digit || lost)) ≡ false
no_line_from true digit lost none kept = ap (λ b. b || lost) none ∙ kept
no_line_from false digit lost none kept = refl

-- a line without a digit, of which nothing is lost, isn't taken for a heading
no_line : (bytes : List ℕ) → has_digit_line bytes ≡ false → AreKept bytes → is_heading_line bytes ≡ false
unfolding is_heading_line
no_line bytes none kept =
    no_line_from (is_part_line bytes) (has_digit_line bytes) (has_lost_number bytes) none (no_lost_number bytes kept)

not_ended_from : (byte : ℕ) (begun : Bool) → (byte ≡ 10 → begun ≡ false) → (byte == 10 && begun) ≡ false
not_ended_from byte begun off = grind (arith, nat_tests, cases_eq byte 10, off)

not_ended : (byte : ℕ) (bytes : List ℕ) → (byte ≡ 10 → has_digit_line bytes ≡ false) → AreKept bytes
    → ends_part byte bytes ≡ false
not_ended byte bytes off kept = not_ended_from byte (is_heading_line bytes) (λ is. no_line bytes (off is) kept)

same_cut_from : (byte : ℕ) (bytes : List ℕ)
    → ((byte ≡ 10) × BeginsHeading bytes) ⊎ ((byte ≡ 10) → ¬ (BeginsHeading bytes)) → AreQuiet (parts_of (byte ∷ bytes))
    → AreKept (byte ∷ bytes) → (AreQuiet (parts_of bytes) → cut_at_heading_lines bytes ≡ cut_at_headings bytes)
    → cut_at_heading_lines (byte ∷ bytes) ≡ cut_at_headings (byte ∷ bytes)
same_cut_from byte bytes (inl (is, begun)) quiet kept same =
    let cut = ap (λ b. cut_at_headings (b ∷ bytes)) is ∙ at_cut bytes begun in
    let ends : ends_part 10 bytes ≡ true = begins_line bytes begun in
    let rest = subst (λ (c : List ℕ × List (List ℕ)). AreQuiet (c.0 ∷ c.1)) cut quiet in
    ap (λ b. cut_at_heading_lines (b ∷ bytes)) is ∙ an_end 10 bytes ends
    ∙ ap (λ (c : List ℕ × List (List ℕ)). (10 ∷ [], c.0 ∷ c.1)) (same rest.1) ∙ sym cut
same_cut_from byte bytes (inr not) quiet kept same =
    let cut = no_cut byte bytes not in
    let rest = subst (λ (c : List ℕ × List (List ℕ)). AreQuiet (c.0 ∷ c.1)) cut quiet in
    let off : byte ≡ 10 → has_digit_line bytes ≡ false = λ is. sym (same_line bytes) ∙ rest.0.0 is in
    no_end byte bytes (not_ended byte bytes off (kept_rest byte bytes kept))
    ∙ ap (λ (c : List ℕ × List (List ℕ)). (byte ∷ c.0, c.1)) (same (rest.0.1, rest.1)) ∙ sym cut

same_cut : (form : List ℕ) → AreQuiet (parts_of form) → AreKept form
    → cut_at_heading_lines form ≡ cut_at_headings form
same_cut [] quiet kept = refl
same_cut (byte ∷ bytes) quiet kept =
    same_cut_from byte bytes (cut_or_not byte bytes) quiet kept
    (λ rest. same_cut bytes rest (kept_rest byte bytes kept))

-- -------- nothing before the first heading

begun_part : (s : Day) (p : PartStart) (part : List ℕ) (read : ReadPart) → IsPartAnswer s p part (Ok read)
    → BeginsHeading part
begun_part s p part read is =
    let one = ThenNext-Ok (ThenNext-Ok is).says in
    begins_there s part one.found.heading one.found.body one.says

begun_first : (s : Day) (p : PartStart) (part : List ℕ) (parts : List (List ℕ)) (letters : List ℕ)
    → ReadsPartsTo s (IsAnswerAt s (Ok tt)) p (part ∷ parts) letters → BeginsHeading part
begun_first s p part parts letters (inl (fault, none)) = let off = fault.2 in absurd (cc)
begun_first s p part parts letters (inr (read, more, is, rest, joined)) = begun_part s p part read is

begun_form : (s : Day) (form text : List ℕ) → IsTextOf s form text → BeginsHeading form
begun_form s form text (parts, (letters, read, is), joined) =
    let (rest, there) = first_there form in
    subst BeginsHeading (sym there)
    (begins_more (cut_at_headings form).0 rest
    (begun_first s first_part_start (cut_at_headings form).0 (cut_at_headings form).1 letters read))

no_mark : (more : List ℕ) → without_mark (codes "PART " ++ more) ≡ codes "PART " ++ more
no_mark more = refl

from_first : (bytes : List ℕ) → is_heading_line bytes ≡ true → from_heading bytes ≡ bytes
unfolding may_be_part is_heading_line
from_first bytes begins =
    rw (and_parts (is_part_line bytes) (has_digit_line bytes || has_lost_number bytes) begins).0 refl

pub tidy_forms : FormsReadAreTidy
tidy_forms s form text is =
    let begun = begun_form s form text is in
    let there = begun_text form begun in
    ap from_heading (ap without_mark there ∙ no_mark (drop 5 form) ∙ sym there)
    ∙ from_first form (begins_line form begun)

pub same_parts : FormsReadHaveTheirParts
same_parts s form text is =
    let (parts, (letters, read, made), joined) = is in
    ap parts_cut (tidy_forms s form text is)
    ∙ ap (λ (c : List ℕ × List (List ℕ)). c.0 ∷ c.1)
    (same_cut form (quiet_parts s first_part_start (parts_of form) letters read)
    (form_kept form (parts_kept s first_part_start (parts_of form) letters read)))

-- -------- the texts

pub shown_known : (s : Day) (letters : List ℕ)
    → map (shown_byte (space_letter s)) (map Some letters) ≡ plaintext_bytes s letters
shown_known s [] = refl
shown_known s (letter ∷ letters) = ap (λ l. shown_byte (space_letter s) (Some letter) ∷ l) (shown_known s letters)

-- a part that `receive` reads is read as it stands
pub as_it_stands : (s : Day) (p : PartStart) (part : List ℕ) (read : ReadPart) (one : DamagedPart)
    → IsPartAnswer s p part (Ok read) → (is : IsReadOf s part one) → is.meant ≡ part
as_it_stands s p part read one is of =
    let w = whole_part s p part read is in
    let first : first_line part ≡ w.line =
    ap first_line w.first.joined ∙ (lines_there w.line w.body w.first.without).0 in
    meant_whole s part of.meant w.h (subst (λ l. IsDamagedHeading s l w.h) (sym first) w.headed) of.is_meant
  where
    meant_whole : (s : Day) (part meant : List ℕ) (h : Heading) → IsDamagedHeading s (first_line part) h
        → IsMeant s part meant → meant ≡ part
    meant_whole s part meant h headed (AsItStands other there is) = is
    meant_whole s part meant h headed (Respaced none is) = absurd (none h headed)

module _ (s : Day) where
  parts_shown : (p : PartStart) (parts : List (List ℕ)) (letters : List ℕ) (reads : List DamagedPart)
      → ReadsPartsTo s (IsAnswerAt s (Ok tt)) p parts letters → AreAllReadOf s parts reads
      → All IsReadWell reads × (shown_letters reads ≡ map Some letters)
  parts_shown p [] letters [] read are = (All-nil IsReadWell, sym (ap (map Some) read.1))
  parts_shown p [] letters (one ∷ reads) read are = absurd are
  parts_shown p (part ∷ parts) letters [] read are = absurd are
  parts_shown p (part ∷ parts) letters (one ∷ reads) (inl (fault, none)) are = let off = fault.2 in absurd (cc)
  parts_shown p (part ∷ parts) letters (one ∷ reads) (inr (read, more, is, rest, joined)) are =
      let text = subst (λ l. IsDamagedTextAnswer s l one.text) (as_it_stands s p part read one is are.0) are.0.as_meant.text in
      let (shown, told, whole) = shown_whole s p part read one.text is text in
      let others = parts_shown (next_part_start p read.parts part) parts more reads rest are.1 in (
        All-cons IsReadWell one reads (shown, told, whole.group, whole.copies) others.0,
        ap (λ t. letters_in t ++ shown_letters reads) told ∙ ap (λ l. l ++ shown_letters reads) whole.letters
            ∙ ap (λ l. map Some read.letters ++ l) others.1 ∙ sym (map-append Some read.letters more)
            ∙ ap (map Some) (sym joined),
      )

pub forms_shown : FormsReadAreShownWhole
forms_shown s form text reads is are =
    let (parts, (letters, read, made), joined) = is in
    let shown = parts_shown s first_part_start (parts_of form) letters reads read
    (subst (λ l. AreAllReadOf s l reads) (same_parts s form text is) (all_read s form reads are)) in (
      shown.0,
      joined ∙ ap (λ l. l ++ 10 ∷ []) (made ∙ sym (shown_known s letters) ∙ ap (map (shown_byte (space_letter s))) (sym shown.1)),
    )
