-- How a damaged form is cut into parts, and read part by part.
use Rattle.std.proofs.Common.{◌≡◌, ◌∙◌, ℕ, suc, ◌+◌, ◌<◌, ◌≤◌, List, [], ◌∷◌, ◌++◌, length}
use Rattle.std.proofs.Common.{drop, take, refl, sym, ap, subst, arith, true, false, get_or, append_assoc}
use Rattle.std.proofs.Common.{Option, Some, None, MatchOption, is_some, length-append, option_map, unwrap_or}
use Rattle.std.specs.Prelude.{IfSome}
use Rattle.std.proofs.lemmas.List.{append-nil, drop_all, drop_more, take_all, take_more}
use Rattle.kd_state.specs.SheetDay.{Day}
use Rattle.kd_form.specs.declared.heading.Heading.{Heading}
use Rattle.kd_lost.specs.declared.part.{DamagedPart.{DamagedPart}, PartNumbers.{PartNumbers}}
use Rattle.kd_lost.specs.DamagedPart.{AreNumbersRead, IsDamagedHeading}
use Rattle.kd_lost.specs.DamagedForm.{AreReadOf, IsReadAt, IsReadOf, PlacedPart, completed_parts, cut_at_heading_lines}
use Rattle.kd_lost.specs.DamagedForm.{damaged_parts_of}
use Rattle.kd_lost.specs.DamagedForm.{ends_part, form_parts, parts_cut, placed_from}
use Rattle.kd_lost.specs.Lines.{heading_line, line_breaks}

-- -------- cutting

-- `form` is cut as its bytes from place `i` on, behind the bytes before
pub record IsCutTo (form : List ℕ) (i : ℕ) : Type 0 where
  pub part : (cut_at_heading_lines form).0 ≡ take i form ++ (cut_at_heading_lines (drop i form)).0
  pub others : (cut_at_heading_lines form).1 ≡ (cut_at_heading_lines (drop i form)).1

pub no_end : (byte : ℕ) (bytes : List ℕ) → ends_part byte bytes ≡ false
    → cut_at_heading_lines (byte ∷ bytes) ≡ (byte ∷ (cut_at_heading_lines bytes).0, (cut_at_heading_lines bytes).1)
no_end byte bytes off = rw off refl

pub an_end : (byte : ℕ) (bytes : List ℕ) → ends_part byte bytes ≡ true
    → cut_at_heading_lines (byte ∷ bytes) ≡ (byte ∷ [], parts_cut bytes)
an_end byte bytes ends = rw ends refl

pub cut_begun : (form : List ℕ) → IsCutTo form 0
cut_begun form = record { part = refl; others = refl }

pub cut_further : (form : List ℕ) (i : ℕ) → i < length form → ends_part (get_or form i 0) (drop (i + 1) form) ≡ false
    → IsCutTo form i → IsCutTo form (i + 1)
cut_further form i inside off before =
    let x = get_or form i 0 in
    let cut = ap cut_at_heading_lines (drop_more form i 0 inside) ∙ no_end x (drop (i + 1) form) off in
    record {
      part =
          before.part ∙ ap (λ c. take i form ++ c.0) cut
          ∙ sym (append_assoc (take i form) (x ∷ []) (cut_at_heading_lines (drop (i + 1) form)).0)
          ∙ ap (λ l. l ++ (cut_at_heading_lines (drop (i + 1) form)).0) (sym (take_more form i 0 inside));
      others = before.others ∙ ap (λ c. c.1) cut;
    }

pub cut_there : (form : List ℕ) (i : ℕ) → i < length form → ends_part (get_or form i 0) (drop (i + 1) form) ≡ true
    → IsCutTo form i
    → ((cut_at_heading_lines form).0 ≡ take (i + 1) form) × ((cut_at_heading_lines form).1 ≡ parts_cut (drop (i + 1) form))
cut_there form i inside ends before =
    let cut = ap cut_at_heading_lines (drop_more form i 0 inside) ∙ an_end (get_or form i 0) (drop (i + 1) form) ends in (
      before.part ∙ ap (λ c. take i form ++ c.0) cut ∙ sym (take_more form i 0 inside),
      before.others ∙ ap (λ c. c.1) cut,
    )

pub cut_nowhere : (form : List ℕ) (i : ℕ) → length form ≤ i → IsCutTo form i
    → ((cut_at_heading_lines form).0 ≡ form) × ((cut_at_heading_lines form).1 ≡ [])
cut_nowhere form i past before =
    let none = drop_all i form past in (
      before.part ∙ ap (λ r. take i form ++ (cut_at_heading_lines r).0) none ∙ append-nil (take i form) ∙ take_all i form past,
      before.others ∙ ap (λ r. (cut_at_heading_lines r).1) none,
    )

-- -------- reading the parts

pub completed_length : (copies : List DamagedPart) (index : ℕ) (parts : List PlacedPart)
    → length (completed_parts copies index parts) ≡ length parts
completed_length copies index [] = refl
completed_length copies index (part ∷ parts) = ap suc (completed_length copies (index + 1) parts)

pub read_more : (s : Day) (parts : List PlacedPart) (reads : List DamagedPart) (part : PlacedPart) (read : DamagedPart)
    → AreReadOf s parts reads → IsReadAt s part read → AreReadOf s (parts ++ part ∷ []) (reads ++ read ∷ [])
read_more s [] [] part read are is = (is, tt)
read_more s [] (other ∷ reads) part read are is = absurd are
read_more s (one ∷ parts) [] part read are is = absurd are
read_more s (one ∷ parts) (other ∷ reads) part read are is = (are.0, read_more s parts reads part read are.1 is)

pub as_many_read : (s : Day) (parts : List PlacedPart) (reads : List DamagedPart) → AreReadOf s parts reads
    → length parts ≡ length reads
as_many_read s [] [] are = refl
as_many_read s [] (other ∷ reads) are = absurd are
as_many_read s (one ∷ parts) [] are = absurd are
as_many_read s (one ∷ parts) (other ∷ reads) are = ap suc (as_many_read s parts reads are.1)

-- if the numbers of a part are read, its first line is a heading; otherwise it isn't
pub heading_read : (s : Day) (line : List ℕ) (numbers : Option PartNumbers) → AreNumbersRead s line numbers
    → is_some numbers ≡ true → (h : Heading) × IsDamagedHeading s line h
heading_read s line None told some = absurd (cc)
heading_read s line (Some given) told some = (told.0, told.1)

pub no_heading_read : (s : Day) (line : List ℕ) (numbers : Option PartNumbers) → AreNumbersRead s line numbers
    → is_some numbers ≡ false → (h : Heading) → ¬ (IsDamagedHeading s line h)
no_heading_read s line None told none = told
no_heading_read s line (Some given) told none = absurd (cc)

-- less is left after one more part
pub less_left : {B : Type 0} (now : B → List ℕ) (left next : Option B) (rest : B) → left ≡ Some rest
    → IfSome next (λ more. length (now more) < length (now rest))
    → unwrap_or (option_map (λ r. length (now r) + 1) next) 0 < unwrap_or (option_map (λ r. length (now r) + 1) left) 0
less_left now left None rest is less =
    subst (λ l. 0 < unwrap_or (option_map (λ r. length (now r) + 1) l) 0) (sym is) (omega arith)
less_left now left (Some more) rest is less =
    subst (λ l. length (now more) + 1 < unwrap_or (option_map (λ r. length (now r) + 1) l) 0) (sym is)
    (omega (arith, less))

-- what is left after one more part
pub left_on : {B : Type 0} (now : B → List ℕ) (next : Option B) (all done : List PlacedPart) (line breaks size : ℕ)
    (rest part : List ℕ) → all ≡ done ++ placed_from line (parts_cut rest) → line + length rest ≤ size
    → part ≡ (cut_at_heading_lines rest).0
    → MatchOption next ((cut_at_heading_lines rest).1 ≡ []) (λ more. (cut_at_heading_lines rest).1 ≡ parts_cut (now more))
    → IfSome next (λ more. length part + length (now more) ≡ length rest) → breaks ≡ line_breaks part
    → breaks ≤ length part
    → MatchOption next (all ≡ done ++ record { bytes = part; line = line } ∷ [])
    (λ more. (all ≡ (done ++ record { bytes = part; line = line } ∷ [])
    ++ placed_from (line + breaks) (parts_cut (now more)))
    × (line + breaks + length (now more) ≤ size))
left_on now None all done line breaks size rest part is few first others joined ends less =
    is ∙ λ i. done ++ record { bytes = sym first i; line = line }
    ∷ placed_from (line + line_breaks (cut_at_heading_lines rest).0) (others i)
left_on now (Some more) all done line breaks size rest part is few first others joined ends less = (
  is ∙ (λ i. done ++ record { bytes = sym first i; line = line }
      ∷ placed_from (line + line_breaks (sym first i)) (others i))
      ∙ sym (append_assoc done (record { bytes = part; line = line } ∷ [])
      (placed_from (line + line_breaks part) (parts_cut (now more))))
      ∙ (λ i. (done ++ record { bytes = part; line = line } ∷ [])
      ++ placed_from (line + sym ends i) (parts_cut (now more))),
  omega (arith, few, joined, less),
)

pub too_many : (s : Day) (copies : List DamagedPart) (all done : List PlacedPart) (reads : List DamagedPart) (line : ℕ)
    (rest : List ℕ) → AreReadOf s (completed_parts copies 0 done) reads → all ≡ done ++ placed_from line (parts_cut rest)
    → length reads ≡ 255 → 255 < length all
too_many s copies all done reads line rest are is many =
    omega (
      arith,
      as_many_read s (completed_parts copies 0 done) reads are,
      completed_length copies 0 done,
      ap length is,
      length-append done (placed_from line (parts_cut rest)),
      many,
    )

-- -------- the parts, wherever they stand

-- Each part is read by itself.
abbrev pub AreAllReadOf : Day → List (List ℕ) → List DamagedPart → Type 0
AreAllReadOf s [] [] = Unit {0}
AreAllReadOf s (part ∷ parts) (read ∷ reads) = IsReadOf s part read × AreAllReadOf s parts reads
AreAllReadOf s [] (read ∷ reads) = ⊥
AreAllReadOf s (part ∷ parts) [] = ⊥

all_read_from : (s : Day) (line : ℕ) (parts : List (List ℕ)) (reads : List DamagedPart)
    → AreReadOf s (placed_from line parts) reads → AreAllReadOf s parts reads
all_read_from s line [] [] are = tt
all_read_from s line [] (read ∷ reads) are = absurd are
all_read_from s line (part ∷ parts) [] are = absurd are
all_read_from s line (part ∷ parts) (read ∷ reads) are =
    (are.0.0, all_read_from s (line + line_breaks part) parts reads are.1)

pub all_read : (s : Day) (form : List ℕ) (reads : List DamagedPart) → AreReadOf s (damaged_parts_of form) reads
    → AreAllReadOf s (form_parts form) reads
all_read s form reads are = all_read_from s (heading_line form) (form_parts form) reads are
