-- Parts with the letters of their copies.
use Rattle.std.proofs.Common.{◌≡◌, ◌∙◌, ℕ, suc, ◌+◌, ◌==◌, Bool, true, false, if◌then◌else◌, List, [], ◌∷◌, ◌++◌}
use Rattle.std.proofs.Common.{◌<◌, ◌≤◌, append_assoc, drop, get_or}
use Rattle.std.proofs.lemmas.List.{drop_more}
use Rattle.std.proofs.Common.{All, IsFalse, arith, refl, sym, ap, subst, length, slice_get, is_some, Option, Some, None}
use Rattle.std.proofs.lemmas.List.Elements.{All-head, All-tail}
use Rattle.kd_state.specs.SheetDay.{Day}
use Rattle.kd_lost.specs.declared.damaged_text.DamagedText.{DamagedText}
use Rattle.kd_lost.specs.declared.part.{DamagedPart.{DamagedPart}}
use Rattle.kd_lost.specs.DamagedForm.{AreFormParts, AreReadOf, AreReadWith, PlacedPart, completed_parts, damaged_parts_of, form_parts}
use Rattle.kd_lost.specs.DamagedForm.{placed_from}
use Rattle.kd_lost.specs.DamagedPart.{first_line}
use Rattle.kd_lost.specs.Lines.{heading_line, line_breaks}
use Rattle.kd_lost.specs.Lost.{is_lost, received_letter}
use Rattle.kd_lost.specs.OneMessage.{are_of_one_message}
use Rattle.kd_lost.specs.Repetitions.{are_kept, completed_at, completed_from, completed_of, completed_or}
use Rattle.kd_lost.specs.Repetitions.{completed_with, copies_in, known_letter}
unfoldable use Rattle.kd_lost.specs.Repetitions.{completed_byte}
use Rattle.kd_lost.specs.Texts.{shown_text}
use Rattle.kd_lost.specs.Tidy.{from_line_end}
use Rattle.kd_lost.proofs.Forms.{as_many_read, completed_length}

-- -------- one part after another

pub completed_more : (copies : List DamagedPart) (index : ℕ) (done : List PlacedPart) (part : PlacedPart)
    → completed_parts copies index (done ++ part ∷ [])
    ≡ completed_parts copies index done
    ++ record { bytes = completed_at copies (index + length done) part.bytes; line = part.line } ∷ []
completed_more copies index [] part =
    let here : index ≡ index + 0 = omega arith in
    λ i. record { bytes = completed_at copies (here i) part.bytes; line = part.line } ∷ []
completed_more copies index (one ∷ done) part =
    let there : index + 1 + length done ≡ index + suc (length done) = omega arith in
    ap (λ l. record { bytes = completed_at copies index one.bytes; line = one.line } ∷ l)
    (completed_more copies (index + 1) done part
    ∙ λ i. completed_parts copies (index + 1) done
    ++ record { bytes = completed_at copies (there i) part.bytes; line = part.line } ∷ [])

-- parts without copies stay as they are
pub completed_by_none : (index : ℕ) (parts : List PlacedPart) → completed_parts [] index parts ≡ parts
completed_by_none index [] = refl
completed_by_none index (part ∷ parts) = ap (λ l. part ∷ l) (completed_by_none (index + 1) parts)

-- -------- one byte after another

pub place_after : (is : Bool) (place index : ℕ) → place ≤ index → (if is then place + 1 else place) ≤ index + 1
place_after true place index most = omega (arith, most)
place_after false place index most = omega (arith, most)

pub completed_step : (copies : List DamagedPart) (read : DamagedPart) (shown : DamagedText) (front : List ℕ)
    (place index x : ℕ) (body : List ℕ) → index < length body
    → front ++ completed_from copies read shown place (drop index body)
    ≡ (front ++ completed_byte (known_letter copies read shown place) (get_or body index x) ∷ [])
    ++ completed_from copies read shown (if is_some (received_letter (get_or body index x)) then place + 1 else place)
    (drop (index + 1) body)
completed_step copies read shown front place index x body inside =
    ap (λ l. front ++ completed_from copies read shown place l) (drop_more body index x inside)
    ∙ sym (append_assoc front (completed_byte (known_letter copies read shown place) (get_or body index x) ∷ [])
    (completed_from copies read shown (if is_some (received_letter (get_or body index x)) then place + 1 else place)
    (drop (index + 1) body)))

-- -------- a form in which nothing is lost is read as it stands

lines_joined_from : (byte : ℕ) (bytes : List ℕ) (ends : Bool) → (byte == 10) ≡ ends
    → first_line bytes ++ from_line_end bytes ≡ bytes
    → (if ends then [] else byte ∷ first_line bytes) ++ (if ends then byte ∷ bytes else from_line_end bytes) ≡ byte ∷ bytes
lines_joined_from byte bytes true is rest = refl
lines_joined_from byte bytes false is rest = ap (λ l. byte ∷ l) rest

lines_joined : (part : List ℕ) → first_line part ++ from_line_end part ≡ part
lines_joined [] = refl
lines_joined (byte ∷ bytes) = lines_joined_from byte bytes (byte == 10) refl (lines_joined bytes)

kept_tail_from : (byte : ℕ) (bytes : List ℕ) (ends : Bool) → All (λ b. IsFalse (is_lost b)) (byte ∷ bytes)
    → (All (λ b. IsFalse (is_lost b)) bytes → All (λ b. IsFalse (is_lost b)) (from_line_end bytes))
    → All (λ b. IsFalse (is_lost b)) (if ends then byte ∷ bytes else from_line_end bytes)
kept_tail_from byte bytes true kept rest = kept
kept_tail_from byte bytes false kept rest = rest (All-tail (λ b. IsFalse (is_lost b)) byte bytes kept)

kept_tail : (part : List ℕ) → All (λ b. IsFalse (is_lost b)) part → All (λ b. IsFalse (is_lost b)) (from_line_end part)
kept_tail [] kept = kept
kept_tail (byte ∷ bytes) kept = kept_tail_from byte bytes (byte == 10) kept (kept_tail bytes)

byte_stands : (known : Option ℕ) (byte : ℕ) → IsFalse (is_lost byte) → completed_byte known byte ≡ byte
unfolding completed_byte
byte_stands None byte kept = refl
byte_stands (Some letter) byte kept = ap (λ b. if b then letter + 65 else byte) kept

module _ (copies : List DamagedPart) where
  bytes_stand : (read : DamagedPart) (shown : DamagedText) (place : ℕ) (bytes : List ℕ)
      → All (λ b. IsFalse (is_lost b)) bytes → completed_from copies read shown place bytes ≡ bytes
  bytes_stand read shown place [] kept = refl
  bytes_stand read shown place (byte ∷ bytes) kept =
      let here = byte_stands (known_letter copies read shown place) byte
      (All-head (λ b. IsFalse (is_lost b)) byte bytes kept) in
      let rest = bytes_stand read shown (if is_some (received_letter byte) then place + 1 else place) bytes
      (All-tail (λ b. IsFalse (is_lost b)) byte bytes kept) in
      λ i. here i ∷ rest i

  part_stands_with : (read : DamagedPart) (text : Option DamagedText) (part : List ℕ)
      → All (λ b. IsFalse (is_lost b)) part → completed_with copies read text part ≡ part
  part_stands_with read None part kept = refl
  part_stands_with read (Some shown) part kept =
      ap (λ l. first_line part ++ l) (bytes_stand read shown 0 (from_line_end part) (kept_tail part kept))
      ∙ lines_joined part

  part_stands : (read : Option DamagedPart) (part : List ℕ) → All (λ b. IsFalse (is_lost b)) part
      → completed_of copies read part ≡ part
  part_stands None part kept = refl
  part_stands (Some read) part kept = part_stands_with read (shown_text read) part kept

  parts_stand : (index line : ℕ) (parts : List (List ℕ)) → All (All (λ b. IsFalse (is_lost b))) parts
      → completed_parts copies index (placed_from line parts) ≡ placed_from line parts
  parts_stand index line [] kept = refl
  parts_stand index line (part ∷ parts) kept =
      let here = part_stands (slice_get copies index) part (All-head (All (λ b. IsFalse (is_lost b))) part parts kept) in
      let rest = parts_stand (index + 1) (line + line_breaks part) parts
      (All-tail (All (λ b. IsFalse (is_lost b))) part parts kept) in
      λ i. record { bytes = here i; line = line } ∷ rest i

-- what holds of both cases holds of the case that is chosen
pub chosen_cases : {A : Type 0} (P : A → Type 0) (one other : A) (is_other : Bool) → P one → P other
    → P (if is_other then other else one)
chosen_cases P one other true holds also = also
chosen_cases P one other false holds also = holds

-- if no byte is lost, each part is read alone, and as it stands
pub read_as_it_stands : (s : Day) (form : List ℕ) (parts : List DamagedPart)
    → All (All (λ b. IsFalse (is_lost b))) (form_parts form) → AreFormParts s form parts
    → AreReadOf s (damaged_parts_of form) parts
read_as_it_stands s form parts kept is =
    let same = parts_stand (copies_in is.alone) 0 (heading_line form) (form_parts form) kept in
    subst (AreReadOf s (damaged_parts_of form)) (sym is.chosen)
    (chosen_cases (AreReadOf s (damaged_parts_of form)) is.alone is.again (are_kept is.alone is.again) is.read
    (subst (λ l. AreReadOf s l is.again) same is.read_again))

-- the parts are read of some bytes
pub read_somehow : (s : Day) (form : List ℕ) (parts : List DamagedPart) → AreFormParts s form parts
    → (bytes : List PlacedPart) × AreReadOf s bytes parts
read_somehow s form parts is =
    let some : List DamagedPart → Type 0 = λ reads. (bytes : List PlacedPart) × AreReadOf s bytes reads in
    subst some (sym is.chosen)
    (chosen_cases some is.alone is.again (are_kept is.alone is.again) (damaged_parts_of form, is.read)
    (completed_parts (copies_in is.alone) 0 (damaged_parts_of form), is.read_again))

-- there are as many as the form has
pub as_many_parts : (s : Day) (form : List ℕ) (parts : List DamagedPart) → AreFormParts s form parts
    → length (damaged_parts_of form) ≡ length parts
as_many_parts s form parts is =
    let all = damaged_parts_of form in
    subst (λ reads. length all ≡ length reads) (sym is.chosen)
    (chosen_cases (λ reads. length all ≡ length reads) is.alone is.again (are_kept is.alone is.again)
    (as_many_read s all is.alone is.read)
    (sym (completed_length (copies_in is.alone) 0 all)
    ∙ as_many_read s (completed_parts (copies_in is.alone) 0 all) is.again is.read_again))

pub chosen_alone : (alone : List DamagedPart) → alone ≡ completed_or alone alone
chosen_alone alone = chosen_cases (λ l. alone ≡ l) alone alone (are_kept alone alone) refl refl

-- the parts are read alone, and again with the letters of their copies
pub read_twice : (s : Day) (form : List ℕ) (alone copies again : List DamagedPart) (kept : Bool)
    → are_of_one_message alone ≡ true → AreReadWith s [] form alone → copies ≡ alone → AreReadWith s copies form again
    → are_kept alone again ≡ kept → AreFormParts s form (if kept then again else alone)
read_twice s form alone copies again kept one first same second is = record {
  alone = alone;
  read = subst (λ l. AreReadOf s l alone) (completed_by_none 0 (damaged_parts_of form)) first;
  again = again;
  read_again = subst (λ l. AreReadWith s l form again) (same ∙ ap (λ (b : Bool). if b then alone else []) (sym one))
      second;
  chosen = sym (ap (λ (b : Bool). if b then again else alone) is);
}
