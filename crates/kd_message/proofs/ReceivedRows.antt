-- The rows of a received part: the letters that are pressed, and what stands below them.
use Rattle.std.proofs.Common.{◌≡◌, ◌∙◌, ℕ, suc, ◌-◌, ◌≤◌, List, [], ◌∷◌, ◌++◌, length, map, take, drop, arith, refl}
use Rattle.std.proofs.Common.{sym, subst, ap, append-nil, Option, Some, None, true}
use Rattle.std.proofs.lemmas.List.Elements.{filter-append}
use Rattle.kd_state.specs.SheetDay.{Day, Pin, Rotor}
use Rattle.kd_state.proofs.OneAnswer.{ThenNext-Ok}
use Rattle.kd_form.specs.declared.heading.Indicator.{Indicator}
use Rattle.kd_form.specs.BodyCipher.{HasIndicator}
use Rattle.kd_form.specs.PartMaking.{cipher_from}
use Rattle.kd_form.specs.Sending.{space_letter}
use Rattle.kd_form.proofs.MadeParts.{enciphered_length}
use Rattle.kd_lost.specs.declared.damaged_text.DamagedText.{DamagedText}
use Rattle.kd_lost.specs.DamagedText.{IsTextShown, text_part, text_window}
use Rattle.kd_lost.specs.Lost.{Completes, covered, filled}
use Rattle.kd_lost.proofs.Ciphers.{filled_completes}
use Rattle.kd_lost.proofs.Completions.{completes_length}
use Rattle.kd_lost.proofs.PartShown.{shown_there}
use Rattle.kd_part_sheet.specs.declared.cells.Cell.{Cell}
use Rattle.kd_part_sheet.specs.declared.cells.Mark.TheVariants as marks
use Rattle.kd_part_sheet.specs.Cells.{received_cells, sign_of, skipped, text_sign}
use Rattle.kd_message.specs.Laws.{RowsAreDeciphered, letter_of, pressed_of}
use Rattle.kd_message.specs.ReceivedWork.{received_work, work_with}

-- ---- Cells that are pressed.

skipped_unpressed : (letters : List (Option ℕ)) → pressed_of (map skipped letters) ≡ []
skipped_unpressed [] = refl
skipped_unpressed (letter ∷ letters) = skipped_unpressed letters

received_pressed : (for_space : Option ℕ) (keys text : List (Option ℕ))
    → pressed_of (received_cells for_space keys text) ≡ received_cells for_space keys text
received_pressed for_space [] text = refl
received_pressed for_space (key ∷ keys) [] = refl
received_pressed for_space (key ∷ keys) (letter ∷ text) =
    let cell : Cell = record {
      above = sign_of key;
      below = text_sign for_space letter;
      is_pressed = true;
      mark = marks.NoMark;
    } in
    ap (λ cells. cell ∷ cells) (received_pressed for_space keys text)

pressed_after : (front : List (Option ℕ)) (cells : List Cell) → pressed_of cells ≡ cells
    → pressed_of (map skipped front ++ cells) ≡ cells
pressed_after front cells is =
    filter-append (λ (cell : Cell). cell.is_pressed) (map skipped front) cells
    ∙ λ i. skipped_unpressed front i ++ is i

pressed_between : (front back : List (Option ℕ)) (cells : List Cell) → pressed_of cells ≡ cells
    → pressed_of (map skipped front ++ cells ++ map skipped back) ≡ cells
pressed_between front back cells is =
    filter-append (λ (cell : Cell). cell.is_pressed) (map skipped front ++ cells) (map skipped back)
    ∙ (λ i. pressed_after front cells is i ++ skipped_unpressed back i) ∙ append-nil cells

-- the letters above the cells of a text
letter_back : (key : Option ℕ) → letter_of (sign_of key) ≡ key
letter_back None = refl
letter_back (Some key) = refl

above_received : (for_space : Option ℕ) (keys text : List (Option ℕ)) → length keys ≤ length text
    → map (λ (cell : Cell). letter_of cell.above) (received_cells for_space keys text) ≡ keys
above_received for_space [] text some = refl
above_received for_space (key ∷ keys) [] some = absurd (omega (arith, some))
above_received for_space (key ∷ keys) (letter ∷ text) some =
    λ i. letter_back key i ∷ above_received for_space keys text (omega (arith, some)) i

covered_length : (received : List (Option ℕ)) (text : List ℕ) → length received ≡ length text
    → length (covered received text) ≡ length received
covered_length [] text same = refl
covered_length (got ∷ received) [] same = absurd (omega (arith, same))
covered_length (got ∷ received) (letter ∷ text) same =
    ap (λ n. suc n) (covered_length received text (omega (arith, same)))

-- ---- The body of a part.

-- the letters that are pressed are those of the text, and the windows are those before the text
record HasTextRows (s : Day) (i : Option Indicator) (received : List (Option ℕ)) (shown : DamagedText) : Type 0 where
  pub cells : pressed_of (received_work s shown).body
      ≡ received_cells (space_letter s) (text_part i received) shown.letters.items
  pub start : (received_work s shown).start ≡ text_window s shown.keys

text_rows : (s : Day) (i : Option Indicator) (received : List (Option ℕ)) (shown : DamagedText) → HasIndicator s i
    → IsTextShown s i received shown → HasTextRows s i received shown
text_rows (Rotor s) (Some i) received shown has is =
    let letters = shown.letters.items in
    let cells = received_cells None (drop 5 shown.received.items) letters in record {
      cells =
          ap (λ k. pressed_of (work_with (Rotor s) k shown).body) is.keys.1
          ∙ pressed_after (take 5 shown.received.items) cells
          (received_pressed None (drop 5 shown.received.items) letters)
          ∙ ap (λ l. received_cells None (drop 5 l) letters) is.as_received;
      start =
          ap (λ k. (work_with (Rotor s) k shown).start) is.keys.1
          ∙ sym (ap (text_window (Rotor s)) is.keys.1);
    }
text_rows (Pin s) None received shown has is =
    let all = shown.received.items in
    let letters = shown.letters.items in
    let cells = received_cells (Some 25) (text_part None all) letters in record {
      cells =
          ap (λ k. pressed_of (work_with (Pin s) k shown).body) is.keys.1
          ∙ pressed_between (take 10 all) (drop (length all - 10) all) cells
          (received_pressed (Some 25) (text_part None all) letters)
          ∙ ap (λ l. received_cells (Some 25) (text_part None l) letters) is.as_received;
      start =
          ap (λ k. (work_with (Pin s) k shown).start) is.keys.1
          ∙ sym (ap (text_window (Pin s)) is.keys.1);
    }
text_rows (Rotor s) None received shown has is = absurd has
text_rows (Pin s) (Some i) received shown has is = absurd has

-- what stands below the letters, for each choice of keys
below_keys : (s : Day) (i : Option Indicator) (received : List (Option ℕ)) (shown : DamagedText) (keys : List ℕ)
    → HasIndicator s i → IsTextShown s i received shown
    → let pressed = pressed_of (received_work s shown).body in
    let above = map (λ (cell : Cell). letter_of cell.above) pressed in
    Completes above keys
    → pressed ≡ received_cells (space_letter s) above (covered above (cipher_from s (received_work s shown).start keys))
below_keys s i received shown keys has is completes =
    let text = text_part i received in
    let rows = text_rows s i received shown has is in
    let first = is.from_keys (filled text) (filled_completes text) in
    let long : length text ≡ length (cipher_from s (text_window s shown.keys) (filled text)) =
    completes_length text (filled text) (filled_completes text)
    ∙ sym (enciphered_length s (text_window s shown.keys) (filled text)) in
    let size : length shown.letters.items ≡ length text =
    ap length first ∙ covered_length text (cipher_from s (text_window s shown.keys) (filled text)) long in
    let above = ap (map (λ (cell : Cell). letter_of cell.above)) rows.cells
    ∙ above_received (space_letter s) text shown.letters.items (omega (arith, size)) in
    let lamps = is.from_keys keys (subst (λ l. Completes l keys) above completes)
    ∙ λ j. covered (sym above j) (cipher_from s (sym rows.start j) keys) in
    rows.cells ∙ λ j. received_cells (space_letter s) (sym above j) (lamps j)

pub rows_are_deciphered : RowsAreDeciphered
rows_are_deciphered s part shown keys read completes =
    let one = ThenNext-Ok read in
    let two = ThenNext-Ok one.next in
    let three = ThenNext-Ok two.next in
    let four = ThenNext-Ok three.next in
    below_keys s one.found.indicator _ shown keys one.says.is_heading.indicator
    (shown_there s one.found.indicator _ shown four.next) completes
