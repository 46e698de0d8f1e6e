-- The page for sending an order: its parts, one after another.
use Rattle.std.proofs.Common.{◌≡◌, ℕ, zero, suc, ◌+◌, ◌-◌, ◌<◌, Bool, List, [], ◌∷◌, ◌++◌, length, take, drop, flat_map}
use Rattle.std.proofs.Common.{arith, refl, ap, ◌∙◌, Ok, Err, Option, inl, inr}
use Rattle.std.proofs.lemmas.List.{length-take, nil_from_length}
use Rattle.std.proofs.lemmas.List.Elements.{All-head, All-tail}
use Rattle.std.specs.Simd.{first_chunks}
use Rattle.kd_state.proofs.OneAnswer.{ThenNext-Ok}
use Rattle.kd_state.specs.AnswerRules.{GoesOn}
use Rattle.kd_state.specs.declared.machine.parts.Parts.{Parts}
use Rattle.kd_state.specs.SheetDay.{Day, day_model, day_number}
use Rattle.kd_form.specs.declared.fault.FormFault.{FormFault}
use Rattle.kd_form.specs.declared.keys.Keys.{Keys}
use Rattle.kd_form.specs.Keys.{AreKeys}
use Rattle.kd_form.specs.OnTheKey.{IsAnswerOnKey, IsReadyOnKey, OffKey, WithKey}
use Rattle.kd_form.specs.Order.{IsOrder}
use Rattle.kd_form.specs.Part.{Part, part_text}
use Rattle.kd_form.specs.PartMaking.{IsPartMade, part_size}
use Rattle.kd_form.specs.Sending.{ArePartTextsMade, IsFormOf, IsSendFault, text_letters}
use Rattle.kd_form.proofs.MadeParts.{size_some}
use Rattle.kd_form.proofs.OneOrder.{all_of_the_day, one_order, orders_have_one_answer}
use Rattle.kd_pictures.specs.Drawing.{Draws}
use Rattle.kd_pictures.proofs.Drawings.{both}
use Rattle.kd_language.specs.declared.language.Language.{Language}
use Rattle.kd_part_sheet.specs.PartWork.{IsWork, Work}
use Rattle.kd_part_sheet.specs.Rows.{pieces}
use Rattle.kd_part_sheet.proofs.Pieces.{pieces-next, pieces-none}
use Rattle.kd_pictures.specs.declared.results.Results.{Results}
use Rattle.kd_message.specs.FormSheet.{form_part}
use Rattle.kd_message.specs.SendPage.{AreKeysOfText, AreMade, AreOrderSheets, AreWorks, IsNextPart, IsSendPage, IsSendRefusal}
use Rattle.kd_message.specs.SendPage.{form_parts, name_in_place, part_sheets, send_sheet, sheets_text, text_pieces}
unfoldable use Rattle.kd_message.specs.SendPage.{send_text}
use Rattle.kd_message.proofs.Orders.{parts_of_order}

length-first_chunks : {X : Type 0} (size count : ℕ) (items : List X) → length (first_chunks size count items) ≡ count
length-first_chunks size zero items = refl
length-first_chunks size (suc count) items = grind (arith, length-first_chunks size count (drop size items))

-- ---- The next part.

-- the keys after the first, as the code takes them
abbrev pub later_keys : List Keys → List Keys
later_keys keys = take (length keys - 1) (drop 1 keys)

some_letters : (s : Day) (letters : List ℕ) → 0 < length (pieces (part_size s) letters) → 0 < length letters
some_letters s [] some = absurd (omega (arith, ap length (pieces-none {X = ℕ} (part_size s) (size_some s))))
some_letters s (letter ∷ letters) some = omega arith

pub next_part : (s : Day) (part parts : ℕ) (all : List Keys) (k : Keys) (keys : List Keys) (text piece later : List ℕ)
    → all ≡ k ∷ keys → piece ≡ take (part_size s) (text_letters s text)
    → text_letters s later ≡ drop (part_size s) (text_letters s text) → AreKeysOfText s part parts all text
    → IsNextPart s part parts all text k piece keys later
next_part s part parts all k keys text piece later same is left are =
    let mine = rw same at are.of_the_day in
    let suited = ThenNext-Ok (rw same at are.suited) in
    let each : length (text_pieces s text) ≡ 1 + length keys = are.each ∙ ap length same ∙ (omega arith) in
    let some = some_letters s (text_letters s text) (omega (arith, each)) in
    let cut : text_pieces s text ≡ piece ∷ text_pieces s later =
    pieces-next (part_size s) (text_letters s text) (size_some s) some
    ∙ rw (← is, ← left) refl in
    record {
      split = same;
      of_the_day = All-head (AreKeys s) k keys mine;
      suits = suited.says;
      few = grind (arith, is, length-take);
      cut = cut;
      rest = record {
        of_the_day = All-tail (AreKeys s) k keys mine;
        suited = suited.next;
        each = omega (arith, each, ap length cut);
        count = omega (arith, are.count, ap length same);
        few = are.few;
      };
    }

pub none_left : (s : Day) (part parts : ℕ) (keys : List Keys) (text : List ℕ) → length keys < 1
    → AreKeysOfText s part parts keys text → (keys ≡ []) × (text_pieces s text ≡ [])
none_left s part parts keys text none are =
    (nil_from_length keys (omega (arith, none)), nil_from_length (text_pieces s text) (omega (arith, none, are.each)))

module _ {W : Type 0} {taken : W → Option (List ℕ)} {failed : W → Bool} {old mid new : W} (results : Results)
    (l : Language) (s : Day) (part parts : ℕ) where
  pub sheets_next : (place : Option ℕ) {all : List Keys} {allp : List (List ℕ)} {k : Keys} {keys : List Keys} {piece : List ℕ}
      {pieces : List (List ℕ)} (work : Work) → all ≡ k ∷ keys → allp ≡ piece ∷ pieces → IsWork s k piece work
      → Draws taken failed old mid (send_sheet l s (name_in_place results s place part parts) work)
      → ((works : List Work) × AreWorks s keys pieces works
      × Draws taken failed mid new (part_sheets results l s place (part + 1) parts works))
      → (works : List Work) × AreWorks s all allp works
      × Draws taken failed old new (part_sheets results l s place part parts works)
  sheets_next place work same cut is one (more, are, two) =
      (work ∷ more, rw (same, cut) (work, more, is, are, refl), both one two)

  pub parts_next : {all : List Keys} {allp : List (List ℕ)} {k : Keys} {keys : List Keys} {piece : List ℕ}
      {pieces : List (List ℕ)} → all ≡ k ∷ keys → allp ≡ piece ∷ pieces
      → ((one : Part) × IsPartMade s part parts k piece one
      × Draws taken failed old mid (form_part results l (day_model s) (day_number s) one))
      → ((made : List Part) × AreMade s (part + 1) parts keys pieces made
      × Draws taken failed mid new (form_parts results l s made))
      → (made : List Part) × AreMade s part parts all allp made
      × Draws taken failed old new (form_parts results l s made)
  parts_next same cut (made, is, one) (more, are, two) =
      (made ∷ more, rw (same, cut) (made, more, is, are, refl), both one two)

-- ---- The whole order.

pub keys_of_text : (s : Day) (order form head text : List ℕ) (keys : List Keys) → IsFormOf s order form
    → IsOrder s order keys head text → AreKeysOfText s 1 (length keys) keys text
keys_of_text s order form head text keys is read =
    let has = parts_of_order s order form is in
    let (same, heads, texts) = one_order s order keys has.parts.keys head has.parts.head text has.parts.text
    read has.is_order in
    let made = ThenNext-Ok (ThenNext-Ok has.made).next in
    record {
      of_the_day = all_of_the_day _ s keys head read.is_head.lines;
      suited = rw same has.suited;
      each = length-first_chunks _ _ _ ∙ rw (same, texts) made.says;
      count = omega arith;
      few = read.is_head.few;
    }

texts_made : (s : Day) (part parts : ℕ) (keys : List Keys) (pieces : List (List ℕ)) (made : List Part)
    → AreMade s part parts keys pieces made → ArePartTextsMade s part parts keys pieces (flat_map part_text made)
texts_made s part parts [] [] made none = rw none refl
texts_made s part parts (k ∷ keys) (piece ∷ pieces) made (one, more, is, are, joined) =
    rw joined (
      part_text one,
      flat_map part_text more,
      (one, is, refl),
      texts_made s (part + 1) parts keys pieces more are,
      refl,
    )
texts_made s part parts [] (piece ∷ pieces) made are = absurd are
texts_made s part parts (k ∷ keys) [] made are = absurd are

pub sheets_made : (results : Results) (l : Language) (s : Day) (place : Option ℕ) (order form head text : List ℕ)
    (keys : List Keys) (works : List Work) (made : List Part) → IsFormOf s order form → IsOrder s order keys head text
    → AreWorks s keys (text_pieces s text) works
    → AreMade s 1 (length keys) keys (text_pieces s text) made
    → AreOrderSheets results l s place order form (sheets_text results l s place (length keys) works made)
sheets_made results l s place order form head text keys works made is read worked are =
    let has = parts_of_order s order form is in
    let (same, heads, same_text) = one_order s order keys has.parts.keys head has.parts.head text has.parts.text
    read has.is_order in
    let mine = rw (same, same_text) at are in
    let tested = ThenNext-Ok has.made in
    let counted = ThenNext-Ok tested.next in
    let other = GoesOn has.parts has.read (GoesOn tested.found tested.says (GoesOn counted.found counted.says
    (texts_made s 1 (length has.parts.keys) has.parts.keys (text_pieces s has.parts.text) made mine))) in
    let one = orders_have_one_answer s order (Ok form) (Ok (flat_map part_text made)) is other in
    record {
      parts = has.parts;
      read = has.read;
      works = works;
      worked = rw (same, same_text) at worked;
      made = made;
      are_made = mine;
      is_form = cc one;
      are_sheets = rw same refl;
    }

-- ---- The answer.

pub refused_as_sent : {X : Type 0} (m : Parts) (s : Day) (order : List ℕ) (is_due : X → Type 0) (fault : FormFault)
    → IsAnswerOnKey m s is_due (IsSendFault s order) ((form : List ℕ) × IsFormOf s order form) (Err fault)
    → IsSendRefusal m s order fault
refused_as_sent m s order is_due fault (OffKey other is same) = let e : other ≡ fault = cc in inl (rw (← e) is)
refused_as_sent m s order is_due fault (WithKey ready is) = inr (ready, is)

pub sent : {X : Type 0} (m : Parts) (s : Day) (order : List ℕ) (is_due : X → Type 0) (found : X)
    → IsAnswerOnKey m s is_due (IsSendFault s order) ((form : List ℕ) × IsFormOf s order form) (Ok found)
    → IsReadyOnKey m s × is_due found
sent m s order is_due found (OffKey other is same) = absurd (cc)
sent m s order is_due found (WithKey ready is) = (ready, is)

pub begins : (front : List ℕ) (byte : ℕ) (more : List ℕ)
    → (first : ℕ) × ((rest : List ℕ) × (front ++ byte ∷ more ≡ first ∷ rest))
begins [] byte more = (_, (_, refl))
begins (first ∷ front) byte more = (_, (_, refl))

page_begins : (l : Language) (s : Day) (sheets : List ℕ)
    → (first : ℕ) × ((rest : List ℕ) × (send_text l s sheets ≡ first ∷ rest))
unfolding send_text
page_begins l s sheets = begins _ _ _

-- a page isn't empty
pub shown_begins : (results : Results) (l : Language) (s : Day) (order form page : List ℕ) → IsSendPage results l s order form page
    → (first : ℕ) × ((rest : List ℕ) × (page ≡ first ∷ rest))
shown_begins results l s order form page shown = rw shown.is_page (page_begins l s shown.sheets)
