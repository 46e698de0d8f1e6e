-- The page for receiving a form: its parts, one after another.
use Rattle.std.proofs.Common.{◌≡◌, ◌∙◌, ℕ, ◌||◌, Bool, true, false, List, [], ◌∷◌, ◌++◌}
use Rattle.std.proofs.Common.{All, if◌then◌else◌, arith, refl, sym, Option, Some, None, Ok, Err}
use Rattle.std.proofs.Common.{◌≤◌, Result, append_assoc, length}
use Rattle.std.proofs.lemmas.List.Elements.{All-cons, All-head, All-nil, All-tail}
use Rattle.std.specs.Prelude.{IfOk, IfSome}
use Rattle.std.proofs.Common.{ap, subst}
use Rattle.kd_state.specs.SheetDay.{Day, Pin, Rotor}
use Rattle.kd_state.proofs.OneAnswer.{ThenNext-Ok}
use Rattle.kd_form.specs.declared.heading.Indicator.{Indicator}
use Rattle.kd_form.specs.BodyCipher.{HasIndicator}
use Rattle.kd_lost.specs.declared.damage.PartDamage.{PartDamage}
use Rattle.kd_lost.specs.declared.damaged_text.DamagedText.{DamagedText}
use Rattle.kd_lost.specs.declared.damaged_text.TextKeys.{TextKeys}
use Rattle.kd_lost.specs.declared.part.DamagedPart.{DamagedPart}
use Rattle.kd_lost.specs.declared.part.PartNumbers.{PartNumbers}
use Rattle.kd_lost.specs.ByCount.{GivesByCount, IsFoundIn, counted_part, text_of}
use Rattle.kd_lost.specs.DamagedForm.{AreFormParts, AreReadOf, IsReadAs, PlacedPart, damaged_parts_of}
use Rattle.kd_lost.specs.DamagedPart.{IsDamagedTextAnswer}
use Rattle.kd_lost.specs.DamagedText.{AreTextKeys}
use Rattle.kd_lost.proofs.CompletedParts.{as_many_parts, read_somehow}
use Rattle.kd_lost.proofs.PartShown.{shown_there}
use Rattle.kd_language.specs.declared.language.Language.{Language}
use Rattle.kd_message.specs.ReceivedWork.{AreShowable}
use Rattle.kd_lost.specs.Texts.{text_or}
use Rattle.kd_pictures.specs.declared.results.Results.{Results}
unfoldable use Rattle.kd_message.specs.ReceivePage.{receive_text}
use Rattle.kd_message.specs.ReceivePage.{AreWorkable, HasShowableKeys}
use Rattle.kd_lost.specs.ShownParts.{better, is_number, is_worse, shown_under}
use Rattle.kd_message.proofs.SendPages.{begins}

-- ---- What holds for each part holds for the part that is shown.

chosen_holds : (P : DamagedPart → Type 0) (is_it : Bool) (one other part : DamagedPart) → P one → P other
    → (if is_it then Some one else Some other) ≡ Some part → P part
chosen_holds P true one other part holds others is = let e : one ≡ part = cc in rw (← e) holds
chosen_holds P false one other part holds others is = let e : other ≡ part = cc in rw (← e) others

pub better_holds : (P : DamagedPart → Type 0) (one : DamagedPart) (later : Option DamagedPart) (part : DamagedPart) → P one
    → ((other : DamagedPart) → later ≡ Some other → P other) → better one later ≡ Some part → P part
better_holds P one None part holds rest is = let e : one ≡ part = cc in rw (← e) holds
better_holds P one (Some later) part holds rest is =
    chosen_holds P (is_worse one later) later one part (rest later refl) holds is

numbered_holds : (P : DamagedPart → Type 0) (is_it : Bool) (one : DamagedPart) (later : Option DamagedPart)
    (part : DamagedPart) → P one → ((other : DamagedPart) → later ≡ Some other → P other)
    → (if is_it then better one later else later) ≡ Some part → P part
numbered_holds P true one later part holds rest is = better_holds P one later part holds rest is
numbered_holds P false one later part holds rest is = rest part is

pub shown_holds : (P : DamagedPart → Type 0) (number : ℕ) (parts : List DamagedPart) (part : DamagedPart)
    → All P parts → shown_under parts number ≡ Some part → P part
shown_holds P number [] part all is = absurd (cc)
shown_holds P number (one ∷ parts) part all is =
    numbered_holds P (is_number number one.numbers) one (shown_under parts number) part (All-head P one parts all)
    (λ other there. shown_holds P number parts other (All-tail P one parts all) there) is

-- ---- The machine can show the keys of each part that is read.

keys_showable : (s : Day) (i : Option Indicator) (received : List (Option ℕ)) (keys : TextKeys) → HasIndicator s i
    → AreTextKeys s i received keys → AreShowable s keys
keys_showable s (Some i) received keys has (is_key, is) = rw is is_key
keys_showable (Pin s) None received keys has (pin, is, copies, window, internal) =
    rw is (window, internal.picked.on_wheels)
keys_showable (Rotor s) None received keys has are = absurd has

text_showable : (s : Day) (part : List ℕ) (text : Result DamagedText PartDamage) → IsDamagedTextAnswer s part text
    → IfOk text (λ shown. AreShowable s shown.keys)
text_showable s part (Ok shown) read =
    let one = ThenNext-Ok read in
    let two = ThenNext-Ok one.next in
    let three = ThenNext-Ok two.next in
    let four = ThenNext-Ok three.next in
    keys_showable s one.found.indicator _ shown.keys one.says.is_heading.indicator
    (shown_there s one.found.indicator _ shown four.next).keys
text_showable s part (Err damage) read = tt

count_showable : (s : Day) (part : List ℕ) (numbers : Option PartNumbers) (found : Option DamagedText)
    → (is : IsFoundIn s part numbers found) → (answer : Result DamagedText PartDamage) → is.answer ≡ answer
    → IfSome found (λ shown. AreShowable s shown.keys)
count_showable s part numbers found is (Ok shown) told =
    subst (λ f. IfSome f (λ (text : DamagedText). AreShowable s text.keys)) (sym (is.is_its ∙ ap text_of told))
    (text_showable s part (Ok shown) (subst (IsDamagedTextAnswer s part) told is.text))
count_showable s part numbers found is (Err damage) told =
    subst (λ f. IfSome f (λ (text : DamagedText). AreShowable s text.keys)) (sym (is.is_its ∙ ap text_of told)) tt

by_count_showable : (doubted : Bool) (s : Day) (part : List ℕ) (came : ℕ) (given numbers : Option PartNumbers)
    (found : Option DamagedText) → GivesByCount doubted s part came given numbers found
    → IfSome found (λ shown. AreShowable s shown.keys)
by_count_showable false s part came given numbers found is =
    subst (λ f. IfSome f (λ (text : DamagedText). AreShowable s text.keys)) (sym is.0) tt
by_count_showable true s part came given numbers found (counted, is, same) =
    count_showable s (counted_part came part) counted found is is.answer refl

shown_showable : (s : Day) (text : Result DamagedText PartDamage) (counted : Option DamagedText)
    → IfOk text (λ shown. AreShowable s shown.keys) → IfSome counted (λ shown. AreShowable s shown.keys)
    → IfSome (text_or text counted) (λ shown. AreShowable s shown.keys)
shown_showable s (Ok shown) counted one other = one
shown_showable s (Err damage) counted one other = other

part_showable : (s : Day) (part : List ℕ) (read : DamagedPart) → IsReadAs s part read → HasShowableKeys s read
part_showable s part read is = shown_showable s read.text read.by_count (text_showable s part read.text is.text)
    (by_count_showable _ s part read.came is.given read.numbers read.by_count is.by_count)

are_workable : (s : Day) (parts : List PlacedPart) (reads : List DamagedPart) → AreReadOf s parts reads
    → AreWorkable s reads
are_workable s [] [] are = All-nil (HasShowableKeys s)
are_workable s [] (read ∷ reads) are = absurd are
are_workable s (part ∷ parts) [] are = absurd are
are_workable s (part ∷ parts) (read ∷ reads) are =
    All-cons (HasShowableKeys s) read reads (part_showable s are.0.0.meant read are.0.0.as_meant)
    (are_workable s parts reads are.1)

pub are_workable_parts : (s : Day) (form : List ℕ) (parts : List DamagedPart) → AreFormParts s form parts
    → AreWorkable s parts
are_workable_parts s form parts is =
    let (bytes, are) = read_somehow s form parts is in are_workable s bytes parts are

-- `desk receive` reads at most 255 parts
pub few_parts : (s : Day) (form : List ℕ) (parts : List DamagedPart) → AreFormParts s form parts → length parts ≤ 255
    → length (damaged_parts_of form) ≤ 255
few_parts s form parts is few = omega (arith, as_many_parts s form parts is, few)

-- ---- The page.

-- a page isn't empty
pub page_begins : (results : Results) (l : Language) (s : Day) (parts : List DamagedPart)
    → (first : ℕ) × ((rest : List ℕ) × (receive_text results l s parts ≡ first ∷ rest))
unfolding receive_text
page_begins results l s parts = begins _ _ _

pub five_joined : (a b c d e : List ℕ) → a ++ b ++ c ++ d ++ e ≡ (((a ++ b) ++ c) ++ d) ++ e
five_joined a b c d e = grind (arith, append_assoc)

pub or_true : (one : Bool) → (one || true) ≡ true
or_true true = refl
or_true false = refl
