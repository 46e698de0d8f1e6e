-- Bytes are one list of settings or have one fault.
use Rattle.kd_desk.proofs.Prelude.{Bool, IsFalse, IsTrue, InCard, InList, OfCard, OfList, ap, sym, ◌∙◌}
use Rattle.kd_state.proofs.Lines.{lists_have_no_fault, one_list_fault, texts_determine_lists}
use Rattle.kd_card.proofs.OneCard.{cards_have_no_fault, one_card_fault, texts_determine_cards}
use Rattle.kd_desk.specs.declared.fault.DeskFault.TheVariants as faults
use Rattle.kd_desk.specs.Laws.{BytesGiveOneList, SettingsHaveNoFault, SettingsHaveOneFault}

true_and_false : (b : Bool) → IsTrue b → IsFalse b → ⊥
true_and_false b holds fails = cc

pub one_list : BytesGiveOneList
one_list bytes xs ys (OfCard begun day prices card) (OfCard also other others same) =
    (texts_determine_cards bytes day other xs ys prices others card same).1
one_list bytes xs ys (OfCard begun day prices card) (OfList unbegun list) = absurd (true_and_false _ begun unbegun)
one_list bytes xs ys (OfList unbegun list) (OfCard begun day prices card) = absurd (true_and_false _ begun unbegun)
one_list bytes xs ys (OfList unbegun list) (OfList also same) = texts_determine_lists bytes xs ys list same

pub no_fault : SettingsHaveNoFault
no_fault bytes xs fault (OfCard begun day prices card) (InCard also of_card is told) =
    cards_have_no_fault bytes day xs prices of_card card is
no_fault bytes xs fault (OfCard begun day prices card) (InList unbegun of_list is told) = true_and_false _ begun unbegun
no_fault bytes xs fault (OfList unbegun list) (InCard begun of_card is told) = true_and_false _ begun unbegun
no_fault bytes xs fault (OfList unbegun list) (InList also of_list is told) =
    lists_have_no_fault bytes xs of_list list is

pub one_fault : SettingsHaveOneFault
one_fault bytes fault other (InCard begun card is told) (InCard also same are as_told) =
    told ∙ ap (λ f. faults.Card f) (one_card_fault bytes card same is are) ∙ sym as_told
one_fault bytes fault other (InCard begun card is told) (InList unbegun list are as_told) =
    absurd (true_and_false _ begun unbegun)
one_fault bytes fault other (InList unbegun list is told) (InCard begun card are as_told) =
    absurd (true_and_false _ begun unbegun)
one_fault bytes fault other (InList unbegun list is told) (InList also same are as_told) =
    told ∙ ap (λ f. faults.List f) (one_list_fault bytes list same is are) ∙ sym as_told
