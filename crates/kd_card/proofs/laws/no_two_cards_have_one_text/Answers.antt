use Rattle.kd_card.proofs.OneCard.{rules, texts_determine_cards, no_card_begins_another, reading_gives_cards}
use Rattle.kd_card.proofs.OneCard.{cards_have_no_fault, one_card_fault}
use Rattle.kd_card.proofs.laws.no_two_cards_have_one_text.Goals as goal

pub returns : goal.returns
returns c =
    search (
      rules,
      texts_determine_cards,
      no_card_begins_another,
      reading_gives_cards,
      cards_have_no_fault,
      one_card_fault,
    )
