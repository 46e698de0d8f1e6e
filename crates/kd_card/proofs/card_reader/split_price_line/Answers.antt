use Rattle.kd_card.proofs.OneCard.{GoesOn, HasFault, MatchResult-err, missing_prices, not_from_false, PriceMissing}
use Rattle.kd_card.proofs.OneCard.{refl}
use Rattle.kd_card.proofs.card_reader.split_price_line.Goals as goal
use Rattle.kd_card.proofs.card_reader.split_price_line.Goals.{in_default-via-in-Some+else-is_word}
use Rattle.kd_card.proofs.card_reader.split_price_line.Goals.{in_default-via-in_default}

pub returns-in_err-first : goal.returns-in_err-first
returns-in_err-first c =
    MatchResult-err _ _ _ _ c.from_residual.ensures.1 (λ number some. HasFault _ c.in_err-first.ensures refl)

pub returns-in_default : goal.returns-in_default
returns-in_default c = λ number some. elim c.in_default.branch [
  | in_default-via-in-Some+else-is_word w ↦
      GoesOn _ c.in_ok-first.ensures
      (HasFault PriceMissing ((λ unit. not_from_false w.is_word.ensures w.if-is_word.false), refl) refl)
  | in_default-via-in_default w ↦ missing_prices c.args.word.now (rw w.in_default.is at c.in_ok-first.ensures) some
]
