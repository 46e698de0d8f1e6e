use Rattle.kd_card.proofs.OneCard.{card_said, refl, GoesOn, HasFault, MatchResult-err, up_to_settings}
use Rattle.kd_card.specs.declared.fault.CardFault.TheVariants.{BadHead, TooMany}
use Rattle.kd_card.proofs.card_reader.read_card.Goals as goal

pub returns-in_default : goal.returns-in_default
returns-in_default c = HasFault BadHead ((λ head begins. c.in_default.ensures head.0 head.1 head.2 begins), refl) refl

pub returns-in_default-split_settings : goal.returns-in_default-split_settings
returns-in_default-split_settings c =
    GoesOn _ c.in-Some.ensures (HasFault TooMany (c.in_default-split_settings.ensures, refl) refl)

pub returns-in_err-prices : goal.returns-in_err-prices
returns-in_err-prices c =
    MatchResult-err _ _ _ _ c.from_residual.ensures.1
    (up_to_settings c.in-Some.ensures c.in-Some-split_settings.ensures c.len.ensures.value
    (c.in_err-prices.ensures _ _))

pub returns : goal.returns
returns c =
    card_said (c.in-Some.day, c.in-Some-split_settings.settings.items, c.in_ok-prices.prices)
    (up_to_settings c.in-Some.ensures c.in-Some-split_settings.ensures c.len.ensures.value (c.in_ok-prices.ensures _ _))
