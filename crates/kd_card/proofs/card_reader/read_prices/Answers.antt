use Rattle.kd_card.proofs.OneCard.{GoesOn, HasFault, MatchResult-err, of_table, refl}
use Rattle.kd_card.proofs.card_reader.read_prices.Goals as goal

pub returns-in_err-table : goal.returns-in_err-table
returns-in_err-table c = MatchResult-err _ _ _ _ c.from_residual.ensures.1 (HasFault _ c.in_err-table.ensures refl)

pub returns-in_err-parts : goal.returns-in_err-parts
returns-in_err-parts c =
    MatchResult-err _ _ _ _ c.from_residual-in_err-parts.ensures.1
    (GoesOn _ c.in_ok-table.ensures c.in_err-parts.ensures)

pub of_parts-requires : goal.of_parts-requires
of_parts-requires c = (of_table _ _ _ _ c.in_ok-parts.ensures).are

pub returns : goal.returns
returns c = GoesOn _ c.in_ok-table.ensures (rw c.of_parts.ensures c.in_ok-parts.ensures)
