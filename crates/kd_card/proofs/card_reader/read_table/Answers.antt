use Rattle.kd_card.proofs.OneCard.{GoesOn, HasFault, MatchResult-err, Bars, Cables, not_from_false, refl, sym, ◌∙◌}
use Rattle.kd_card.proofs.card_reader.read_table.Goals as goal

pub returns-in_err-first : goal.returns-in_err-first
returns-in_err-first c = MatchResult-err _ _ _ _ c.from_residual.ensures.1 (HasFault _ c.in_err-first.ensures refl)

pub returns-then-is_word : goal.returns-then-is_word
returns-then-is_word c =
    GoesOn _ c.in_ok-first.ensures (c.is_word.ensures.0 c.if-is_word.true ∙ c.first_word.ensures)

pub returns-then-is_word-2 : goal.returns-then-is_word-2
returns-then-is_word-2 c = GoesOn _ c.in_ok-first.ensures
    (c.is_word-else-is_word.ensures.0 c.if-is_word-2.true ∙ c.first_word-else-is_word.ensures)

pub returns-else-is_word-2 : goal.returns-else-is_word-2
returns-else-is_word-2 c = GoesOn _ c.in_ok-first.ensures (
  elim [
    | Cables ↦ λ is. not_from_false c.is_word.ensures c.if-is_word.false (is ∙ sym c.first_word.ensures)
    | Bars ↦ λ is. not_from_false c.is_word-else-is_word.ensures c.if-is_word-2.false
        (is ∙ sym c.first_word-else-is_word.ensures)
  ],
  refl,
)
