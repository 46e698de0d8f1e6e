use Rattle.kd_card.proofs.OneCard.{append_assoc, Decides-eqb, None, Some, value_split, ◌++◌, ◌∙◌, ◌∷◌}
use Rattle.std.proofs.lemmas.Slice.Eq.{strip_prefix_is}
use Rattle.kd_card.proofs.card_reader.split_value.Goals as goal

pub returns-in_err-behind : goal.returns-in_err-behind
returns-in_err-behind c =
    rw c.from_residual.ensures (λ value rest free e. strip_prefix_is Decides-eqb c.args.text.now c.args.prefix.now None
    (rw c.as_bytes.ensures.value at c.in_err-behind.ensures.cases)
    (value ++ 10 ∷ rest) (e ∙ append_assoc c.args.prefix.now value (10 ∷ rest)))

pub returns : goal.returns
returns c =
    value_split c.args.text.now c.args.prefix.now c.in_ok-behind.behind.now _
    (strip_prefix_is Decides-eqb c.args.text.now c.args.prefix.now (Some c.in_ok-behind.behind)
    (rw c.as_bytes.ensures.value at c.in_ok-behind.ensures.cases)) c.split_once.ensures
