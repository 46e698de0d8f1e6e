use Rattle.kd_card.proofs.OneCard.{[], ap, card_text-joined, codes, rules, signed_decimal, to_z-of_z, ◌++◌, ◌∙◌, ◌∷◌}
use Rattle.{kd_card.proofs.OneCard.head_text, std.proofs.Common.w32}
use Rattle.kd_card.proofs.card_writer.card_text.Goals as goal

pub returns-clause-bytes : goal.returns-clause-bytes
returns-clause-bytes c =
    let head = ap (λ t. c.head_prefix.result.now ++ t ++ 10 ∷ []) c.format.ensures.text
    ∙ head_text c.version.result c.args.day [] c.head_prefix.ensures.value in
    let count = ap (λ t. codes "SETTINGS " ++ t ++ 10 ∷ []) c.format-2.ensures.text in
    let sum = ap (λ t. codes "SUM " ++ t ++ 10 ∷ [])
    (c.format-3.ensures.text ∙ ap signed_decimal (to_z-of_z w32 c.sum.result (search rules))) in
    card_text-joined _ _ _ _ _ _ _ _ _ _ _ _ _ _ _ _ (search rules) head count sum c.push_value.ensures.bytes
    c.push_settings.ensures.bytes c.push_value-2.ensures.bytes c.push_prices.ensures.bytes c.push_value-3.ensures.bytes
    c.version.ensures.value c.as_slice.ensures.value c.len.ensures.value c.sum.ensures
