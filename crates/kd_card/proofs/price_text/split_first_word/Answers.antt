use Rattle.kd_card.proofs.OneCard.{GoesOn, HasFault, nil_from_length, nonempty-by_length, PriceMissing, refl, sym, ◌∙◌}
use Rattle.{kd_card.proofs.OneCard.{no_first_part, words_of_first, words_of_last}, std.proofs.lemmas.Bool.eqb-true}
use Rattle.kd_card.proofs.price_text.split_first_word.Goals as goal

pub returns-then-is_empty : goal.returns-then-is_empty
returns-then-is_empty c =
    HasFault PriceMissing (
      (λ same some. some
          (nil_from_length c.args.text.now (eqb-true _ 0 (sym c.is_empty.ensures ∙ c.if-is_empty.true)))),
      refl,
    ) refl

pub returns-in_default : goal.returns-in_default
returns-in_default c =
    GoesOn tt (nonempty-by_length c.is_empty.ensures c.if-is_empty.false)
    ((λ found has. no_first_part has.first c.in_default.ensures), refl)

pub returns-in-Some-split_once : goal.returns-in-Some-split_once
returns-in-Some-split_once c =
    GoesOn tt (nonempty-by_length c.is_empty.ensures c.if-is_empty.false) (record {
      line = c.in-Some.words.now;
      first = c.in-Some.ensures;
      parts = words_of_first c.in-Some-split_once.ensures;
    })

pub returns-in-None : goal.returns-in-None
returns-in-None c =
    GoesOn tt (nonempty-by_length c.is_empty.ensures c.if-is_empty.false) (record {
      line = c.in-Some.words.now;
      first = c.in-Some.ensures;
      parts = words_of_last c.in-Some.words.now c.in-None.ensures;
    })
