use Rattle.kd_card.proofs.OneCard.{◌∷◌, ◌++◌, ◌∙◌, refl, ap, subst, IsNumeral, HasFault, GoesOn, same_values}
use Rattle.kd_card.proofs.OneCard.{not_from_false, numeral_word, value_says}
use Rattle.kd_card.proofs.card_reader.read_value.Goals as goal

pub returns-in-None : goal.returns-in-None
returns-in-None c =
    HasFault _
    ((λ found is. c.in-None.ensures found.0 found.1 (numeral_word c.args.signed found.0 is.0).unbroken is.1), refl) refl

pub returns-in-Some : goal.returns-in-Some
returns-in-Some c =
    HasFault _ (
      (λ found is.
          let free = (numeral_word c.args.signed found.0 is.0).unbroken in
          let same = same_values c.args.prefix.now free c.in-Some.ensures.1 is.1 c.in-Some.ensures.0 in
          not_from_false c.is_numeral.ensures c.if-not-is_numeral.true (subst (IsNumeral c.args.signed) same.0 is.0)),
      refl,
    ) refl

pub returns-in-Some-2 : goal.returns-in-Some-2
returns-in-Some-2 c =
    let due = c.is_word.ensures.0 c.if-is_word.true in
    value_says c.args.signed c.args.prefix.now c.args.due.now c.args.line
    (subst (IsNumeral c.args.signed) due (c.is_numeral.ensures.0 c.if-not-is_numeral.false))
    (c.in-Some.ensures.0 ∙ ap (λ n. c.args.prefix.now ++ n ++ 10 ∷ c.in-Some.field-0-1.now) due)

pub returns-in-Some-3 : goal.returns-in-Some-3
returns-in-Some-3 c =
    GoesOn (c.in-Some.number.now, c.in-Some.field-0-1.now)
    (c.is_numeral.ensures.0 c.if-not-is_numeral.false, c.in-Some.ensures.0)
    (HasFault _ ((λ same. not_from_false c.is_word.ensures c.if-is_word.false), refl) refl)
