use Rattle.kd_card.proofs.OneCard.{AtOther, common_steps, HasLineWords, nil_from_length, refl, subst, sym, ◌∙◌}
use Rattle.kd_card.proofs.OneCard.{arith, MatchResult-err, no_line, nonempty-by_length, not_from_false, ThenNext-Ok}
use Rattle.kd_card.proofs.OneCard.{ends_at, no_kind, unended, words_are}
use Rattle.std.proofs.lemmas.Bool.{eqb-true}
use Rattle.kd_card.proofs.kind_text.next_kind.Goals as goal

pub returns-then-is_empty : goal.returns-then-is_empty
returns-then-is_empty g c = grind (arith, common_steps, ends_at, nil_from_length, eqb-true)

pub returns-in_err-first : goal.returns-in_err-first
returns-in_err-first g c =
    let some = nonempty-by_length c.is_empty.ensures c.if-is_empty.false in
    let none = no_line some c.in_err-first.ensures in
    MatchResult-err _ _ _ _ c.from_residual.ensures.1 (unended c.args.last some none.0, none.1)

pub returns-then-not-is_word : goal.returns-then-not-is_word
returns-then-not-is_word g c =
    ends_at c.args.last
    (AtOther c.in_ok-first.first.now (record { behind = _; rest = _; has = (ThenNext-Ok c.in_ok-first.ensures).next })
    (λ e. not_from_false c.is_word.ensures c.if-not-is_word.true (e ∙ sym c.word.ensures.value)))

pub returns-in-Some : goal.returns-in-Some
returns-in-Some g c =
    let is = c.in-Some.ensures.0.has in
    let word = c.is_word.ensures.0 c.if-not-is_word.false ∙ c.word.ensures.value in
    let has = rw word at (ThenNext-Ok c.in_ok-first.ensures).next in
    record {
      good = is.good;
      after = c.in-Some.ensures.1;
      line = subst (λ words. HasLineWords c.args.text.now words c.in_ok-first.rest.now) (sym is.written) has;
    }

pub returns-in-None : goal.returns-in-None
returns-in-None g c =
    let word = c.is_word.ensures.0 c.if-not-is_word.false ∙ c.word.ensures.value in
    let has = rw word at (ThenNext-Ok c.in_ok-first.ensures).next in (
      no_kind c.args.last (record { behind = _; rest = _; has = has })
          (λ kind more next. c.in-None.ensures kind (words_are has next) next.after),
      refl,
    )
