use Rattle.kd_desk.proofs.Prelude.{refl, rules, NoCard, ForOtherDay, Doubtful, ◌≡◌}
use Rattle.kd_desk.proofs.{Checking.IsVerdictWritten-proved}
use Rattle.kd_host.proofs.Failing.{err_is, in_part, in_whole}
use Rattle.kd_desk.proofs.run_check.check_card.Goals as goal

pub returns-in_err-dated-clause-checks : goal.returns-in_err-dated-clause-checks
returns-in_err-dated-clause-checks g c = NoCard _ c.in_err-dated.ensures (err_is _ _ c.from_residual.ensures.1)

pub returns-then-dated-number-clause-checks : goal.returns-then-dated-number-clause-checks
returns-then-dated-number-clause-checks g c =
    ForOtherDay c.in_ok-dated.dated c.in_ok-dated.card.settings.items c.in_ok-dated.card.prices c.in_ok-dated.ensures
    (search rules) refl

pub returns-in_err-check-clause-checks : goal.returns-in_err-check-clause-checks
returns-in_err-check-clause-checks g c =
    let same : c.in_ok-dated.dated ≡ c.args.number = search rules in
    Doubtful _ _ _ (rw same at c.in_ok-dated.ensures) c.in_err-check.ensures.doubt
    (err_is _ _ c.from_residual-in_err-check.ensures.1)

pub returns-in_err-write_verdict-clause-checks : goal.returns-in_err-write_verdict-clause-checks
returns-in_err-write_verdict-clause-checks g c =
    IsVerdictWritten-proved _ _ _ _ _ _ (search rules) (search rules)
    _ _ _ c.len.result c.in_ok-dated.ensures (search rules) (c.in_ok-check.ensures.proves.0 refl) (search rules)
    (in_part _ _ _ _ c.in_err-write_verdict.ensures.text.front c.from_residual-in_err-write_verdict.ensures.1)

pub returns-clause-checks : goal.returns-clause-checks
returns-clause-checks g c =
    IsVerdictWritten-proved _ _ _ _ _ _ (search rules) (search rules)
    _ _ _ c.len.result c.in_ok-dated.ensures (search rules) (c.in_ok-check.ensures.proves.0 refl) (search rules)
    (in_whole _ _ _ c.in_ok-write_verdict.ensures.text.whole)
