use Rattle.kd_prices.proofs.Found.{by_prices}
use Rattle.kd_prices.proofs.Prelude.{Bars, Cables, HasFault, OtherModel, arith, refl}
use Rattle.std.proofs.lemmas.Result.{MatchResult-weaker}
use Rattle.kd_prices.proofs.checking.first_doubt.Goals as goal

pub returns-in-None-clause-answer : goal.returns-in-None-clause-answer
returns-in-None-clause-answer c = HasFault OtherModel ((λ same model. c.in-None.ensures.parted model), refl) refl

pub returns-in-Some-Rotor-clause-answer : goal.returns-in-Some-Rotor-clause-answer
returns-in-Some-Rotor-clause-answer c =
    let apart = rw c.in-Some-Rotor.field-0-is at c.in-Some-Rotor.ensures.parted in
    rw (apart.0, apart.1)
    (by_prices _ _ _ _ _ apart.2 (λ numbered are. grind arith) _ _
    (rw c.parts.ensures.value at c.cable_prices-prices.ensures.found)
    (MatchResult-weaker c.cable_prices-prices.result
    (rw (apart.0, apart.1, c.as_slice-settings.ensures.value) at c.check_by_prices.ensures)
    (λ lists says. says (Cables lists.0 lists.1) refl refl refl) (λ doubt same. same)))

pub returns-in-Some-Pin-clause-answer : goal.returns-in-Some-Pin-clause-answer
returns-in-Some-Pin-clause-answer c =
    let apart = rw c.in-Some-Pin.field-0-is at c.in-Some-Pin.ensures.parted in
    rw (apart.0, apart.1)
    (by_prices _ _ _ _ _ refl (λ numbered are. grind arith) _ _
    (rw c.parts-in-Some-Pin.ensures.value at c.bar_prices-prices.ensures.found)
    (MatchResult-weaker c.bar_prices-prices.result
    (rw (apart.0, apart.1, c.as_slice-settings.ensures.value) at c.check_by_prices-in-Some-Pin.ensures)
    (λ lists says. says (Bars lists.0 lists.1) refl refl refl) (λ doubt same. same)))
