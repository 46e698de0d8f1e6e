use Rattle.kd_card.proofs.OneCard.{reads_none}
use Rattle.std.proofs.lemmas.Grind.{common_steps}
use Rattle.kd_card.proofs.OneCard.{KindOf, arith, ◌∙◌, refl, ap, BadLine, PriceMissing, HasFault, GoesOn, Ok}
use Rattle.kd_card.proofs.OneCard.{◌≡◌, all_read, reads_on, total_count}
use Rattle.kd_card.proofs.kind_text.read_kinds.Goals as goal

pub returns-in-Err : goal.returns-in-Err
returns-in-Err g c =
    let read = c.kind.invariant in
    let bad = c.in-Err.ensures.0 in
    GoesOn (read.read, c.kind.rest.now) (all_read read bad.none_more)
    (HasFault c.in-Err.fault ((λ same ends. bad.goes_on ends), c.in-Err.ensures.1 ∙ ap BadLine read.at_is) refl)

pub kind-preserved : goal.kind-preserved
kind-preserved g c =
    let next = rw c.in-Ok-Some.field-0-is at c.in-Ok-Some.ensures in
    reads_on c.kind.invariant next (omega
    (arith, c.min-number.ensures, c.from.ensures, ap (λ (k : KindOf _). k.count) c.parts.ensures))
    (λ within. grind (arith, c.try_push.ensures.variant.1 within))

pub returns-then-number : goal.returns-then-number
returns-then-number g c =
    let read = c.kind.invariant in
    let end = rw c.in-Ok-None.field-0-is at c.in-Ok-None.ensures in
    let all = c.if-number.true in
    let counts : total_count g.K.Kind.format read.read ≡ g.row.N = omega (arith, read.number_is) in
    GoesOn (read.read, c.kind.rest.now) (all_read read end.none_more) (GoesOn tt end.ends (GoesOn tt counts
    (ap (λ kinds. Ok (kinds, c.kind.rest.now)) (read.keeps (omega (arith, read.some))))))

pub returns-else-number : goal.returns-else-number
returns-else-number g c =
    let read = c.kind.invariant in
    let end = rw c.in-Ok-None.field-0-is at c.in-Ok-None.ensures in
    GoesOn (read.read, c.kind.rest.now) (all_read read end.none_more) (GoesOn tt end.ends
    (HasFault PriceMissing ((λ same count. c.if-number.false (omega (arith, read.number_is, count))), refl) refl))

pub kind-init : goal.kind-init
kind-init g c = grind (arith, reads_none)

pub kind-smaller : goal.kind-smaller
kind-smaller g c = grind (arith, common_steps)
