use Rattle.std.proofs.Common.{ap, rules, subst, sym}
use Rattle.std.specs.Prelude.{IfOk}
use Rattle.kd_lost.specs.ByCount.{text_of}
use Rattle.kd_lost.specs.DamagedPart.{IsPartShown}
use Rattle.kd_lost.proofs.by_count.find_by_count.Goals as goal

pub returns-in-Ok-text : goal.returns-in-Ok-text
returns-in-Ok-text c =
    let is_its = sym (ap text_of c.in-Ok-text.is) in
    let shown = subst (λ t. IfOk t (IsPartShown c.args.day.now c.as_slice.result.now)) c.in-Ok-text.is
    c.read_damaged_part-numbers.ensures.shown in
    rw (← c.in-Ok.ensures, ← c.as_slice.ensures.value) (search rules)

pub returns : goal.returns
returns c =
    let is_its = sym (ap text_of c.in-Err.is) in
    rw (← c.in-Ok.ensures, ← c.as_slice.ensures.value) (search rules)
