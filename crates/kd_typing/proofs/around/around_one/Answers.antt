use Rattle.std.proofs.Common.{arith, rules, slice_index, ◌≡◌}
use Rattle.std.proofs.lemmas.{Bool.cases_eq, Grind.common_steps}
use Rattle.kd_typing.specs.Around.{around_one}
use Rattle.kd_typing.proofs.WaysAround.{around_one_by, around_one_filled}
use Rattle.kd_typing.proofs.around.around_one.Goals as goal

pub loop-place-preserved : goal.loop-place-preserved
loop-place-preserved c =
    let at = around_one_by c.args.core.now c.args.seated c.args.letter c.loop-place.place c.index.result
    c.index-core-index.result (search rules) (omega arith) (grind arith) (search rules) c.index-core-index.is in
    let new : c.through-in-loop-place.result
    ≡ slice_index (around_one c.args.core.now c.args.seated c.args.letter) c.loop-place.place = grind (arith, at) in
    record {
      size = search rules;
      each = λ k lt. grind (arith, common_steps, cases_eq, new, c.loop-place.invariant.each k);
    }

pub returns : goal.returns
returns c =
    around_one_filled c.loop-place.row c.args.core.now c.args.seated c.args.letter c.loop-place.invariant.size
    (λ k lt. c.loop-place.invariant.each k (omega arith))
