use Rattle.std.proofs.Common.{arith, is_some, slice_index_or}
use Rattle.std.proofs.lemmas.Grind.{common_steps}
use Rattle.kd_lost.specs.Lost.{received_letter}
use Rattle.kd_lost.specs.ShortGroup.{EndsShortGroup}
use Rattle.kd_lost.proofs.ShortGroups.{few_counted, letters_on_more, none_up_to, not_at_letter, not_at_end, not_after_whole}
use Rattle.kd_lost.proofs.short_group.first_short_group.Goals as goal
use Rattle.kd_lost.proofs.short_group.first_short_group.Goals.{
  else-not-is_received-via-then-not-is_received+then-letters-all+else-letters-ne0,
  else-not-is_received-via-then-not-is_received+else-letters-all,
  else-not-is_received-via-else-not-is_received,
}

pub loop-byte-preserved : goal.loop-byte-preserved
loop-byte-preserved c =
    let body = c.args.body.now in
    let i = c.loop-byte.byte-index in
    let letters = c.loop-byte.letters in
    let so_far = c.loop-byte.invariant.0 in
    let here : ¬ (EndsShortGroup body i) = elim c.else-not-is_received.branch [
      | else-not-is_received-via-then-not-is_received+then-letters-all+else-letters-ne0 w ↦
          not_after_whole body i letters so_far (grind (arith, w.if-letters-ne0.false))
      | else-not-is_received-via-then-not-is_received+else-letters-all w ↦
          not_at_end body i letters so_far (grind (arith, w.if-letters-all.false, c.letters_on-all.ensures))
      | else-not-is_received-via-else-not-is_received w ↦
          not_at_letter body i (grind (arith, w.if-not-is_received.false, c.is_received.ensures))
    ] in (
      letters_on_more body i letters _ c.loop-byte-test.true so_far c.letters_after-letters.ensures,
      few_counted (is_some (received_letter (slice_index_or body i 0))) i letters _ c.loop-byte.invariant.1
          c.letters_after-letters.ensures,
      none_up_to body i c.loop-byte.invariant.2 here,
    )

pub returns : goal.returns
returns c = grind (arith, common_steps)
