use Rattle.std.proofs.Common.{◌≡◌, [], Bool, arith, false, true, if◌then◌else◌, sym, subst}
use Rattle.std.proofs.lemmas.Grind.{common_steps}
use Rattle.kd_lost.specs.DamagedForm.{AreReadOf, AreReadWith, damaged_parts_of}
use Rattle.kd_lost.specs.OneMessage.{are_of_one_message}
use Rattle.kd_lost.proofs.CompletedParts.{chosen_alone, completed_by_none, read_twice}
use Rattle.kd_lost.proofs.form.read_damaged_form.Goals as goal

pub returns-then-not-are_of_one_message-clause-read :
    goal.returns-then-not-are_of_one_message-clause-read
returns-then-not-are_of_one_message-clause-read c =
    let s = c.args.day.now in
    let form = c.args.form.now in
    let alone = c.in_ok-alone.alone.items in
    let several : are_of_one_message alone ≡ false = grind (arith, common_steps) in
    record {
      alone = alone;
      read = subst (λ l. AreReadOf s l alone) (completed_by_none 0 (damaged_parts_of form)) c.in_ok-alone.ensures.read;
      again = alone;
      read_again =
          subst (λ (b : Bool). AreReadWith s (if b then alone else []) form alone) (sym several)
          c.in_ok-alone.ensures.read;
      chosen = chosen_alone alone;
    }

pub returns-then-are_kept-clause-read : goal.returns-then-are_kept-clause-read
returns-then-are_kept-clause-read c =
    read_twice c.args.day.now c.args.form.now c.in_ok-alone.alone.items _ c.in_ok-again.again.items true
    (grind (arith, common_steps)) c.in_ok-alone.ensures.read
    c.as_slice-2.ensures.value c.in_ok-again.ensures.read (grind (arith, common_steps))

pub returns-else-are_kept-clause-read : goal.returns-else-are_kept-clause-read
returns-else-are_kept-clause-read c =
    read_twice c.args.day.now c.args.form.now c.in_ok-alone.alone.items _ c.in_ok-again.again.items false
    (grind (arith, common_steps)) c.in_ok-alone.ensures.read
    c.as_slice-2.ensures.value c.in_ok-again.ensures.read (grind (arith, common_steps))
