use Rattle.std.proofs.Common.{◌≡◌}
use Rattle.kd_step.specs.Stepper.{window_after}
use Rattle.kd_part_sheet.proofs.letters_after.turned.Given as goal

abbrev pub invariant-loop-press : goal.invariant-loop-press
invariant-loop-press g l = record {
  wheels : l.stepper.wheels ≡ l.fn.wheels;
  window : l.stepper.window ≡ window_after l.fn.wheels l.fn.window l._press;
}
