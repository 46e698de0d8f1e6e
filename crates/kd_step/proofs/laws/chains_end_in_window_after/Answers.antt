use Rattle.kd_step.{proofs.Steps.window_after-only, proofs.Steps.LeadsInSteps-window_after, specs.Stepper.LeadsInSteps}
use Rattle.std.proofs.Common.{subst, sym}
use Rattle.kd_step.proofs.laws.chains_end_in_window_after.Goals as goal

pub returns : goal.returns
returns c = λ wheels first last n. (
  window_after-only wheels first last n,
  λ same. subst (LeadsInSteps wheels first n) (sym same) (LeadsInSteps-window_after wheels first n),
)
