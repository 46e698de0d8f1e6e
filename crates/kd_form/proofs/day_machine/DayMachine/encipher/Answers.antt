use Rattle.{kd_form.proofs.MadeParts.{run_keeps_days_key, ◌∙◌, ap, length}, kd_state.specs.EngineKey.engine_key_after}
use Rattle.kd_form.proofs.day_machine.DayMachine.encipher.Goals as goal

pub invariant_of-self : goal.invariant_of-self
invariant_of-self c =
    run_keeps_days_key _ _ _ _ _ c.self.invariant
    (c.run.ensures.after ∙ ap (λ k. engine_key_after k (length c.args.text.now)) c.if-turned.ensures.turned)
