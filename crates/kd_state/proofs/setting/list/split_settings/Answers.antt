use Rattle.std.proofs.lemmas.Grind.{common_steps}
use Rattle.kd_state.proofs.{Prelude.{eqb-true, length_push, [], arith, sym, ◌++◌, ◌∙◌, ◌∷◌}, Lines.one_more}
use Rattle.kd_state.proofs.setting.list.split_settings.Goals as goal

pub returns-then-is_full : goal.returns-then-is_full
returns-then-is_full c =
    let settings = c.loop-setting.settings.items in
    let full = eqb-true _ _ (sym c.is_full.ensures.value ∙ c.if-is_full.true) in (
      settings ++ c.in-Some.setting ∷ [],
      c.in-Some.after.now,
      one_more c.args.text.now settings c.loop-setting.rest.now c.in-Some.setting c.in-Some.after.now
          c.loop-setting.invariant.begins c.in-Some.ensures,
      omega (arith, full, length_push settings c.in-Some.setting),
    )

pub loop-setting-preserved : goal.loop-setting-preserved
loop-setting-preserved c = grind (arith, common_steps)

pub loop-setting-smaller : goal.loop-setting-smaller
loop-setting-smaller c = grind (arith, common_steps)
