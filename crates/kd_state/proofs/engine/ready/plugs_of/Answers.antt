use Rattle.kd_state.proofs.{Cables.no_letter_twice, Prelude.{rules, ◌∙◌}}
use Rattle.kd_state.proofs.engine.ready.plugs_of.Goals as goal

pub unwrap-requires : goal.unwrap-requires
unwrap-requires c =
    c.from_pairs.ensures.ok.1 (rw (c.as_slice.ensures.value ∙ c.plugged_pairs.ensures)
    (no_letter_twice c.args.cables.now c.requires (c.have_no_single_letter.ensures.0 (search rules))))
