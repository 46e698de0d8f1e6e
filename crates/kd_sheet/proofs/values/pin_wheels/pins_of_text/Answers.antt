use Rattle.{kd_tables.specs.Text.{letters_text}, std.proofs.lemmas.Simd.{splat_is_map}}
use Rattle.kd_sheet.proofs.ReadBack.Described.KeyValues.{Some, ap, false, length-map, pins_of_text, refl, sym, ◌∙◌}
use Rattle.kd_sheet.proofs.ReadBack.Described.KeyValues.{pins_of_text-absent, pins_of_text-push, pins_of_text-twice}
use Rattle.kd_sheet.proofs.values.pin_wheels.pins_of_text.Goals as goal

pub loop-byte-init : goal.loop-byte-init
unfolding pins_of_text
loop-byte-init g c =
    ap Some (sym (splat_is_map (letters_text c.letters-letters.result) g.row.N false (length-map _ _
    ∙ c.letters-letters.ensures.ring.full)))

pub returns-in_err-index : goal.returns-in_err-index
returns-in_err-index g c = rw (← c.letters-letters.ensures.value) (c.from_residual.ensures
    ∙ pins_of_text-absent _ _ _ _ c.loop-byte-test.true refl (sym c.index_of_byte.ensures ∙ c.in_err-index.was))

pub returns-then-pins-index : goal.returns-then-pins-index
returns-then-pins-index g c = rw (← c.letters-letters.ensures.value) (pins_of_text-twice _ _ _ _ c.loop-byte-test.true
    refl _ _ c.loop-byte.invariant (sym c.index_of_byte.ensures ∙ c.in_ok-index.was) c.if-pins-index.true)

pub loop-byte-preserved : goal.loop-byte-preserved
loop-byte-preserved g c = pins_of_text-push _ _ _ _ c.loop-byte-test.true refl _ _ c.loop-byte.invariant
    (sym c.index_of_byte.ensures ∙ c.in_ok-index.was) c.letters-letters.ensures.ring.differ c.if-pins-index.false
