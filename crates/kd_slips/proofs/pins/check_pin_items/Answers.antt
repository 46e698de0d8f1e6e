use Rattle.std.proofs.Common.{◌≡◌, ◌+◌, map, length, not, true, false, Some, arith, refl, ap, sym, ◌∙◌}
use Rattle.std.proofs.lemmas.List.{length-map}
use Rattle.std.specs.Option.{option_map_or}
use Rattle.toml.specs.View.{view}
use Rattle.kd_state.specs.SameParts.{numbered_item}
use Rattle.kd_slips.specs.Items.{first_refused, reads_pins}
use Rattle.kd_slips.proofs.Finding.{finds_first, finds_none, no_value, numbered-at, same_item}
use Rattle.kd_slips.proofs.pins.check_pin_items.Goals as goal

pub returns-then-not-reads_pins : goal.returns-then-not-reads_pins
returns-then-not-reads_pins c =
    let items = c.args.items.now in
    let index = c.loop-index.index in
    let item = c.index-items-index.result in
    let same : length (map view items) ≡ length items = length-map items view in
    let is : numbered_item (map view items) (index + 1) ≡ Some (view item) =
    numbered-at view items index item (omega (arith, c.loop-index-test.true)) (grind (arith, c.index-items-index.is)) in
    let refused : reads_pins (index + 1) (view item) ≡ false = grind (arith, c.reads_pins.ensures, c.if-not-reads_pins.true) in
    let passes : not (option_map_or (reads_pins (index + 1)) (numbered_item (map view items) (index + 1)) true) ≡ true =
    rw (is, refused) refl in
    let wheel : c.from.result ≡ index + 1 = grind (arith, c.from.ensures) in
    let first : first_refused reads_pins (map view items) ≡ Some c.from.result =
    finds_first (λ number. not (option_map_or (reads_pins number) (numbered_item (map view items) number) true)) 1
    (length (map view items)) (index + 1) (omega arith) (omega arith) passes
    (λ before from below. let read = c.loop-index.invariant before from (omega arith) in rw read refl)
    ∙ ap Some (sym wheel) in
    record {
      read = no_value c.at_item.result _ c.at_item.ensures.refused;
      item = same_item c.at_item.result _ _ first c.at_item.ensures.slip;
    }

pub returns-clause-read : goal.returns-clause-read
returns-clause-read c =
    let items = c.args.items.now in
    let same : length (map view items) ≡ length items = length-map items view in
    finds_none (λ number. not (option_map_or (reads_pins number) (numbered_item (map view items) number) true)) 1
    (length (map view items))
    (λ number from below. let read = c.loop-index.invariant number from (omega arith) in rw read refl)
