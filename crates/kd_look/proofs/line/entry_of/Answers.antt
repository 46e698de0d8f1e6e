use Rattle.std.proofs.Common.{◌≡◌, suc, ◌∙◌, Some, ap, map, slice_get, option_map, arith}
use Rattle.std.proofs.lemmas.Option.{slice_get-get_or, slice_get-map}
use Rattle.toml.specs.View.{view}
use Rattle.kd_findings.proofs.Entries.{numbered_item-suc}
use Rattle.kd_look.proofs.line.entry_of.Goals as goal

pub returns : goal.returns
returns c =
    let follows : c.args.entry ≡ suc c.in_ok-place.place = grind (arith, c.in_ok-place.ensures) in
    let found : slice_get c.args.items.now c.in_ok-place.place ≡ Some c.in_ok-item.item.now =
    grind (arith, slice_get-get_or c.args.items.now c.in_ok-place.place c.in_ok-item.item.now, c.in_ok-item.ensures) in
    let here = numbered_item-suc (map view c.args.items.now) _ _ follows ∙ slice_get-map view c.args.items.now _
    ∙ ap (λ item. option_map view item) found in
    rw here c.as_table.ensures
