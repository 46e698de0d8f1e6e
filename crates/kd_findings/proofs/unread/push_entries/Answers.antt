use Rattle.std.proofs.Common.{◌≡◌, ◌+◌, [], Some, map, arith, append_assoc}
use Rattle.std.specs.Option.{option_map_or}
use Rattle.toml.specs.View.{view}
use Rattle.kd_state.specs.SameParts.{numbered_item}
use Rattle.kd_slips.proofs.Finding.{numbered-at}
use Rattle.kd_findings.specs.Unread.{unread_in_entry}
use Rattle.kd_findings.proofs.Ranges.{one_more}
use Rattle.kd_findings.proofs.unread.push_entries.Goals as goal

pub loop-index-preserved : goal.loop-index-preserved
loop-index-preserved c =
    let items = c.args.items.now in
    let index = c.loop-index.index in
    let at : numbered_item (map view items) (index + 1) ≡ Some (view c.index-items-index.result) =
    numbered-at view items index c.index-items-index.result (omega (arith, c.loop-index-test.true))
    (grind (arith, c.index-items-index.is)) in
    let more = one_more (λ number. option_map_or (unread_in_entry number) (numbered_item (map view items) number) []) 1 index in
    let same : 1 + index ≡ index + 1 = omega arith in
    grind (arith, rw (same, at) at more, append_assoc)
