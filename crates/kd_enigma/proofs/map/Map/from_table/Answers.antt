use Rattle.std.proofs.Common.{◌≡◌, ◌<◌, ℕ, slice_index, if◌then◌else◌, ltb, arith, rules}
use Rattle.{kd_enigma.proofs.{FilledArrays.each_made, Maps.lanes_of, Maps.told_front}}
use Rattle.{std.proofs.lemmas.Bool.Decides.nat_tests}
use Rattle.kd_enigma.proofs.map.Map.from_table.Goals as goal

each_lane : (c : goal.After-from_fn-lanes) (k : ℕ) → k < 32
    → (k < 26 → slice_index c.from_fn-lanes.result k < 26)
    × (slice_index c.from_fn-lanes.result k ≡ (if ltb k 26 then slice_index c.args.table.now k else k))
each_lane c k = grind (arith, each_made)

pub invariant_of-result : goal.invariant_of-result
invariant_of-result c = grind (arith, lanes_of, each_lane)

pub returns : goal.returns
returns c =
    told_front c.from_fn-lanes.result c.args.table.now c.from_fn-lanes.ensures.items.long (search rules)
    (λ k lt. grind (arith, nat_tests, each_lane c k))
