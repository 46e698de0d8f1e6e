use Rattle.std.proofs.Common.{◌≡◌, ℕ, ◌≤◌, map, true}
use Rattle.std.specs.Option.{option_map_or}
use Rattle.toml.specs.View.{view}
use Rattle.kd_state.specs.SameParts.{numbered_item}
use Rattle.kd_slips.specs.Items.{reads_pins}
use Rattle.kd_slips.proofs.pins.check_pin_items.Given as goal

-- the items so far are read
abbrev pub invariant-loop-index : goal.invariant-loop-index
invariant-loop-index l = (number : ℕ) → 1 ≤ number → number ≤ l.index
    → option_map_or (reads_pins number) (numbered_item (map view l.items) number) true ≡ true
