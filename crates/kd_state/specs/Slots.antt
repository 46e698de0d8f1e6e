-- Three or four values, one for each slot.
-- Code: `PerSlot` has an array of three values, or an array of four.
use Rattle.std.specs.Prelude.{◌≡◌, ◌==◌, List, length, if◌then◌else◌}
use Rattle.kd_state.specs.declared.machine.per_slot.Slots.{Slots}
use Rattle.kd_state.specs.declared.machine.per_slot.Slots.TheVariants.{Three, Four}

-- the values, from the left slot to the right slot
abbrev pub slot_values : {T : Type 0} → Slots T → List T
slot_values (Three values) = values
slot_values (Four values) = values

-- `Three` has three values, and `Four` has four.
abbrev pub HasSlotCount : {T : Type 0} → Slots T → Type 0
HasSlotCount (Three values) = length values ≡ 3
HasSlotCount (Four values) = length values ≡ 4

-- the values as `Three` if there are three, otherwise as `Four`
abbrev pub slots_of_values : {T : Type 0} → List T → Slots T
slots_of_values values = if length values == 3 then Three values else Four values
