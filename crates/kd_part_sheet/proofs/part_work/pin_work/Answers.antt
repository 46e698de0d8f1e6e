use Rattle.kd_part_sheet.proofs.Works.{key_picked, picked_key}
use Rattle.kd_part_sheet.proofs.part_work.pin_work.Goals as goal

pub unwrap-internal-requires : goal.unwrap-internal-requires
unwrap-internal-requires c =
    key_picked _ _ _ (rw c.new-machine.ensures at c.internal_key_of.ensures.key) c.requires.internal

pub returns : goal.returns
returns c =
    let is = picked_key _ _ _ _ (rw c.new-machine.ensures at c.internal_key_of.ensures.key) c.unwrap-internal.ensures in
    (_, is, rw c.as_slice.ensures.value at c.pin_work_from.ensures)
