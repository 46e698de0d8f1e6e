use Rattle.std.proofs.{Common.{None, ap, length, ◌++◌}, lemmas.List.drop-replicate}
use Rattle.kd_sheet.proofs.values.cables.fill_up_cables.Goals as goal

pub returns : goal.returns
returns c =
    rw c.copy_from_slice.ensures.after (ap (λ rest. c.args.cables.now ++ rest) (drop-replicate
    (length c.args.cables.now) 13 (None, None)))
