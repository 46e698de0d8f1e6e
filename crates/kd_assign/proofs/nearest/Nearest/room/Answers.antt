use Rattle.kd_assign.proofs.Differences.{IsSmall-ceiling, IsSmall-price, SFits-difference, difference-exact}
use Rattle.kd_assign.proofs.nearest.Nearest.room.Goals as goal

pub overflow_sub-result : goal.overflow_sub-result
overflow_sub-result g c =
    let close = c.requires.close in
    SFits-difference _ _ (IsSmall-ceiling c.args.column close c.requires.column)
    (IsSmall-price c.args.column close c.requires.column)

pub returns : goal.returns
returns g c =
    let close = c.requires.close in
    difference-exact _ _ (IsSmall-ceiling c.args.column close c.requires.column)
    (IsSmall-price c.args.column close c.requires.column)
