use Rattle.{std.proofs.Common.rules, kd_drum.proofs.Letters.{none_fails, on_wheel}}
use Rattle.kd_drum.proofs.converter.Converter.can_show.Goals as goal

pub returns : goal.returns
returns c =
    let stands = c.self.invariant.0 in
    let there = c.args.letters.now in
    rw c.contains.ensures.value (none_fails there _ _ _ _ _ _
    (on_wheel _ _ there 0 _ _ stands.first.ring (search rules) c.has.ensures)
    (on_wheel _ _ there 1 _ _ stands.second.ring (search rules) c.has-2.ensures)
    (on_wheel _ _ there 2 _ _ stands.third.ring (search rules) c.has-3.ensures)
    (on_wheel _ _ there 3 _ _ stands.fourth.ring (search rules) c.has-4.ensures)
    (on_wheel _ _ there 4 _ _ stands.fifth.ring (search rules) c.has-5.ensures)
    (on_wheel _ _ there 5 _ _ stands.sixth.ring (search rules) c.has-6.ensures))
