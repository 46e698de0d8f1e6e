use Rattle.std.proofs.Common.{◌≡◌, ◌-◌, length, take, drop, arith, append_assoc, length-append}
use Rattle.std.proofs.lemmas.Grind.{common_steps}
use Rattle.std.specs.List.{slice_range}
use Rattle.std.proofs.lemmas.List.{drop_min, take_min}
use Rattle.kd_message.proofs.Works.{received_few, skipped_few}
use Rattle.kd_message.proofs.received_work.pin_body.Goals as goal

pub push_skipped-requires-2 : goal.push_skipped-requires-2
push_skipped-requires-2 c = grind (arith, common_steps, received_few, skipped_few, length-append)

pub returns : goal.returns
returns c =
    let received = c.args.shown.now.received.items in
    let front : c.split_at.result.0.now ≡ take 10 received = grind (arith, take_min) in
    let rest : c.split_at.result.1.now ≡ drop 10 received = grind (arith, drop_min) in
    let text : c.split_at-2.result.0.now ≡ slice_range received 10 (length received - 10) = grind (arith, rest) in
    let back : c.split_at-3.result.1.now ≡ drop (length received - 10) received = grind arith in
    grind (arith, front, text, back, append_assoc)
