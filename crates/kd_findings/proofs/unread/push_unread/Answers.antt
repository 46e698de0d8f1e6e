use Rattle.std.proofs.Common.{◌≡◌, ◌++◌, ◌∷◌, [], true, false, arith, append_assoc}
use Rattle.std.proofs.lemmas.Grind.{common_steps}
use Rattle.std.proofs.lemmas.List.{map-append}
use Rattle.std.specs.String.{string_bytes}
use Rattle.kd_findings.specs.Unread.{is_name_of, unread_of}
use Rattle.kd_findings.proofs.UnreadKeys.{unread_in-cons}
use Rattle.kd_findings.proofs.unread.push_unread.Goals as goal

pub members-preserved-in-Continue-1 : goal.members-preserved-in-Continue-1
members-preserved-in-Continue-1 c =
    let name = c.in-Some.key.now in
    let iter : c.members.key-iterator ≡ (name, c.in-Some.value.now) ∷ c.next.new.self = grind (arith, common_steps) in
    let known : is_name_of c.args.keys.now (string_bytes name) ≡ false =
    grind (arith, c.is_known.ensures, c.as_str-name.ensures, c.if-not-is_known.true) in
    let cons = unread_in-cons c.args.entry c.args.day c.args.keys.now name c.in-Some.value.now c.next.new.self in
    let pushed : unread_of c.push.new.self.items
    ≡ unread_of c.members.list.items ++ record { entry = c.args.entry; day = c.args.day; name = string_bytes name } ∷ [] =
    grind (arith, common_steps, map-append, c.as_str-name.ensures) in
    grind (arith, iter, known, cons, pushed, c.members.invariant, append_assoc)

pub members-preserved : goal.members-preserved
members-preserved c =
    let name = c.in-Some.key.now in
    let iter : c.members.key-iterator ≡ (name, c.in-Some.value.now) ∷ c.next.new.self = grind (arith, common_steps) in
    let known : is_name_of c.args.keys.now (string_bytes name) ≡ true =
    grind (arith, c.is_known.ensures, c.as_str-name.ensures, c.if-not-is_known.false) in
    let cons = unread_in-cons c.args.entry c.args.day c.args.keys.now name c.in-Some.value.now c.next.new.self in
    grind (arith, iter, known, cons, c.members.invariant)
