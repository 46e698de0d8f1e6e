use Rattle.kd_card.proofs.OneCard.{arith, few_of_group, groups_joined, rules}
use Rattle.kd_card.proofs.card_writer.push_groups.Goals as goal

pub push_kinds-requires : goal.push_kinds-requires
push_kinds-requires g c =
    let few = few_of_group _ g.row.M _ c.requires.rows in
    rw c.as_slice.ensures.value (search rules, (omega (arith, few.0, c.requires.room), few.1))

pub push_kinds-requires-2 : goal.push_kinds-requires-2
push_kinds-requires-2 g c =
    let before = few_of_group _ g.row.M _ c.requires.rows in
    let few = few_of_group _ g.row.M _ c.requires.columns in
    let written = rw c.as_slice.ensures.value at c.push_kinds.ensures.len in
    rw c.as_slice-2.ensures.value (search rules, (omega (arith, before.0, few.0, written, c.requires.room), few.1))

pub returns-clause-bytes : goal.returns-clause-bytes
returns-clause-bytes g c =
    rw (c.push_kinds-2.ensures.bytes, c.push_kinds.ensures.bytes, c.as_slice.ensures.value, c.as_slice-2.ensures.value)
    (groups_joined g.R.Kind.format g.C.Kind.format _ _ _)
