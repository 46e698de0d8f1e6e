use Rattle.{kd_tables.proofs.Rings.letter_leads_to_place, std.proofs.{Common.arith, lemmas.List.get_or_default}}
use Rattle.kd_tables.proofs.ring.Ring.letter_of.Goals as goal

pub returns-clause-there_alone : goal.returns-clause-there_alone
returns-clause-there_alone g c =
    let letters = c.self.inside.letters in
    rw (
      get_or_default letters c.args.place c.index-self-place.result 0 (omega (arith, c.self.invariant.full)),
      ← c.self.view_is,
    )
    (letter_leads_to_place g.row.N letters c.self.invariant c.args.place c.requires)
