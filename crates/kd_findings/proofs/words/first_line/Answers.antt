use Rattle.std.proofs.Common.{inl, inr, lit<, refl}
use Rattle.std.proofs.lemmas.Str.Pattern.{split_parts}
use Rattle.kd_findings.proofs.words.first_line.Goals as goal

pub returns-in-Some : goal.returns-in-Some
returns-in-Some c =
    let parts = split_parts 10 c.args.words.now c.split_once.result c.split_once.ensures.cases (lit< tt) in
    record { plain = (rw c.in-Some.is at parts).1; first = inr (_, (rw c.in-Some.is at parts).0) }

pub returns-in-None : goal.returns-in-None
returns-in-None c =
    let parts = split_parts 10 c.args.words.now c.split_once.result c.split_once.ensures.cases (lit< tt) in
    record { plain = rw c.in-None.is at parts; first = inl refl }
