use Rattle.std.proofs.Common.{[], ◌∷◌, ◌++◌}
use Rattle.kd_spreadsheet.proofs.Writings.{writes_then}
use Rattle.kd_curator.proofs.error_line.put_refusal.Goals as goal

pub returns-clause-text : goal.returns-clause-text
returns-clause-text g c =
    let begun = rw c.as_bytes.ensures.value at c.in_ok-put_all.ensures.text.whole in
    writes_then _ _ _ c.args.text.now (c.args.words.now ++ (c.args.name.now ++ 10 ∷ [])) _ begun
    c.put_named.ensures.text
