use Rattle.std.proofs.Common.{[], ◌∷◌, ◌++◌}
use Rattle.kd_spreadsheet.proofs.Writings.{writes_front, writes_then}
use Rattle.kd_curator.proofs.Writings.{writes_second}
use Rattle.kd_curator.proofs.error_line.put_named.Goals as goal

pub returns-in_err-put_all-2-clause-text : goal.returns-in_err-put_all-2-clause-text
returns-in_err-put_all-2-clause-text g c =
    let begun = rw c.as_bytes.ensures.value at c.in_ok-put_all.ensures.text.whole in
    let named = rw c.as_bytes-2.ensures.value at c.in_err-put_all-2.ensures.text.front in
    writes_second _ _ _ c.args.words.now (c.args.name.now ++ 10 ∷ []) _ _
    c.from_residual-in_err-put_all-2.ensures.1 begun
    (writes_front {T = Unit {0}} _ _ _ (10 ∷ []) c.in_err-put_all-2.field-0.0 named).front

pub returns-clause-text : goal.returns-clause-text
returns-clause-text g c =
    let begun = rw c.as_bytes.ensures.value at c.in_ok-put_all.ensures.text.whole in
    let named = rw c.as_bytes-2.ensures.value at c.in_ok-put_all-2.ensures.text.whole in
    writes_then _ _ _ c.args.words.now (c.args.name.now ++ 10 ∷ []) _ begun
    (writes_then _ _ _ c.args.name.now (10 ∷ []) _ named c.put_all-3.ensures.text)
