use Rattle.std.proofs.Common.{◌∙◌}
use Rattle.kd_lost.specs.Lost.{filled}
use Rattle.kd_lost.proofs.Ciphers.{ciphers_covered_alike, filled_completes}
use Rattle.kd_lost.proofs.body.decipher_covered.Goals as goal

pub returns : goal.returns
returns c = λ whole completes.
    let received = c.args.received.now in
    let text = rw (c.as_slice.ensures.value, c.filled.ensures) at c.encipher_text-text.ensures.text in
    let shown = rw (c.new-shown.ensures, c.as_slice-2.ensures.value, text) at c.push_covered.ensures in
    shown ∙ ciphers_covered_alike _ _ received (filled received) whole (filled_completes received) completes
