use Rattle.std.proofs.Common.{◌≡◌, ◌∙◌, ◌-◌, ◌∷◌, ◌&&◌, nat_lt, ap, arith, length, length-append, sym, Some}
use Rattle.kd_lost.specs.ShortLine.{is_short, letters_on}
use Rattle.kd_lost.proofs.ShortLines.{short_after, short_none, short_there}
use Rattle.kd_lost.proofs.short_line.first_short_line.Goals as goal

pub returns-then-is_short_before : goal.returns-then-is_short_before
returns-then-is_short_before c =
    let body = c.args.body.now in
    let left = c.loop-first.left.now in
    let rest = c.in-Some.rest.now in
    let letters = c.letters_on-letters.ensures in
    let before : c.saturating_sub-before.result ≡ letters_on body - letters_on left =
    omega (arith, c.saturating_sub-before.ensures, c.letters_on-all.ensures, c.letters_on-from.ensures) in
    let told = (λ i. is_short (sym letters i) && nat_lt 0 (letters_on rest)) ∙ sym c.is_short_before.ensures
    ∙ c.if-is_short_before.true in
    sym (c.loop-first.invariant.0
    ∙ short_there (letters_on body) c.loop-first.line left c.in-Some.first.now rest c.in-Some.ensures told
    ∙ (λ i. Some (record { line = c.loop-first.line; letters = sym letters i; before = sym before i })))

pub loop-first-preserved : goal.loop-first-preserved
loop-first-preserved c =
    let body = c.args.body.now in
    let first = c.in-Some.first.now in
    let rest = c.in-Some.rest.now in
    let letters = c.letters_on-letters.ensures in
    let told = (λ i. is_short (sym letters i) && nat_lt 0 (letters_on rest)) ∙ sym c.is_short_before.ensures
    ∙ c.if-is_short_before.false in (
      c.loop-first.invariant.0
          ∙ short_after (letters_on body) c.loop-first.line c.loop-first.left.now first rest c.in-Some.ensures told,
      omega (
        arith,
        c.loop-first.invariant.1,
        ap length c.in-Some.ensures.joined,
        length-append first (10 ∷ rest),
      ),
    )

pub returns : goal.returns
returns c =
    sym (c.loop-first.invariant.0
    ∙ short_none (letters_on c.args.body.now) c.loop-first.line c.loop-first.left.now c.in_default.ensures)
