use Rattle.kd_form.proofs.Headings.{fraction_parts, same_fraction, rules, arith, append_assoc, has_byte}
use Rattle.kd_form.proofs.Headings.{IsWithout, codes, decimal, sym, ◌∙◌}
use Rattle.kd_form.proofs.Prelude.{subst}
use Rattle.kd_form.proofs.receiving.heading_reader.read_fraction.Goals as goal

pub returns-in_err-part-2 : goal.returns-in_err-part-2
returns-in_err-part-2 c =
    rw c.from_residual-in_err-part-2.ensures
    (λ part parts number is. c.in_err-part-2.ensures part (omega (arith, number.in_order, number.few))
    (fraction_parts _ _ _ part parts number c.in_ok-part.ensures is).0)

pub returns-in_err-parts : goal.returns-in_err-parts
returns-in_err-parts c =
    rw c.from_residual-in_err-parts.ensures (λ part parts number is. c.in_err-parts.ensures parts
    (omega (arith, number.few))
    (fraction_parts _ _ _ part parts number c.in_ok-part.ensures is).1)

pub returns-then-part-lt1 : goal.returns-then-part-lt1
returns-then-part-lt1 c = λ part parts number is.
    let same =
    same_fraction _ _ _ part parts c.in_ok-part-2.part c.in_ok-parts.parts number (search rules) (search rules)
    c.in_ok-part.ensures c.in_ok-part-2.ensures c.in_ok-parts.ensures is in grind (arith, same, number)

pub returns-in_err-part : goal.returns-in_err-part
returns-in_err-part c =
    rw c.from_residual.ensures
    (λ part parts number is. has_byte 47 (decimal part) (decimal parts)
    (subst (λ text. IsWithout 47 text) (sym is ∙ append_assoc (decimal part) (codes "/") (decimal parts)) c.in_err-part.ensures))

pub returns : goal.returns
returns c = grind (arith, append_assoc)
