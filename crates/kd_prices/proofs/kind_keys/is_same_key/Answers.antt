use Rattle.kd_prices.proofs.Taking.{eq_decides}
use Rattle.kd_prices.proofs.kind_keys.is_same_key.Goals as goal

pub returns : goal.returns
returns g c =
    rw (c.is_eq.ensures, c.compare.ensures)
    (eq_decides g.K.Kind.format g.met.K.Kind.told_apart c.args.one.now c.args.other.now)
