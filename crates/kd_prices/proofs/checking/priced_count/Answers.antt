use Rattle.kd_card.specs.Proving.{is_priced_setting}
use Rattle.kd_prices.proofs.Prelude.{priced_count, rules, ◌≡◌}
use Rattle.std.proofs.lemmas.List.Sums.{count_by-le-length}
use Rattle.kd_prices.proofs.checking.priced_count.Goals as goal

pub returns : goal.returns
returns c =
    let value : c.count.result ≡ priced_count c.args.settings.now = search rules in
    record { value = value; few = rw value (count_by-le-length is_priced_setting c.args.settings.now) }
