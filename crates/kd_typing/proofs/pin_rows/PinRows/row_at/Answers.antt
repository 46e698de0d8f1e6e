use Rattle.std.proofs.Common.{ap, arith, map, ◌%◌, ◌+◌, ◌-◌, ◌∙◌, ◌≡◌}
use Rattle.std.proofs.lemmas.List.FromFn.{fill_by_all}
use Rattle.kd_tables.specs.Permutation.{alphabet}
use Rattle.kd_typing.specs.PinTable.{bars_met_in_row, pin_row}
use Rattle.kd_typing.proofs.pin_rows.PinRows.row_at.Goals as goal

pub returns : goal.returns
unfolding pin_row
returns c =
    let met : c.bars_met-met.result ≡ bars_met_in_row c.args.self.now.bars c.args.number = grind arith in
    fill_by_all (λ letter. (25 + c.bars_met-met.result - letter) % 26) c.loop-letter.row 26 0
    c.loop-letter.invariant.size (λ k lt. c.loop-letter.invariant.each k (omega arith))
    ∙ ap (λ n. map (λ letter. (25 + n - letter) % 26) alphabet) met
