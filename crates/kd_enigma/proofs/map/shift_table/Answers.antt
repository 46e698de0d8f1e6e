use Rattle.{kd_enigma.proofs.FilledArrays.each_made}
use Rattle.{std.proofs.{Common.{rules, ◌%◌, ◌+◌, ◌≡◌}, lemmas.List.FromFn.fill_by_all}}
use Rattle.kd_tables.specs.Permutation.{shift}
use Rattle.kd_enigma.proofs.map.shift_table.Goals as goal

pub returns : goal.returns
unfolding shift
returns c =
    let each = each_made c.from_fn.ensures.items (λ k letter. letter ≡ (k + c.args.by) % 26)
    (λ k letter q lt called. search rules) in
    fill_by_all (λ x. (x + c.args.by) % 26) c.from_fn.result 26 0 c.from_fn.ensures.items.long (λ k lt. each k 0 lt)
