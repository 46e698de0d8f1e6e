use Rattle.kd_enigma.proofs.{Cables.exchange_is, Cables.pairs_make_a_plugboard, FilledArrays.each_made}
use Rattle.kd_enigma.specs.Cipher.{IsPlugboard}
use Rattle.kd_tables.specs.Permutation.{exchange, exchanged}
use Rattle.std.proofs.Common.{rules, ◌≡◌}
use Rattle.kd_enigma.proofs.plugs.Plugs.from_pairs.Goals.{After-from_fn-table}
use Rattle.kd_enigma.proofs.plugs.Plugs.from_pairs.Goals as goal

made : (c : After-from_fn-table) → c.from_fn-table.result ≡ exchange c.args.pairs.now
made c =
    let each = each_made c.from_fn-table.ensures.items (λ k letter. letter ≡ exchanged c.args.pairs.now k)
    (λ k letter q lt called. search rules) in
    exchange_is c.from_fn-table.result c.args.pairs.now c.from_fn-table.ensures.items.long (λ k lt. each k 0 lt)

is_plugboard : (c : After-from_fn-table) → IsPlugboard c.from_fn-table.result
is_plugboard c =
    let says = c.have_no_letter_twice.ensures in
    let all_differ = c.if-not-have_no_letter_twice.false in
    rw (made c) (pairs_make_a_plugboard c.args.pairs.now (says.once.0 all_differ) (says.letters all_differ))

pub invariant_of-result : goal.invariant_of-result
invariant_of-result = is_plugboard

pub returns-clause-value : goal.returns-clause-value
returns-clause-value = made

pub returns-clause-plugboard : goal.returns-clause-plugboard
returns-clause-plugboard = is_plugboard
