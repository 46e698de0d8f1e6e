use Rattle.kd_enigma.{proofs.{FilledArrays.each_made, Ways.turned_undone}, specs.Rotor.{offset, rotor}}
use Rattle.kd_tables.{proofs.Wirings.wiring_permutes, specs.{Permutation.{followed_by, inverse}, Tables.wiring_of}}
use Rattle.std.proofs.{Common.{[], arith, rules, ℕ, ◌≡◌}, lemmas.List.FromFn.fill_by_all}
use Rattle.kd_enigma.proofs.rotor.Rotor.new.Goals as goal

pub invariant_of-result : goal.invariant_of-result
invariant_of-result c =
    let wheel = c.args.wheel in
    let board = c.args.board in
    let turns = rotor wheel c.args.ring in
    let back = λ (window : ℕ). turned_undone (offset c.args.ring window) (wiring_of wheel) (omega arith)
    (wiring_permutes wheel) in
    let made = each_made c.from_fn-ways.ensures.items (λ window ways. ways
    ≡ (followed_by board (turns window), followed_by (inverse (turns window)) board))
    (λ window ways q lt called. rw (back window) (search rules)) in
    fill_by_all (λ window. (followed_by board (turns window), followed_by (inverse (turns window)) board))
    c.from_fn-ways.result 26 ([], []) c.from_fn-ways.ensures.items.long (λ window lt. made window ([], []) lt)
