use Rattle.kd_curator_command.proofs.Prelude.{◌≡◌, ◌∙◌, ◌∷◌, [], ℕ, Bor, List, Some, None, ap, arith, codes, found_of, length, option_map, refl}
use Rattle.kd_curator_command.proofs.Prelude.{rows_of, rules, same_Some, subst, sym}
use Rattle.std.proofs.lemmas.List.{length-map}
use Rattle.clap.specs.Words.{all_of}
use Rattle.kd_tables.specs.Direction.{direction_name}
use Rattle.kd_curator_command.specs.CommandLine.{HasMessage, unborrowed_names}
use Rattle.kd_curator_command.proofs.CommandLines.{missing, only_sent, outside, read_all, read_none, read_some}
use Rattle.kd_curator_command.proofs.command.send_of.Goals as goal

pub returns-in_err-machine-clause-none : goal.returns-in_err-machine-clause-none
returns-in_err-machine-clause-none c =
    let found = found_of c.args.words.now in
    let none = read_none found (codes "MACHINE") c.get_str.result c.get_str.ensures c.in_err-machine.was in
    λ _ command of. let is = only_sent (rows_of found) command of in
    missing (rows_of found) (codes "MACHINE") is.its_machine none is.machine

pub returns-in_err-sheet-clause-none : goal.returns-in_err-sheet-clause-none
returns-in_err-sheet-clause-none c =
    let found = found_of c.args.words.now in
    let none = read_none found (codes "SHEET") c.get_str-2.result c.get_str-2.ensures c.in_err-sheet.was in
    λ _ command of. let is = only_sent (rows_of found) command of in
    missing (rows_of found) (codes "SHEET") is.its_sheet none is.sheet

pub returns-in_err-orders-clause-none : goal.returns-in_err-orders-clause-none
returns-in_err-orders-clause-none c =
    let found = found_of c.args.words.now in
    let none : all_of (codes "ORDER") (rows_of found) ≡ None =
    read_all found (codes "ORDER") c.get_strs.result c.get_strs.ensures
    ∙ ap (option_map (λ s. unborrowed_names s.now)) c.in_err-orders.was in
    λ _ command of. let is = only_sent (rows_of found) command of in
    let wrong : None ≡ Some is.its_orders = sym none ∙ is.orders in cc

pub returns-in_err-task-clause-none : goal.returns-in_err-task-clause-none
returns-in_err-task-clause-none c =
    let found = found_of c.args.words.now in
    λ _ command of. let is = only_sent (rows_of found) command of in
    c.in_err-task.ensures.none refl is.its_task is.task

pub returns-in_err-several-in-None-clause-none : goal.returns-in_err-several-in-None-clause-none
returns-in_err-several-in-None-clause-none c =
    let found = found_of c.args.words.now in
    let names = c.in_ok-orders.orders.now in
    let given : c.get_strs.result ≡ Some c.in_ok-orders.orders = search rules in
    let all : all_of (codes "ORDER") (rows_of found) ≡ Some (unborrowed_names names) =
    read_all found (codes "ORDER") c.get_strs.result c.get_strs.ensures
    ∙ ap (option_map (λ s. unborrowed_names s.now)) given in
    λ _ command of. let is = only_sent (rows_of found) command of in
    let same : length (unborrowed_names names) ≡ length is.its_orders = ap length (same_Some _ _ (sym all ∙ is.orders)) in
    let as_many : length (unborrowed_names names) ≡ length names = length-map names (λ (n : Bor (List ℕ)). n.now) in
    outside (length names) (omega (arith, same, as_many, is.some)) (omega (arith, same, as_many, is.few))
    (c.in-None.ensures.none refl) (c.in_err-several-in-None.ensures.none refl)

pub returns-in-Some-clause-said : goal.returns-in-Some-clause-said
returns-in-Some-clause-said c =
    let found = found_of c.args.words.now in
    let task = c.in_ok-task.ensures.said in
    let given : c.get_strs.result ≡ Some c.in_ok-orders.orders = search rules in
    let one : all_of (codes "ORDER") (rows_of found) ≡ Some (c.in-Some.message.now ∷ []) =
    read_all found (codes "ORDER") c.get_strs.result c.get_strs.ensures
    ∙ ap (option_map (λ s. unborrowed_names s.now)) given ∙ ap Some c.in-Some.ensures.said in
    record {
      name = sym (ap direction_name task.same);
      machine =
          read_some found (codes "MACHINE") c.get_str.result c.in_ok-machine.machine c.get_str.ensures (search rules);
      sheet = read_some found (codes "SHEET") c.get_str-2.result c.in_ok-sheet.sheet c.get_str-2.ensures (search rules);
      message = subst (λ d. HasMessage (rows_of found) d c.in-Some.message.now) (sym task.same) one;
      day = task.day;
      results = task.results;
    }

pub returns-in_ok-several-in-None-clause-said : goal.returns-in_ok-several-in-None-clause-said
returns-in_ok-several-in-None-clause-said c =
    let found = found_of c.args.words.now in
    let several = c.in_ok-several-in-None in
    let listed = several.several.items in
    let given : c.get_strs.result ≡ Some c.in_ok-orders.orders = search rules in
    let as_many : length (unborrowed_names listed) ≡ length listed = length-map listed (λ (n : Bor (List ℕ)). n.now) in
    record {
      name = refl;
      machine =
          read_some found (codes "MACHINE") c.get_str.result c.in_ok-machine.machine c.get_str.ensures (search rules);
      sheet = read_some found (codes "SHEET") c.get_str-2.result c.in_ok-sheet.sheet c.get_str-2.ensures (search rules);
      orders = read_all found (codes "ORDER") c.get_strs.result c.get_strs.ensures
          ∙ ap (option_map (λ s. unborrowed_names s.now)) given
          ∙ ap (λ names. Some (unborrowed_names names)) (sym several.ensures.said);
      several = omega (arith, as_many, ap length several.ensures.said, several.ensures.many);
      few = omega (arith, as_many, ap length several.ensures.said, several.ensures.few);
      task = c.in_ok-task.ensures.said;
    }
