use Rattle.kd_curator_command.proofs.Prelude.{ap, codes, false, found_of, refl, rules, rows_of, sym, ◌≡◌, ◌∙◌}
use Rattle.kd_curator_command.specs.CommandLine.{are_blank, option_texts}
use Rattle.kd_curator_command.proofs.CommandLines.{no_month, no_sheet, not_alone, read_none, read_some}
use Rattle.kd_curator_command.proofs.command.sheet_of.Goals as goal

pub returns-in_err-table-clause-none : goal.returns-in_err-table-clause-none
returns-in_err-table-clause-none c =
    let found = found_of c.args.words.now in
    λ _. no_sheet _ (read_none found (codes "TABLE") c.get_str.result c.get_str.ensures c.in_err-table.was)

pub returns-in_default-clause-said : goal.returns-in_default-clause-said
returns-in_default-clause-said c =
    let found = found_of c.args.words.now in
    record {
      name = refl;
      filled = read_none found (codes "empty") c.get_str-2.result c.get_str-2.ensures c.in_default.is;
      table = read_some found (codes "TABLE") c.get_str.result c.in_ok-table.table c.get_str.ensures (search rules);
      options = c.options_of-options.ensures;
    }

pub returns-then-not-are_blank-clause-none : goal.returns-then-not-are_blank-clause-none
returns-then-not-are_blank-clause-none c =
    let found = found_of c.args.words.now in
    let empty = read_some found (codes "empty") c.get_str-2.result c.in-Some.model c.get_str-2.ensures (search rules) in
    let table = read_some found (codes "TABLE") c.get_str.result c.in_ok-table.table c.get_str.ensures (search rules) in
    let other : are_blank (option_texts (rows_of found)) ≡ false =
    ap are_blank (sym c.options_of-options.ensures) ∙ sym c.are_blank.ensures ∙ c.if-not-are_blank.true in
    λ _. not_alone _ _ _ empty table other

pub returns-in_err-model-clause-none : goal.returns-in_err-model-clause-none
returns-in_err-model-clause-none c =
    let found = found_of c.args.words.now in
    let empty = read_some found (codes "empty") c.get_str-2.result c.in-Some.model c.get_str-2.ensures (search rules) in
    let table = read_some found (codes "TABLE") c.get_str.result c.in_ok-table.table c.get_str.ensures (search rules) in
    λ _. no_month _ _ _ empty table (c.in_err-model.ensures.none refl)

pub returns-clause-said : goal.returns-clause-said
returns-clause-said c =
    let found = found_of c.args.words.now in
    record {
      name = refl;
      model_word = c.in-Some.model.now;
      empty = read_some found (codes "empty") c.get_str-2.result c.in-Some.model c.get_str-2.ensures (search rules);
      days_word = c.in_ok-table.table.now;
      table = read_some found (codes "TABLE") c.get_str.result c.in_ok-table.table c.get_str.ensures (search rules);
      month = c.in_ok-model.ensures.said;
      alone = ap are_blank (sym c.options_of-options.ensures) ∙ sym c.are_blank.ensures ∙ c.if-not-are_blank.false;
    }
