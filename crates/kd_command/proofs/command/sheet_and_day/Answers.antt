use Rattle.kd_command.proofs.Prelude.{arith, Some, ap, codes, found_of, rules, sym, ◌∙◌}
use Rattle.kd_command.proofs.CommandLines.{read_none, read_some, other_word}
use Rattle.kd_command.proofs.command.sheet_and_day.Goals as goal

pub returns-in_err-sheet-clause-none : goal.returns-in_err-sheet-clause-none
returns-in_err-sheet-clause-none c = grind (arith, read_none)

pub returns-in_err-get_str-clause-none : goal.returns-in_err-get_str-clause-none
returns-in_err-get_str-clause-none c = grind (arith, read_none)

pub returns-in_err-day-clause-none : goal.returns-in_err-day-clause-none
returns-in_err-day-clause-none c = grind (arith, other_word, c.day_of_text.ensures)

pub returns-clause-said : goal.returns-clause-said
returns-clause-said c =
    let found = found_of c.args.words.now in
    record {
      sheet_word =
          read_some found (codes "SHEET") c.get_str.result c.in_ok-sheet.sheet c.get_str.ensures (search rules);
      day_word =
          read_some found (codes "DAY") c.get_str-2.result c.in_ok-get_str.field-0 c.get_str-2.ensures (search rules)
          ∙ ap Some (sym (c.in_ok-day.ensures.0 ∙ c.as_bytes.ensures.value));
      of_month = c.in_ok-day.ensures.1;
    }
