use Rattle.kd_curator_command.proofs.Prelude.{arith, Some, ap, codes, found_of, rules, sym, ◌∙◌}
use Rattle.kd_curator_command.proofs.CommandLines.{read_none, read_some, other_word}
use Rattle.kd_curator_command.proofs.command.day_asked.Goals as goal

pub returns-in_err-word-clause-none : goal.returns-in_err-word-clause-none
returns-in_err-word-clause-none c = grind (arith, read_none)

pub returns-in_err-day-clause-none : goal.returns-in_err-day-clause-none
returns-in_err-day-clause-none c = grind (arith, other_word, c.day_of_text.ensures)

pub returns-clause-said : goal.returns-clause-said
returns-clause-said c =
    let found = found_of c.args.words.now in (
      read_some found (codes "DAY") c.get_str.result c.in_ok-word.word c.get_str.ensures (search rules)
          ∙ ap Some (sym (c.in_ok-day.ensures.0 ∙ c.as_bytes.ensures.value)),
      c.in_ok-day.ensures.1,
    )
