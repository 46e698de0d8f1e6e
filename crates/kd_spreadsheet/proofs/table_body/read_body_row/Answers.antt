use Rattle.std.proofs.Common.{◌≡◌, ◌∙◌, sym, inl, inr, true, rules}
use Rattle.std.specs.Result.{is_ok}
use Rattle.csv.specs.Records.{fields_of}
use Rattle.kd_options.specs.TableOptions.{texts_of}
use Rattle.kd_spreadsheet.proofs.BodyRows.{body_blank, body_refused, body_day}
use Rattle.kd_spreadsheet.proofs.table_body.read_body_row.Goals as goal

pub returns-then-is_blank_row : goal.returns-then-is_blank_row
returns-then-is_blank_row c = λ rows are.
    body_blank (texts_of c.args.options.now) c.args.columns.now c.args.refused rows c.args.days.now.items (fields_of c.args.row.now)
    (sym c.is_blank_row.ensures ∙ c.if-is_blank_row.true) are

pub returns-in-None : goal.returns-in-None
returns-in-None c = λ rows are.
    body_refused (texts_of c.args.options.now) c.args.columns.now c.args.refused rows c.args.days.now.items (fields_of c.args.row.now)
    (record { filled = sym c.is_blank_row.ensures ∙ c.if-is_blank_row.false; why = inl c.in-None.ensures }) are

pub returns-then-is_taken : goal.returns-then-is_taken
returns-then-is_taken c = λ rows are.
    let told = rw (c.as_slice.ensures.value, c.day.ensures.value) at c.is_taken.ensures in
    body_refused (texts_of c.args.options.now) c.args.columns.now c.args.refused rows c.args.days.now.items (fields_of c.args.row.now)
    (record {
      filled = sym c.is_blank_row.ensures ∙ c.if-is_blank_row.false;
      why = inr (c.in-Some.day, c.in-Some.ensures, sym told ∙ c.if-is_taken.true);
    }) are

pub returns : goal.returns
returns c = λ rows are.
    let told = rw (c.as_slice.ensures.value, c.day.ensures.value) at c.is_taken.ensures in
    let good : is_ok c.push.result ≡ true = search rules in
    let items = rw good at c.push.ensures.items in
    rw items (body_day (texts_of c.args.options.now) c.args.columns.now c.args.refused rows c.args.days.now.items
    (fields_of c.args.row.now) c.in-Some.day (sym c.is_blank_row.ensures ∙ c.if-is_blank_row.false) c.in-Some.ensures
    (sym told ∙ c.if-is_taken.false) are)
