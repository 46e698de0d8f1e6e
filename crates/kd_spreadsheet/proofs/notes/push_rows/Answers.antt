use Rattle.std.proofs.Common.{◌≡◌, ◌∙◌, ◌+◌, ◌++◌, ◌∷◌, [], false, drop, length, map, take, refl, sym, subst, ap, arith}
use Rattle.std.specs.Prelude.{IfSome, flat_map, slice_get}
use Rattle.std.proofs.lemmas.List.{append-nil, length-map, length-take-le, map-append, take_all, take_more}
use Rattle.std.proofs.lemmas.Result.{IfOk-weaker}
use Rattle.csv.specs.Records.{fields_of}
use Rattle.kd_spreadsheet.specs.Notes.{NoneTold, line_at}
use Rattle.kd_spreadsheet.specs.Row.{is_blank_row}
use Rattle.kd_spreadsheet.specs.RowNumbers.{AtStart, numbers_from, row_numbers}
use Rattle.kd_spreadsheet.proofs.CountedRows.{next_due, under_first}
use Rattle.kd_spreadsheet.proofs.Noting.{all_more, two_parts}
use Rattle.kd_spreadsheet.proofs.notes.push_rows.Goals as goal

pub loop-row-init : goal.loop-row-init
loop-row-init c = (
  [],
  sym (append-nil c.args.note.now.items),
  record { told = NoneTold; days = c.new-found.ensures c.args.head.now.columns _ },
  refl,
  c.next_row.ensures.counted,
  under_first (row_numbers c.args.table.now) _ _ _
      (c.new-numbers.ensures.left
      ∙ λ i. numbers_from (c.separator_of.ensures i) (AtStart false) 1 (c.strip_bom.ensures i)) c.next_row.ensures.next,
)

pub loop-row-preserved : goal.loop-row-preserved
loop-row-preserved c =
    let (text, appended, read, blank, counted, left) = c.loop-row.invariant in
    let index = c.loop-row.row-index in
    let row = c.row-item.result in
    let before = map fields_of (take index c.args.rows.now) in
    let now : map fields_of (take (index + 1) c.args.rows.now) ≡ before ++ fields_of row ∷ [] =
    ap (map fields_of) (take_more c.args.rows.now index row c.loop-row-test.true)
    ∙ map-append fields_of (take index c.args.rows.now) _ ∙ ap (λ read. before ++ fields_of read ∷ []) (sym c.row-item.is) in
    let more = c.in_ok-push_body_row.ensures in
    let numbers = row_numbers c.args.table.now in
    let (due, after) = next_due numbers index c.next_row-number.result _ _ left c.next_row-number.ensures.next in
    let size : length before ≡ index =
    length-map (take index c.args.rows.now) fields_of
    ∙ length-take-le index c.args.rows.now (omega (arith, c.loop-row-test.true)) in
    let all = all_more (is_blank_row c.args.head.now.columns) before (fields_of row) in
    rw now (
      text ++ more.0,
      two_parts _ _ _ text more.0 appended more.1,
      more.2 (drop 1 numbers) before text (subst (λ n. IfSome (slice_get (drop 1 numbers) n)
          (λ told. c.next_row-number.result ≡ told)) (sym size) due) read,
      c.is_still_blank-blank.ensures ∙ rw blank (sym all),
      c.next_row-number.ensures.counted,
      after,
    )

pub returns : goal.returns
returns c =
    let (text, appended, read, blank, counted, left) = c.loop-row.invariant in
    let all = take_all c.loop-row.row-index c.args.rows.now (omega (arith, c.loop-row-test.false)) in
    let read_all = rw all at read in
    IfOk-weaker c.push_due_words.result _ _ (λ done last. record {
      text = text;
      words = last.0;
      appended = two_parts _ _ _ text (flat_map (line_at []) last.0) appended last.1;
      told = read_all.told;
      empty = λ is. last.2 (blank ∙ rw all is);
    })
    c.push_due_words.ensures
