use Rattle.std.proofs.Common.{◌+◌, ◌-◌, map, true, arith}
use Rattle.std.specs.List.{range_with_len}
use Rattle.kd_sheet.specs.SheetText.{section_text, sections_text}
use Rattle.kd_spreadsheet.specs.EmptySheet.{empty_day_lines}
use Rattle.kd_spreadsheet.proofs.EmptyMonths.{range_with_len-first}
use Rattle.kd_spreadsheet.proofs.Writings.{writes_then, writes_front}
use Rattle.kd_spreadsheet.proofs.empty_month.+put_empty.Goals as goal

pub returns-in-Ok-clause-text : goal.returns-in-Ok-clause-text
returns-in-Ok-clause-text g t c =
    let split = range_with_len-first c.args.number c.args.count (omega arith) in
    let rest = range_with_len (c.args.number + 1) (c.args.count - 1) in
    let first = rw (c.as_bytes.ensures.value, c.as_str.ensures.value, c.empty_section-section.ensures) at c.in-Ok.ensures.text.whole in
    rw split (writes_then _ _ _ (section_text c.args.started (empty_day_lines c.args.model c.args.number))
    (sections_text true (map (empty_day_lines c.args.model) rest)) c.put_empty.result first c.put_empty.ensures.text)

pub returns-in-Err-clause-text : goal.returns-in-Err-clause-text
returns-in-Err-clause-text g t c =
    let split = range_with_len-first c.args.number c.args.count (omega arith) in
    let rest = range_with_len (c.args.number + 1) (c.args.count - 1) in
    let front = rw (c.as_bytes.ensures.value, c.as_str.ensures.value, c.empty_section-section.ensures) at c.in-Err.ensures.text.front in
    rw split (writes_front _ _ (section_text c.args.started (empty_day_lines c.args.model c.args.number))
    (sections_text true (map (empty_day_lines c.args.model) rest)) _ front)
