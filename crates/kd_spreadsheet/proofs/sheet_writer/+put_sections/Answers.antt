use Rattle.std.proofs.Common.{◌≡◌, ◌∷◌, ◌-◌, map, take, drop, length, true, arith}
use Rattle.std.proofs.lemmas.Grind.{common_steps}
use Rattle.kd_sheet.specs.SheetText.{day_lines, section_text, sections_text}
use Rattle.kd_spreadsheet.proofs.Writings.{writes_then}
use Rattle.kd_spreadsheet.proofs.sheet_writer.+put_sections.Goals as goal

pub returns-in-Ok-clause-text : goal.returns-in-Ok-clause-text
returns-in-Ok-clause-text g t c =
    let day = c.day-item.result in
    let rest = take (length c.args.days.now - 1) (drop 1 c.args.days.now) in
    let split : c.args.days.now ≡ day ∷ rest = grind (arith, common_steps) in
    let first = rw (c.as_bytes.ensures.value, c.as_str.ensures.value, c.section_of-section.ensures) at c.in-Ok.ensures.text.whole in
    rw split (writes_then _ _ _ (section_text c.args.started (day_lines day)) (sections_text true (map day_lines rest))
    c.put_sections.result first c.put_sections.ensures.text)
