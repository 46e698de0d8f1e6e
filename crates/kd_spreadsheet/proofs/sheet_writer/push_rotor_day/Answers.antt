use Rattle.std.proofs.Common.{◌++◌}
use Rattle.kd_state.specs.Entry.{rotor_values}
use Rattle.kd_sheet.specs.SheetText.{day_head_lines, wheels_lines, plugs_lines}
use Rattle.kd_spreadsheet.proofs.DayLines.{lines_joined}
use Rattle.kd_spreadsheet.proofs.sheet_writer.push_rotor_day.Goals as goal

pub returns : goal.returns
returns c =
    let s = rotor_values c.args.entry.now in
    let head = day_head_lines s.day s.model in
    lines_joined _ _ _ (head ++ wheels_lines s) (plugs_lines s)
    (lines_joined _ _ _ head (wheels_lines s) c.push_day_head.ensures.bytes c.push_wheels_lines.ensures.bytes)
    c.push_plugs_lines.ensures
