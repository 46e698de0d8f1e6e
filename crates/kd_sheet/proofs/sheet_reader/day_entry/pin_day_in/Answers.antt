use Rattle.kd_sheet.proofs.ReadBack.Described.{Pin, arith, common_steps, pin_day, pin_day_in}
use Rattle.kd_sheet.proofs.ReadBack.Described.{table_view}
use Rattle.kd_sheet.proofs.sheet_reader.day_entry.pin_day_in.Goals as goal

pub unwrap-requires : goal.unwrap-requires
unfolding pin_day_in
unwrap-requires c =
    let day = pin_day c.args.number (table_view c.args.table.now) c.requires (Pin _) (grind (arith, common_steps)) in
    c.pin.ensures.exists.1 day.0
