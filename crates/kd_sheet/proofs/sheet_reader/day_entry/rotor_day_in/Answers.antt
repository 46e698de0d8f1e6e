use Rattle.kd_sheet.proofs.ReadBack.Described.{Rotor, arith, common_steps, rotor_day, rotor_day_in}
use Rattle.kd_sheet.proofs.ReadBack.Described.{table_view}
use Rattle.kd_sheet.proofs.sheet_reader.day_entry.rotor_day_in.Goals as goal

pub unwrap-requires : goal.unwrap-requires
unfolding rotor_day_in
unwrap-requires c =
    let table = table_view c.args.table.now in
    let day = rotor_day c.args.number c.args.model table c.requires.day (Rotor _) (grind (arith, common_steps)) in
    c.rotor-day.ensures.exists.1 day.0
