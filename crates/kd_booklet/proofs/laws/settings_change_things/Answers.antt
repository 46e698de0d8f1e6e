use Rattle.kd_booklet.proofs.DayMarks.{day_settings_have_marks}
use Rattle.kd_booklet.proofs.laws.settings_change_things.Goals as goal

pub returns : goal.returns
returns c = day_settings_have_marks
