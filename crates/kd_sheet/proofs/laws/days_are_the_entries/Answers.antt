use Rattle.kd_sheet.proofs.ReadBack.{[], days_are_the_entries, IsDayFor-day_for, legal_is_described}
use Rattle.kd_sheet.proofs.laws.days_are_the_entries.Goals as goal

pub returns : goal.returns
returns c = record {
  legal = λ day. (legal_is_described day, λ entry. (IsDayFor-day_for [] entry.0 day entry.1).legal);
  sheet = days_are_the_entries;
}
