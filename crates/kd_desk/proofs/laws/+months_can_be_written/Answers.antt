use Rattle.kd_desk.proofs.{Months.days_on, Months.papers_on, Prelude.arith, Prelude.subst, Prelude.sym}
use Rattle.{kd_desk.specs.Month.CanWriteDays, kd_state.specs.Machine.model_of}
use Rattle.kd_desk.proofs.laws.+months_can_be_written.Goals as goal

pub months_can_be_written-requires : goal.months_can_be_written-requires
months_can_be_written-requires t c = (
  omega (arith, c.decreases, c.in-Some.ensures.cases.1),
  days_on (model_of c.args.machine.now) (model_of c.machine_after_card.result) c.args.sheet.now c.in-Some.number.now
      c.in-Some.rest.now c.args.numbers.now c.in-Some.ensures.cases.0 c.machine_after_card.ensures.model c.requires,
)

pub returns-in-Some : goal.returns-in-Some
returns-in-Some t c =
    let number = rw c.unwrap-day.ensures at c.day.ensures.number in
    let of_month = rw c.unwrap-day.ensures at c.day.ensures.value in
    subst (CanWriteDays c.args.machine.now c.args.sheet.now) (sym c.in-Some.ensures.cases.0)
    (papers_on c.args.machine.now c.machine_after_card.result c.unwrap-day.result.now c.args.sheet.now
    c.in-Some.number.now
    c.in-Some.rest.now number (sym of_month) c.machine_after_card.ensures.written c.months_can_be_written.ensures)
