use Rattle.kd_curator.proofs.Runs.{not_device, only_device}
use Rattle.kd_curator.proofs.program.carry_out.Goals as goal

pub returns-in-Sheet-clause-does : goal.returns-in-Sheet-clause-does
returns-in-Sheet-clause-does g c = rw c.in-Sheet.is (rw c.text_at-in-Sheet.ensures at c.make_sheet.ensures.sheet)

pub returns-in-Sheet-clause-noted : goal.returns-in-Sheet-clause-noted
returns-in-Sheet-clause-noted g c = rw c.in-Sheet.is (rw c.text_at-in-Sheet.ensures at c.make_sheet.ensures.noted)

pub returns-in-Sheet-clause-untouched : goal.returns-in-Sheet-clause-untouched
returns-in-Sheet-clause-untouched g c = not_device _ c.make_sheet.ensures.untouched

pub returns-in-OnMachine-clause-untouched : goal.returns-in-OnMachine-clause-untouched
returns-in-OnMachine-clause-untouched g c = not_device _ c.do_task.ensures.untouched

pub returns-in-Orders-clause-untouched : goal.returns-in-Orders-clause-untouched
returns-in-Orders-clause-untouched g c = not_device _ c.send_orders.ensures.untouched

pub returns-in-TypingPage-clause-untouched : goal.returns-in-TypingPage-clause-untouched
returns-in-TypingPage-clause-untouched g c = not_device _ c.run_type.ensures.untouched

pub returns-in-Table-clause-untouched : goal.returns-in-Table-clause-untouched
returns-in-Table-clause-untouched g c = not_device _ c.run_table.ensures.untouched

pub returns-in-EmptySheet-clause-untouched : goal.returns-in-EmptySheet-clause-untouched
returns-in-EmptySheet-clause-untouched g c = only_device _ c.write_empty_sheet.ensures.written.device
