use Rattle.kd_form.proofs.sending.key_checks.check_part_keys.Goals as goal

pub returns-in-Pin : goal.returns-in-Pin
returns-in-Pin c = rw c.in-Pin.is (rw c.new.ensures at c.check_pin_keys.ensures)
