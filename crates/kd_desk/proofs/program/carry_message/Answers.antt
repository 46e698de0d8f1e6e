use Rattle.kd_desk.proofs.program.carry_message.Goals as goal

pub returns-in-Send-clause-does : goal.returns-in-Send-clause-does
returns-in-Send-clause-does g c = rw c.in-Send.is c.run_send.ensures.sends

pub returns-in-Receive-clause-does : goal.returns-in-Receive-clause-does
returns-in-Receive-clause-does g c = rw c.in-Receive.is c.run_receive.ensures.receives
