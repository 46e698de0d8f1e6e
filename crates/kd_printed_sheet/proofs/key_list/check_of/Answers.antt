use Rattle.kd_printed_sheet.proofs.Checks.{check_is}
use Rattle.kd_printed_sheet.proofs.key_list.check_of.Goals as goal

pub returns : goal.returns
returns c = check_is _ _ _ _ c.turn_to.result _ c.requires c.own_engine-engine.ensures c.turn_to.ensures.window
    c.turn_to.ensures.turned c.run.ensures.cipher
