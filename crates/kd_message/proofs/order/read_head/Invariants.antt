use Rattle.std.proofs.Common.{take}
use Rattle.kd_form.specs.OrderSteps.{IsHeadBegun}
use Rattle.kd_message.proofs.order.read_head.Given as goal

abbrev pub invariant-loop-index : goal.invariant-loop-index
invariant-loop-index l = IsHeadBegun l.day l.reader.keys.items l.reader.line.items (take l.index l.order)
