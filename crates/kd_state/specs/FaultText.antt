-- The names of the reasons to refuse a setting, and the texts of the faults of settings and lists.
use Rattle.std.specs.Prelude.{codes, decimal, ℕ, List, ◌++◌}
use Rattle.kd_tables.specs.declared.refusal.Refusal.TheVariants as refusals
use Rattle.kd_tables.specs.Refusals.{refusal_name, word_after_space}
use Rattle.kd_state.specs.declared.setting.why.IllegalAt.{IllegalAt}
use Rattle.kd_state.specs.declared.setting.list.ListFault.{ListFault}
use Rattle.kd_state.specs.declared.setting.list.ListFault.TheVariants.{BadLine, TooMany}
use Rattle.kd_state.specs.declared.setting.why.Illegal.{Illegal}
use Rattle.kd_state.specs.declared.setting.why.Why.{Why}
use Rattle.kd_state.specs.declared.setting.why.Why.TheVariants as whys

-- the name of a reason to refuse a setting
abbrev pub why_name : Why → List ℕ
why_name whys.OtherModel = codes "OtherModel"
why_name whys.NoSuchCable = codes "NoSuchCable"
why_name whys.NotThere = codes "NotThere"
why_name whys.NoLooseEnd = codes "NoLooseEnd"
why_name whys.SocketTaken = codes "SocketTaken"
why_name whys.WheelNotAllowed = codes "WheelNotAllowed"
why_name whys.SlotEmpty = codes "SlotEmpty"
why_name whys.NotOnWheel = codes "NotOnWheel"
why_name whys.NoSuchBar = codes "NoSuchBar"
why_name whys.PlaceTaken = codes "PlaceTaken"
why_name whys.WouldPass = codes "WouldPass"

-- the text of `Illegal`: the refusal's number and name, and the name of the reason
abbrev pub illegal_text : Illegal → List ℕ
illegal_text fault = refusal_name refusals.Illegal ++ word_after_space (why_name fault.why)

-- the text of `IllegalAt`: the refusal's number and name, the number of the line, and the name of the reason
abbrev pub illegal_at_text : IllegalAt → List ℕ
illegal_at_text fault = refusal_name refusals.IllegalAt ++ word_after_space (decimal fault.line)
    ++ word_after_space (why_name fault.why)

-- the text of a list's fault: the refusal's number and name, and for `BadLine` the number of the line
abbrev pub list_fault_text : ListFault → List ℕ
list_fault_text (BadLine line) = refusal_name refusals.BadLine ++ word_after_space (decimal line)
list_fault_text TooMany = refusal_name refusals.TooMany
