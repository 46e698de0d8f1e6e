use Rattle.std.proofs.Common.{take}
use Rattle.std.specs.String.{string_bytes}
use Rattle.kd_findings.specs.Texts.{AppendsText, ArePieces}
use Rattle.kd_findings.specs.Unread.{unread_of}
use Rattle.kd_findings.specs.Warnings.{TellsUnread}
use Rattle.kd_findings.proofs.warnings.push_all_unread.Given as goal

-- the warnings of the keys so far are appended
abbrev pub invariant-loop-key : goal.invariant-loop-key
invariant-loop-key l = AppendsText
    (ArePieces (TellsUnread l.wording.language l.name) (unread_of (take l.key-index l.keys)))
    (string_bytes l.initial.text) (string_bytes l.text)
