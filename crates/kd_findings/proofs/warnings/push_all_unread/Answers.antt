use Rattle.std.proofs.Common.{◌≡◌, ℕ, ◌+◌, ◌<◌, ◌++◌, ◌∷◌, [], List, take, get_or, length, arith}
use Rattle.std.proofs.lemmas.List.{map-append, take_more}
use Rattle.std.specs.String.{string_bytes}
use Rattle.kd_language.specs.declared.language.Language.{Language}
use Rattle.kd_findings.specs.Texts.{AppendsText, ArePieces}
use Rattle.kd_findings.specs.Unread.{unread_key, unread_of}
use Rattle.kd_findings.specs.Warnings.{TellsUnread}
use Rattle.kd_findings.specs.declared.unread.Unread.{Unread}
use Rattle.kd_findings.proofs.Appending.{AppendsText-more, AppendsText-none}
use Rattle.kd_findings.proofs.warnings.push_all_unread.Goals as goal

-- the warning of one more key is appended
one_more : (l : Language) (name : List ℕ) (keys : List Unread) (index : ℕ) (key : Unread) (old middle new : List ℕ)
    → index < length keys
    → AppendsText (ArePieces (TellsUnread l name) (unread_of (take index keys))) old middle
    → AppendsText (TellsUnread l name (unread_key (get_or keys index key))) middle new
    → AppendsText (ArePieces (TellsUnread l name) (unread_of (take (index + 1) keys))) old new
one_more l name keys index key old middle new within before more =
    let longer : unread_of (take (index + 1) keys) ≡ unread_of (take index keys) ++ unread_key (get_or keys index key) ∷ [] =
    grind (arith, map-append, take_more keys index key within) in
    rw longer (AppendsText-more (TellsUnread l name) (unread_of (take index keys)) (unread_key (get_or keys index key))
    old middle new before more)

pub loop-key-init : goal.loop-key-init
loop-key-init c = AppendsText-none (TellsUnread c.args.wording.language c.args.name.now) (string_bytes c.args.text.now)

pub loop-key-preserved : goal.loop-key-preserved
loop-key-preserved c = one_more c.args.wording.language c.args.name.now c.args.keys.now c.loop-key.key-index _
    (string_bytes c.args.text.now) (string_bytes c.loop-key.text) (string_bytes c.push_unread.new.text)
    c.loop-key-test.true c.loop-key.invariant c.in_ok-push_unread.ensures
