use Rattle.{arrayvec.specs.ArrayString.array_string_len, kd_card.specs.Kinds.kinds_text}
use Rattle.std.proofs.Common.{◌≡◌, ◌+◌, ◌*◌, ◌≤◌, ◌++◌, take}
use Rattle.kd_card.proofs.kind_text.push_kinds.Given as goal

abbrev pub invariant-loop-kind : goal.invariant-loop-kind
invariant-loop-kind g l = record {
  bytes : l.text.bytes ≡ l.fn.text.bytes ++ kinds_text g.K.Kind.format (take l.kind-index l.kinds);
  len : array_string_len l.text ≤ array_string_len l.fn.text + 26 * l.kind-index;
}
