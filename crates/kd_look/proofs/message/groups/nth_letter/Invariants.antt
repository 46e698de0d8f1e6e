use Rattle.std.proofs.Common.{◌≡◌, ◌≤◌, length, take}
use Rattle.kd_look.specs.Groups.{letters_of}
use Rattle.kd_look.proofs.message.groups.nth_letter.Given as goal

-- the letters so far are counted, and the wanted letter isn't among them
abbrev pub invariant-loop-byte : goal.invariant-loop-byte
invariant-loop-byte l = record {
  counted : l.passed ≡ length (letters_of (take l.byte-index l.text));
  later : l.passed ≤ l.number;
}
