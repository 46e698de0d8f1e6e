use Rattle.std.proofs.Common.{◌≡◌, ◌/◌, ◌%◌, map}
use Rattle.std.specs.List.{range_with_len}
use Rattle.arrayvec.specs.ArrayString.{array_string_len}
use Rattle.kd_typing.specs.RotorTable.{wheels_moved}
use Rattle.kd_typing.specs.TableText.{digits_text}
use Rattle.kd_typing.proofs.rotor_rows.RotorRows.steps_line.Given as goal

abbrev pub invariant-loop-number : goal.invariant-loop-number
invariant-loop-number l = record {
  bytes : l.text.bytes
      ≡ digits_text (map (λ n. wheels_moved l.fn.self.wheels (n / 26) (n % 26)) (range_with_len 0 l.number));
  len : array_string_len l.text ≡ l.number;
}
