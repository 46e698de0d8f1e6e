use Rattle.std.proofs.Common.{length, map, ◌%◌, ◌+◌, ◌≡◌}
use Rattle.std.specs.List.{range_with_len}
use Rattle.arrayvec.specs.ArrayString.{array_string_len}
use Rattle.kd_pins.specs.PinWheel.{is_effective}
use Rattle.kd_typing.specs.TableText.{pins_text}
use Rattle.kd_typing.proofs.pin_text.acting_text.Given as goal

abbrev pub invariant-loop-place : goal.invariant-loop-place
invariant-loop-place l = record {
  bytes : l.text.bytes
      ≡ pins_text (map (λ place. is_effective l.pins ((place + l.offset) % length l.pins)) (range_with_len 0 l.place));
  len : array_string_len l.text ≡ l.place;
}
