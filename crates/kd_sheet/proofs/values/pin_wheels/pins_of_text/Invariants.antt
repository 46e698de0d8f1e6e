use Rattle.{kd_sheet.specs.PinWheels.pins_of_text, std.proofs.Common.{Some, take, ◌≡◌}}
use Rattle.kd_sheet.proofs.values.pin_wheels.pins_of_text.Given as goal

-- `pins` are the pins of the bytes so far
abbrev pub invariant-loop-byte : goal.invariant-loop-byte
invariant-loop-byte g l = pins_of_text l.letters (take l.byte-index l.text) ≡ Some l.pins
