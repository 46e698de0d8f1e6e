-- Five, eight or ten values, one for each wheel of a box.
-- Code: `PerWheel` has an array of five, eight or ten values.
use Rattle.std.specs.Prelude.{◌≡◌, ◌==◌, List, length, if◌then◌else◌}
use Rattle.kd_state.specs.declared.machine.per_wheel.Wheels.{Wheels}
use Rattle.kd_state.specs.declared.machine.per_wheel.Wheels.TheVariants.{Five, Eight, Ten}

-- the values of all wheels of a model, in box order
abbrev pub wheel_values : {T : Type 0} → Wheels T → List T
wheel_values (Five values) = values
wheel_values (Eight values) = values
wheel_values (Ten values) = values

-- `Five` has five values, `Eight` has eight, and `Ten` has ten.
abbrev pub HasWheelCount : {T : Type 0} → Wheels T → Type 0
HasWheelCount (Five values) = length values ≡ 5
HasWheelCount (Eight values) = length values ≡ 8
HasWheelCount (Ten values) = length values ≡ 10

-- the values as `Five` if there are five, as `Eight` if there are eight, otherwise as `Ten`
abbrev pub wheels_of_values : {T : Type 0} → List T → Wheels T
wheels_of_values values =
    if length values == 5 then Five values else (if length values == 8 then Eight values else Ten values)
