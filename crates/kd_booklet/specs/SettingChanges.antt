-- Each setting of a day's list makes a change that lasts to the end of the list. For example, a ring gets another
-- letter.
use Rattle.std.specs.Prelude.{◌≡◌, ◌≢◌, ℕ, true, false, All, Option, Some, option_map}
use Rattle.kd_tables.specs.declared.lug.Lug.{Lug}
use Rattle.kd_tables.specs.declared.lug.Lug.TheVariants.{Left, Right}
use Rattle.kd_tables.specs.declared.place.Place.{Place}
use Rattle.kd_tables.specs.declared.wheel.Wheel.{Wheel}
use Rattle.kd_state.specs.declared.machine.parts.Parts.{Parts}
use Rattle.kd_state.specs.declared.machine.parts.Parts.TheVariants.{Pin, Rotor}
use Rattle.kd_state.specs.declared.setting.Setting.{Setting}
use Rattle.kd_state.specs.declared.setting.Setting.TheVariants.{Pull, Put, Seat, SeatReflector, RingTo, Turn, PinTo}
use Rattle.kd_state.specs.declared.setting.Setting.TheVariants.{LugTo}
use Rattle.kd_state.specs.Machine.{IsMachine, machine_letter, machine_pin, machine_pin_letter, machine_reflector}
use Rattle.kd_state.specs.Machine.{machine_ring, machine_standing}
use Rattle.kd_state.specs.SheetDay.{Day, IsLegalDay}
use Rattle.kd_pictures.specs.Board.{has_plug}
use Rattle.kd_pictures.specs.Wheels.{is_seated}
use Rattle.kd_booklet.specs.DayPlan.{IsDayPlan}
use Rattle.kd_booklet.specs.declared.day_plan.DayPlan.{DayPlan}

-- the place of a bar's left or right lug; `None` if the machine has no such bar
abbrev pub lug_at : Parts → ℕ → Lug → Option Place
lug_at m bar Left = option_map (λ standing. standing.0) (machine_standing m bar)
lug_at m bar Right = option_map (λ standing. standing.1) (machine_standing m bar)

-- A value, such as the letter of a ring, is `before` at first, and `after` at the end of a list of settings. A setting
-- asks for the value `due`: only `after` equals it.
abbrev pub Becomes : {A : Type 0} → A → A → A → Type 0
Becomes before after due = (before ≢ due) × (after ≡ due)

-- On machine `n`, the wheel in slot `number`, or pin wheel `number`, is turned to the letter `letter`. On machine `m`,
-- this wheel isn't turned to this letter.
abbrev pub WindowTurns : Parts → Parts → ℕ → ℕ → Type 0
WindowTurns (Rotor m) n number letter =
    (wheel : Wheel) → is_seated n number wheel ≡ true
    → Becomes (machine_letter (Rotor m) wheel) (machine_letter n wheel) (Some letter)
WindowTurns (Pin m) n number letter =
    Becomes (machine_pin_letter (Pin m) number) (machine_pin_letter n number) (Some letter)

-- Machine `m` isn't as the setting says, and machine `n` is. For example, a wheel's ring is at the setting's letter on
-- `n`, but not on `m`. A page marks this difference between `m` and `n`, unless the setting turns a Converter's wheel.
abbrev pub Changes : Parts → Parts → Setting → Type 0
Changes m n (RingTo wheel letter) = Becomes (machine_ring m wheel) (machine_ring n wheel) (Some letter)
Changes m n (SeatReflector reflector) = Becomes (machine_reflector m) (machine_reflector n) (Some reflector)
Changes m n (Seat slot wheel) = Becomes (is_seated m slot wheel) (is_seated n slot wheel) true
Changes m n (Pull cable letter) = Becomes (has_plug m cable letter) (has_plug n cable letter) false
Changes m n (Put cable letter) = Becomes (has_plug m cable letter) (has_plug n cable letter) true
Changes m n (PinTo wheel letter effective) =
    Becomes (machine_pin m wheel letter) (machine_pin n wheel letter) (Some effective)
Changes m n (LugTo bar lug place) = Becomes (lug_at m bar lug) (lug_at n bar lug) (Some place)
Changes m n (Turn number letter) = WindowTurns m n number letter

-- Each setting of a day's list makes a change that lasts to the end of the list. In other lists, a setting may make no
-- lasting change: for example, the first of two turns of one wheel.
abbrev pub DaySettingsChangeThings : Type 0
DaySettingsChangeThings =
    (m n : Parts) (s : Day) (plan : DayPlan) → IsMachine m → IsLegalDay s → IsDayPlan m s plan n
    → All (Changes m n) plan.settings.items
