-- If a page marks a part of the machine as changed, a setting of the page sets this part. A part is, for example, a
-- ring or a plug. A Converter's page also has marks for pins and lugs that stay. The laws in this file leave out the
-- windows of an Enigma.
use Rattle.std.specs.Prelude.{◌≡◌, ℕ, nat_eq, Bool, true, false, ◌&&◌, List}
use Rattle.std.specs.List.{list_any}
use Rattle.kd_tables.specs.declared.wheel.Wheel.{Wheel}
use Rattle.kd_state.specs.declared.machine.parts.Parts.{Parts}
use Rattle.kd_state.specs.declared.setting.Setting.{Setting}
use Rattle.kd_state.specs.declared.setting.Setting.TheVariants as settings
use Rattle.kd_state.specs.Machine.{machine_pin, machine_pin_letter, machine_reflector, machine_ring, machine_standing}
use Rattle.kd_state.specs.SameParts.{same_wheel}
use Rattle.kd_state.specs.Setting.{Leads}
use Rattle.kd_pictures.specs.Board.{has_plug}
use Rattle.kd_pictures.specs.Wheels.{is_seated}

-- ---- Whether a setting sets a ring, a pin, or another part of the machine.

abbrev pub sets_ring : Wheel → Setting → Bool
sets_ring wheel (settings.RingTo other letter) = same_wheel wheel other
sets_ring wheel _ = false

abbrev pub sets_reflector : Setting → Bool
sets_reflector (settings.SeatReflector reflector) = true
sets_reflector _ = false

abbrev pub puts_wheel : ℕ → Wheel → Setting → Bool
puts_wheel slot wheel (settings.Seat other seated) = nat_eq slot other && same_wheel wheel seated
puts_wheel slot wheel _ = false

abbrev pub sets_pin : ℕ → ℕ → Setting → Bool
sets_pin wheel letter (settings.PinTo other at effective) = nat_eq wheel other && nat_eq letter at
sets_pin wheel letter _ = false

abbrev pub moves_lug : ℕ → Setting → Bool
moves_lug bar (settings.LugTo other lug place) = nat_eq bar other
moves_lug bar _ = false

abbrev pub puts_plug : ℕ → ℕ → Setting → Bool
puts_plug cable letter (settings.Put other at) = nat_eq cable other && nat_eq letter at
puts_plug cable letter _ = false

abbrev pub pulls_plug : ℕ → ℕ → Setting → Bool
pulls_plug cable letter (settings.Pull other at) = nat_eq cable other && nat_eq letter at
pulls_plug cable letter _ = false

abbrev pub turns_pin_wheel : ℕ → Setting → Bool
turns_pin_wheel wheel (settings.Turn other letter) = nat_eq wheel other
turns_pin_wheel wheel _ = false

-- ---- The laws.

-- `m` is the machine before the settings `list`, and `n` is the machine after them. A part that no setting of `list`
-- sets is the same on both machines, so a page doesn't mark it as changed. A slot gets a new wheel only if `list` puts
-- this wheel into the slot.
pub record MarksHaveSettings (m n : Parts) (list : List Setting) : Type 0 where
  pub rings : (wheel : Wheel) → list_any (sets_ring wheel) list ≡ false → machine_ring n wheel ≡ machine_ring m wheel
  pub reflector : list_any sets_reflector list ≡ false → machine_reflector n ≡ machine_reflector m
  pub wheels : (slot : ℕ) (wheel : Wheel) → list_any (puts_wheel slot wheel) list ≡ false
      → is_seated m slot wheel ≡ false → is_seated n slot wheel ≡ false
  pub pins : (wheel letter : ℕ) → list_any (sets_pin wheel letter) list ≡ false
      → machine_pin n wheel letter ≡ machine_pin m wheel letter
  pub bars : (bar : ℕ) → list_any (moves_lug bar) list ≡ false → machine_standing n bar ≡ machine_standing m bar
  pub letters : (wheel : ℕ) → list_any (turns_pin_wheel wheel) list ≡ false
      → machine_pin_letter n wheel ≡ machine_pin_letter m wheel
  pub plugs_in : (cable letter : ℕ) → list_any (puts_plug cable letter) list ≡ false
      → has_plug m cable letter ≡ false → has_plug n cable letter ≡ false
  pub plugs_out : (cable letter : ℕ) → list_any (pulls_plug cable letter) list ≡ false
      → has_plug m cable letter ≡ true → has_plug n cable letter ≡ true

abbrev pub AllMarksHaveSettings : Type 0
AllMarksHaveSettings = (m n : Parts) (list : List Setting) → Leads m list n → MarksHaveSettings m n list
