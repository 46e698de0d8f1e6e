-- A machine and a day of the same model, as one value.
-- Test: tests/cases/desk-cards.toml
use Rattle.std.specs.Prelude.{◌≡◌}
use Rattle.kd_state.specs.declared.machine.parts.Parts.{Parts}
use Rattle.kd_state.specs.declared.machine.parts.Parts.TheVariants as parts
use Rattle.kd_state.specs.declared.machine.one_model.OneModel.{OneModel}
use Rattle.kd_state.specs.declared.machine.one_model.OneModel.TheVariants.{Rotor, Pin}
use Rattle.kd_state.specs.SheetDay.{Day, Rotor, Pin}
use Rattle.kd_state.specs.Entry.{rotor_values, pin_values}

-- Machine and day are of the same model. The `OneModel` has the parts of the machine and the values of the day.
abbrev pub IsOneModelOf : Parts → Day → OneModel → Type 0
IsOneModelOf machine day (Rotor m_parts entry) =
    (machine ≡ parts.Rotor m_parts.now) × (day ≡ Rotor (rotor_values entry.now))
    × (m_parts.now.model ≡ entry.now.model)
IsOneModelOf machine day (Pin m_parts entry) = (machine ≡ parts.Pin m_parts.now) × (day ≡ Pin (pin_values entry.now))
