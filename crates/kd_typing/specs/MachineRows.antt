-- The key of a machine, from the rows of its table.
use Rattle.kd_state.specs.EngineKey as keys
use Rattle.kd_state.specs.EngineKey.{EngineKey}
use Rattle.kd_typing.specs.declared.machine_rows.MachineRows.{MachineRows}
use Rattle.kd_typing.specs.declared.machine_rows.MachineRows.TheVariants.{Rotor, Pin}

-- the key of the machine whose table has these rows
abbrev pub rows_key : MachineRows → EngineKey
rows_key (Rotor key) = keys.Rotor key
rows_key (Pin key) = keys.Pin key
