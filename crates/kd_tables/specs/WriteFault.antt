-- Why a call's output isn't written, or isn't written completely.
-- Test: tests/page-refusals
use Rattle.std.specs.Prelude.{Bool, false, true, Result, Err}
use Rattle.kd_tables.specs.declared.ports.write_fault.WriteFault.{WriteFault}
use Rattle.kd_tables.specs.declared.ports.write_fault.WriteFault.TheVariants.{Device}

-- whether a call's result is the error `Device`: the sink failed
abbrev pub is_device : {T F : Type 0} → Result T (WriteFault F) → Bool
is_device (Err Device) = true
is_device _ = false
