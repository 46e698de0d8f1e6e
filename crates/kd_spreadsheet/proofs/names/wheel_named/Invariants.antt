use Rattle.std.proofs.Common.{◌≡◌, drop}
use Rattle.std.specs.Prelude.{find}
use Rattle.kd_tables.specs.Tables.{wheel_text}
use Rattle.kd_spreadsheet.specs.Names.{is_named}
use Rattle.kd_spreadsheet.proofs.names.wheel_named.Given as goal

abbrev pub invariant-loop-wheel : goal.invariant-loop-wheel
invariant-loop-wheel l = find (λ wheel. is_named (wheel_text wheel) l.word) (drop l.wheel-index l.wheels)
    ≡ find (λ wheel. is_named (wheel_text wheel) l.word) l.wheels
