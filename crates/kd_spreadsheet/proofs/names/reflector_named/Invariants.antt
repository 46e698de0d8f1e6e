use Rattle.std.proofs.Common.{◌≡◌, drop}
use Rattle.std.specs.Prelude.{find}
use Rattle.kd_spreadsheet.specs.Names.{names_reflector}
use Rattle.kd_spreadsheet.proofs.names.reflector_named.Given as goal

abbrev pub invariant-loop-reflector : goal.invariant-loop-reflector
invariant-loop-reflector l = find (λ reflector. names_reflector reflector l.cell) (drop l.reflector-index l.reflectors)
    ≡ find (λ reflector. names_reflector reflector l.cell) l.reflectors
