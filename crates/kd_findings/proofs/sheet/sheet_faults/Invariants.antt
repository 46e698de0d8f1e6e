use Rattle.std.proofs.Common.{◌≡◌, [], map, take}
use Rattle.toml.specs.View.{view}
use Rattle.kd_findings.specs.Faults.{faults_of}
use Rattle.kd_findings.specs.SheetFaults.{faults_after}
use Rattle.kd_findings.proofs.sheet.sheet_faults.Given as goal

-- the list has the faults of the entries so far
abbrev pub invariant-loop-index : goal.invariant-loop-index
invariant-loop-index l = faults_of l.list.items ≡ faults_after [] (take l.index (map view l.items))
