use Rattle.std.proofs.Common.{◌≡◌, drop}
use Rattle.std.specs.Prelude.{find}
use Rattle.kd_tables.specs.Tables.{model_text}
use Rattle.kd_spreadsheet.specs.Names.{is_named}
use Rattle.kd_spreadsheet.proofs.names.model_among.Given as goal

abbrev pub invariant-loop-model : goal.invariant-loop-model
invariant-loop-model l = find (λ model. is_named (model_text model) l.cell) (drop l.model-index l.models)
    ≡ find (λ model. is_named (model_text model) l.cell) l.models
