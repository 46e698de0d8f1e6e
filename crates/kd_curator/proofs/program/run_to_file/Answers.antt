use Rattle.std.proofs.Common.{◌≢◌, [], Some, ap, subst, sym, ◌∙◌}
use Rattle.kd_tables.specs.Ports.{port}
use Rattle.kd_new_file.specs.NewFiles.{AddsFile}
use Rattle.kd_new_file.proofs.ByName.{part_name-apart}
use Rattle.kd_curator_command.specs.CommandLine.{chosen_language, unborrowed_command, unborrowed_names}
use Rattle.kd_curator.specs.Ending.{EndsAs}
use Rattle.kd_curator.specs.Files.{names_of}
use Rattle.kd_curator.specs.OutputFile.{NotBegun}
use Rattle.kd_curator.proofs.OutputFiles.{ends_badly, ends_well}
use Rattle.kd_curator.proofs.program.run_to_file.Goals as goal

pub returns-in-Err : goal.returns-in-Err
returns-in-Err g c = λ l words meant.
    NotBegun c.in-Err.fault c.in-Err.ensures.fault c.in-Err.ensures.refused c.requires.asked
    (rw meant.language at c.end_unwritten.ensures)

pub returns-in-Ok-end_file : goal.returns-in-Ok-end_file
returns-in-Ok-end_file g c = λ l words meant.
    let run = c.run_gathering-answer.ensures l words meant in
    let between = c.run_gathering-answer.new.errors in
    let before = g.N.NewFiles.held c.args.new_files.now in
    let begun = g.N.NewFiles.held c.begin.new.files in
    let added : AddsFile before begun c.as_str.result.now (Some []) =
    subst (λ name. AddsFile before begun name (Some [])) (sym c.as_str.ensures.value) c.in-Ok.ensures.added in
    let apart : c.as_str.result.now ≢ c.args.name.now =
    λ same. part_name-apart c.args.name.now c.in-Ok.ensures.other.0
    (sym c.in-Ok.ensures.other.1 ∙ sym c.as_str.ensures.value ∙ same) in
    ends_well l words (g.F.Files.known c.args.files.now) (g.F.Files.asked c.run_gathering-answer.new.files)
    before (g.N.NewFiles.held c.end_file.new.new_files) c.args.name.now (names_of (unborrowed_command c.args.request.command))
    (port g.E.Sink.taken g.E.Sink.has_failed c.args.errors.now c.end_program.new.errors) c.end_program.result
    (g.E.Sink.taken between) (g.E.Sink.has_failed between) c.run_gathering-answer.result.0 _ _ _ _
    c.in-Ok.ensures.empty c.in-Ok.ensures.fresh _ (c.in-Ok-end_file.ensures.published before added apart) run.0 run.1
    (subst (λ names. EndsAs (chosen_language l words) names c.run_gathering-answer.result.0
    (port g.E.Sink.taken g.E.Sink.has_failed between c.end_program.new.errors) c.end_program.result)
    (ap unborrowed_names c.as_slice.ensures.value ∙ c.names_of-names.ensures)
    (rw meant.language at c.end_program.ensures))

pub returns : goal.returns
returns g c = λ l words meant.
    let run = c.run_gathering-answer.ensures l words meant in
    let between = c.run_gathering-answer.new.errors in
    let before = g.N.NewFiles.held c.args.new_files.now in
    let begun = g.N.NewFiles.held c.begin.new.files in
    let added : AddsFile before begun c.as_str.result.now (Some []) =
    subst (λ name. AddsFile before begun name (Some [])) (sym c.as_str.ensures.value) c.in-Ok.ensures.added in
    let apart : c.as_str.result.now ≢ c.args.name.now =
    λ same. part_name-apart c.args.name.now c.in-Ok.ensures.other.0
    (sym c.in-Ok.ensures.other.1 ∙ sym c.as_str.ensures.value ∙ same) in
    ends_badly l words (g.F.Files.known c.args.files.now) (g.F.Files.asked c.run_gathering-answer.new.files)
    before (g.N.NewFiles.held c.end_file.new.new_files) c.args.name.now (names_of (unborrowed_command c.args.request.command))
    (port g.E.Sink.taken g.E.Sink.has_failed c.args.errors.now c.end_unwritten-in-Err-end_file.new.errors)
    c.end_unwritten-in-Err-end_file.result
    (g.E.Sink.taken between) (g.E.Sink.has_failed between) c.run_gathering-answer.result.0 _ _ _ _
    c.in-Ok.ensures.empty c.in-Ok.ensures.fresh _ c.in-Err-end_file.fault
    (c.in-Err-end_file.ensures.published before added apart) run.0 run.1
    (rw meant.language at c.end_unwritten-in-Err-end_file.ensures)
