use Rattle.std.specs.Prelude.{[], Some}
use Rattle.kd_new_file.proofs.ByName.{unnamed}
use Rattle.kd_new_file.proofs.new_file.publish.Goals as goal

pub returns-clause-fault : goal.returns-clause-fault
returns-clause-fault g c =
    unnamed (g.N.NewFiles.held c.args.files.now) c.args.other.now c.args.name.now c.link-done.result
    c.link-done.ensures.taken c.link-done.ensures.device
