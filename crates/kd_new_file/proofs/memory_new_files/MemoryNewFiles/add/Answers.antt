use Rattle.std.proofs.Common.{Some, ap, ◌≡◌, None, arith}
use Rattle.kd_new_file.specs.NewFiles.{files_in}
use Rattle.kd_new_file.proofs.ByName.{updated}
use Rattle.kd_new_file.proofs.memory_new_files.MemoryNewFiles.add.Goals as goal

pub returns-in-Ok-clause-added : goal.returns-in-Ok-clause-added
returns-in-Ok-clause-added g c =
    let absent : files_in c.args.self.now.files c.args.name.now ≡ None = grind arith in
    let changed = updated _ c.args.self.now.files c.insert.new.self _ c.in-Ok.ensures.updates in
    (absent, ap Some (rw (c.in_ok-name.ensures.ok, c.in_ok-bytes.ensures.items) at changed))
