use Rattle.std.proofs.Common.{Some, ap}
use Rattle.kd_new_file.proofs.ByName.{updated}
use Rattle.kd_new_file.proofs.memory_new_files.MemoryNewFilesNewFiles.remove.Goals as goal

pub returns : goal.returns
returns g c = ap Some (updated _ c.args.self.now.files c.remove.new.self _ c.remove.ensures.updates)
