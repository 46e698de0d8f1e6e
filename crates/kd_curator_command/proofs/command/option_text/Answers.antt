use Rattle.kd_curator_command.proofs.Prelude.{found_of, refl}
use Rattle.kd_curator_command.proofs.CommandLines.{read_text}
use Rattle.kd_curator_command.proofs.command.option_text.Goals as goal

pub returns : goal.returns
returns c =
    rw c.unwrap_or.ensures (read_text (found_of c.args.words.now) c.args.name.now c.get_str.result _ c.get_str.ensures refl)
