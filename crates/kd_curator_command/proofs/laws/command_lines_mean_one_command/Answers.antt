use Rattle.kd_curator_command.proofs.OneCommand.{one_command}
use Rattle.kd_curator_command.proofs.laws.command_lines_mean_one_command.Goals as goal

pub returns : goal.returns
returns c = one_command
