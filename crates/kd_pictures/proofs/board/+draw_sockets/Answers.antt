use Rattle.std.proofs.Common.{arith}
use Rattle.std.proofs.lemmas.Grind.{common_steps}
use Rattle.kd_pictures.proofs.Choices.{first_letter}
use Rattle.kd_pictures.proofs.Drawings.{joined}
use Rattle.kd_pictures.proofs.board.+draw_sockets.Goals as goal

pub returns-in-len1-up : goal.returns-in-len1-up
returns-in-len1-up g t c =
    joined c.draw_socket.ensures c.draw_sockets.ensures (grind (arith, common_steps))

pub at-requires : goal.at-requires
at-requires g t c = first_letter _ c.requires c.in-len1-up.len_at_least
