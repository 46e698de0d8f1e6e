use Rattle.std.proofs.Common.{arith, refl, ◌≡◌, ◌∷◌}
use Rattle.std.proofs.lemmas.Grind.{common_steps}
use Rattle.kd_message.proofs.SendPages.{later_keys, next_part, none_left}
use Rattle.kd_message.proofs.sending.take_part.Goals as goal

pub returns : goal.returns
returns c =
    let split : c.args.left.keys.now ≡ c.keys-item.result ∷ later_keys c.args.left.keys.now =
    grind (arith, common_steps) in (
      next_part _ _ _ _ _ _ _ _ _ split c.take_piece-piece.ensures.piece c.take_piece-piece.ensures.rest c.requires,
      refl,
      refl,
    )

pub returns-in_default : goal.returns-in_default
returns-in_default c = none_left _ _ _ _ _ (grind (arith, common_steps)) c.requires
