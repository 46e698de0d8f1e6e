use Rattle.std.proofs.Common.{◌≡◌, ◌++◌, ap, arith, drop, false, sym}
use Rattle.std.proofs.lemmas.List.{drop_min}
use Rattle.kd_pictures.proofs.Drawings.{joined}
use Rattle.kd_language.specs.Language.{text_in}
use Rattle.kd_part_sheet.specs.declared.markup.TheConstants.{COMMA}
use Rattle.kd_part_sheet.specs.Rows.{pieces}
use Rattle.kd_message.specs.TextSheet.{lost_groups}
use Rattle.kd_message.specs.declared.texts.TheConstants.{ITS_KEYS}
use Rattle.kd_message.proofs.unread.draw_keys_and_groups.Goals as goal

pub returns : goal.returns
returns g c =
    let l = c.args.language in
    let text : c.split_at.result.1.now ≡ drop 5 c.args.body.now = grind (arith, drop_min) in
    joined c.draw_in.ensures c.draw_lost_groups.ensures
    (ap (λ t. text_in l ITS_KEYS ++ lost_groups l COMMA.now false 2 (pieces 5 t)) (sym text))
