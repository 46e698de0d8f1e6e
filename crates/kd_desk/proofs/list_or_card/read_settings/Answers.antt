use Rattle.kd_desk.proofs.{Prelude.{sym, refl, ◌∙◌, OfCard, InCard}, Applying.list_read}
use Rattle.kd_desk.proofs.list_or_card.read_settings.Goals as goal

pub returns-in-Ok : goal.returns-in-Ok
returns-in-Ok c = OfCard (sym c.starts_with.ensures.value ∙ c.if-starts_with.true) _ _ c.in-Ok.ensures

pub returns-in-Err : goal.returns-in-Err
returns-in-Err c = InCard (sym c.starts_with.ensures.value ∙ c.if-starts_with.true) _ c.in-Err.ensures refl

pub returns-else-starts_with : goal.returns-else-starts_with
returns-else-starts_with c =
    list_read (λ v. v.items) c.args.bytes.now c.read_list.result c.map_err.result
    (sym c.starts_with.ensures.value ∙ c.if-starts_with.false) c.read_list.ensures c.map_err.ensures.cases
