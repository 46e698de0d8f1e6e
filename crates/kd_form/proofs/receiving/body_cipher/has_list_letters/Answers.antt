use Rattle.kd_form.proofs.MadeParts.{list_of_day, refl, ◌∙◌}
use Rattle.kd_form.proofs.Prelude.{list_of_body, sym}
use Rattle.std.proofs.lemmas.{Bool.{Decides.Decides-eqb}, Slice.Eq.slice_eq-Decides}
use Rattle.kd_form.proofs.receiving.body_cipher.has_list_letters.Goals as goal

pub returns : goal.returns
returns c =
    let equal = slice_eq-Decides Decides-eqb (list_of_body c.args.letters.now) c.unwrap-due.result _ refl in
    let due = list_of_day _ _ _ c.list.ensures c.unwrap-due.ensures in
    (λ yes. equal.0 (sym c.eq.ensures ∙ yes) ∙ due, λ listed. c.eq.ensures ∙ equal.1 (listed ∙ sym due))
