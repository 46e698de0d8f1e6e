-- The answer of the page on which a machine is typed on.
use Rattle.std.proofs.Common.{◌≡◌, ◌||◌, ℕ, Bool, true, false, List, Option, IsErr, ap, refl, sym, ◌∙◌}
use Rattle.kd_tables.specs.Ports.{port}
use Rattle.kd_state.specs.TwoCiphers.{IsReady}
use Rattle.kd_state.specs.declared.machine.parts.Parts.{Parts}
use Rattle.kd_pictures.specs.Drawing.{Draws}
use Rattle.kd_language.specs.declared.language.Language.{Language}
use Rattle.kd_pictures.proofs.Drawings.{writes_part}
use Rattle.kd_typing.specs.MachineTable.{TypesAsMachine}
use Rattle.kd_typing_page.specs.TypingPage.{typing_page}
use Rattle.kd_typing_page.proofs.Pages.{page_begins}
use Rattle.kd_curator.specs.Refusals.{is_device, refused_device}
use Rattle.kd_curator.specs.RunType.{Page, WritesTypingPage, answer_after}

any_true : (b : Bool) → (b || true) ≡ true
any_true true = refl
any_true false = refl

module _ {W : Type 0} (taken : W → Option (List ℕ)) (failed : W → Bool) (old new : W) (l : Language) (m : Parts)
    (draws : Draws taken failed old new (typing_page l m)) where
  pub page_told : IsReady m → TypesAsMachine m → (has : Bool) → failed new ≡ has
      → WritesTypingPage l m (port taken failed old new) (answer_after has)
  page_told ready types false well =
      Page ready types (record {
        written = record { whole = (draws.whole well).1; front = tt };
        device = tt;
      })
  page_told ready types true ill =
      Page ready types (record {
        written = writes_part refused_device (page_begins l m).1.1 draws ill;
        device = refl;
      })

  pub failed_told : (has : Bool) → failed new ≡ has → failed new ≡ (failed old || is_device (answer_after has))
  failed_told false well = well ∙ sym (ap (λ b. b || false) (draws.whole well).0)
  failed_told true ill = ill ∙ sym (any_true (failed old))

-- an answer after a page is a failed device, or no error
pub untouched_told : {X : Type 0} (has : Bool) → IsErr (answer_after has) → is_device (answer_after has) ≡ false → X
untouched_told false err other = absurd (cc)
untouched_told true err other = absurd (let wrong : true ≡ false = other in cc)
