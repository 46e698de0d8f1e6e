-- The page of a day has the boxes of its settings.
use Rattle.std.proofs.Common.{◌≡◌, ℕ, List, true, false, arith, subst, sym}
use Rattle.std.specs.Prelude.{Contains}
use Rattle.kd_tables.specs.declared.model.Model.{Model}
use Rattle.kd_tables.specs.declared.model.Model.TheVariants.{EnigmaI, M3, M4, M209}
use Rattle.kd_tables.specs.declared.reflector.Reflector.{Reflector}
use Rattle.kd_tables.specs.Tables.{reflectors_of}
use Rattle.kd_state.specs.declared.machine.parts.Parts.{Parts}
use Rattle.kd_state.specs.declared.machine.parts.Parts.TheVariants.{Pin, Rotor}
use Rattle.kd_state.specs.declared.setting.Setting.{Setting}
use Rattle.kd_state.specs.Machine.{IsMachine, model_of}
use Rattle.kd_language.specs.declared.language.Language.{Language}
use Rattle.kd_pictures.specs.Words.{is_converter}
use Rattle.kd_page.specs.declared.spots.Step.TheVariants.{Lugs, Turns}
use Rattle.kd_page.specs.Boxes.{box_text}
use Rattle.kd_page.specs.DayPage.{day_text}
use Rattle.kd_page.specs.Page.{Page, page_of}
use Rattle.kd_page.specs.PageOrder.{IsPinOrder, IsRotorOrder, pin_boxes, rotor_boxes}
use Rattle.kd_page.specs.ShownBoxes.{HasInTurn, HasItsBoxes, PinPageHasTheBoxes, RotorPageHasTheBoxes}
use Rattle.kd_page.proofs.BoxesShown.{HasPinPlaces, HasRotorPlaces, converter, rotor, whole}
use Rattle.kd_page.proofs.LedPlaces.{one_kind, pins_there, plugs_there, row_there, windows_there}
use Rattle.kd_page.proofs.PageOrders.{pin_boxes_are, rotor_boxes_are}

rotor_of : (l : Language) (sheet : List ℕ) (day : ℕ) (m n : Parts) (settings : List Setting) → IsMachine n
    → is_converter (model_of n) ≡ false → IsRotorOrder settings → HasItsBoxes (page_of l sheet day m n settings)
rotor_of l sheet day m (Pin n) settings legal is order leads = absurd (cc)
rotor_of l sheet day m (Rotor n) settings legal is order leads =
    let page : Page = page_of l sheet day m (Rotor n) settings in
    let places : HasRotorPlaces (Rotor n) settings = record {
      plugs = λ none. plugs_there (Rotor n) m 0 settings none order.steps order.«in» leads;
      windows = λ slot none. windows_there slot n legal none m 0 settings (sym (one_kind m (Rotor n) settings leads))
          order.steps leads;
    } in
    subst (λ xs. HasInTurn (box_text page) xs (day_text page)) (rotor_boxes_are settings order)
    (whole page (rotor_boxes settings) false is (rotor page places))

pub rotor_pages : RotorPageHasTheBoxes
rotor_pages page = rotor_of page.language page.sheet page.day page.before page.after page.settings

-- A Converter has no reflector.
no_reflector : (model : Model) (reflector : Reflector) → is_converter model ≡ true
    → Contains (reflectors_of model) reflector → ⊥
no_reflector EnigmaI reflector is has = absurd (cc)
no_reflector M3 reflector is has = absurd (cc)
no_reflector M4 reflector is has = absurd (cc)
no_reflector M209 reflector is has = absurd (grind (arith, has))

pin_of : (l : Language) (sheet : List ℕ) (day : ℕ) (m n : Parts) (settings : List Setting) → IsMachine m → IsMachine n
    → is_converter (model_of n) ≡ true → IsPinOrder settings → HasItsBoxes (page_of l sheet day m n settings)
pin_of l sheet day m (Rotor n) settings legal then is order leads =
    absurd (no_reflector n.model n.reflector is then.legal.reflector)
pin_of l sheet day (Rotor m) (Pin n) settings legal then is order leads =
    let kind = one_kind (Rotor m) (Pin n) settings leads in absurd (cc)
pin_of l sheet day (Pin m) (Pin n) settings legal then is order leads =
    let page : Page = page_of l sheet day (Pin m) (Pin n) settings in
    let bars = then.legal.bars in
    let old_bars = legal.legal.bars in
    let letters = then.legal.letters.count in
    let places : HasPinPlaces (Pin m) (Pin n) settings = record {
      pins = λ wheel letter none. pins_there wheel letter n then none (Pin m) (Pin n) settings leads;
      bars = λ bar none. row_there Lugs n.bars bar 28 settings (omega (arith, bars)) order.lugs none;
      old_bars = λ bar none. row_there Lugs m.bars bar 28 settings (omega (arith, old_bars)) order.lugs none;
      letters = λ wheel none. row_there Turns n.letters wheel 7 settings (omega (arith, letters)) order.turns none;
    } in
    subst (λ xs. HasInTurn (box_text page) xs (day_text page)) (pin_boxes_are settings order)
    (whole page (pin_boxes settings) true is (converter page places))

pub pin_pages : PinPageHasTheBoxes
pin_pages page = pin_of page.language page.sheet page.day page.before page.after page.settings
