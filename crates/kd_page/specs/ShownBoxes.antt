-- The text of a page has the checkbox of each setting.
use Rattle.std.specs.Prelude.{◌≡◌, ℕ, List, [], ◌∷◌, ◌++◌, true, false}
use Rattle.kd_state.specs.Machine.{IsMachine, model_of}
use Rattle.kd_state.specs.Setting.{Leads}
use Rattle.kd_pictures.specs.Words.{is_converter}
use Rattle.kd_page.specs.Boxes.{box_text}
use Rattle.kd_page.specs.DayPage.{day_text}
use Rattle.kd_page.specs.Page.{Page}
use Rattle.kd_page.specs.PageOrder.{IsPinOrder, IsRotorOrder}

-- `text` has the piece `part x` for each item `x` of the list, in the order of the items. Other text may stand between
-- the pieces.
abbrev pub HasInTurn : {X : Type 0} → (X → List ℕ) → List X → List ℕ → Type 0
HasInTurn part [] text = Unit {0}
HasInTurn part (x ∷ xs) text =
    (before : List ℕ) × (after : List ℕ) × (text ≡ before ++ part x ++ after) × HasInTurn part xs after

-- Suppose that the page's settings lead from the machine `before` to the machine `after`. Then the page's text has the
-- checkbox of each setting, in the order of the settings.
abbrev pub HasItsBoxes : Page → Type 0
HasItsBoxes page =
    Leads page.before page.settings page.after
    → HasInTurn (box_text page) page.settings (day_text page)

abbrev pub RotorPageHasTheBoxes : Type 0
RotorPageHasTheBoxes =
    (page : Page) → IsMachine page.after → is_converter (model_of page.after) ≡ false → IsRotorOrder page.settings
    → HasItsBoxes page

abbrev pub PinPageHasTheBoxes : Type 0
PinPageHasTheBoxes =
    (page : Page) → IsMachine page.before → IsMachine page.after → is_converter (model_of page.after) ≡ true
    → IsPinOrder page.settings → HasItsBoxes page
