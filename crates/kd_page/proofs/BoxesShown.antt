-- The text of a page has the boxes of its settings.
use Rattle.std.proofs.Common.{◌≡◌, ℕ, Bool, true, false, ◌==◌, List, [], ◌∷◌, ◌++◌, flat_map, length, arith}
use Rattle.std.proofs.Common.{refl, ap, ap₂, sym, subst, ◌∙◌, Option, Some, None, take, drop}
use Rattle.std.specs.Prelude.{if◌then◌else◌}
use Rattle.std.proofs.lemmas.Grind.{flat_map-append}
use Rattle.kd_tables.specs.declared.place.Place.{Place}
use Rattle.kd_tables.specs.Permutation.{alphabet}
use Rattle.kd_state.specs.declared.machine.parts.Parts.{Parts}
use Rattle.kd_state.specs.declared.setting.Setting.{Setting}
use Rattle.kd_state.specs.Machine.{machine_pin, machine_pin_letter, machine_standing, model_of}
use Rattle.kd_pictures.specs.declared.numbers.TheConstants.{BARS, CABLES, PIN_WHEELS, SLOTS}
use Rattle.kd_pictures.specs.declared.words.Word.TheVariants as words
use Rattle.kd_pictures.specs.declared.texts.TheConstants.{LIST, LIST_END}
use Rattle.kd_pictures.specs.Board.{has_cables}
use Rattle.kd_pictures.specs.Words.{is_converter}
use Rattle.kd_page.specs.declared.spots.Spot.{Spot}
use Rattle.kd_page.specs.declared.spots.Step.{Step}
use Rattle.kd_page.specs.declared.spots.Step.TheVariants.{Rings, Seats, PlugsOut, PlugsIn, Lugs, Turns}
use Rattle.kd_page.specs.Boxes.{box_text, boxes_at}
unfoldable use Rattle.kd_page.specs.DayPage.{day_text, pin_text, rotor_text}
unfoldable use Rattle.kd_page.specs.Drum.{lugs_step}
use Rattle.kd_page.specs.Drum.{bar_row}
use Rattle.kd_page.specs.Page.{Page}
use Rattle.kd_page.specs.PageOrder.{pin_boxes, pin_by_pin, rotor_boxes, row_by_row, settings_at}
unfoldable use Rattle.kd_page.specs.Pins.{pins_step}
use Rattle.kd_page.specs.Pins.{pin_cell, pin_cells, pin_spot, pin_wheel}
unfoldable use Rattle.kd_page.specs.PlugSteps.{plug_table, plugs_in, plugs_out}
use Rattle.kd_page.specs.PlugSteps.{in_step, out_step, plug_row}
use Rattle.kd_page.specs.ShownBoxes.{HasInTurn}
use Rattle.kd_page.specs.Spots.{count_at, is_at, row_of, row_spot, step_spot}
unfoldable use Rattle.kd_page.specs.Steps.{list_text}
use Rattle.kd_page.specs.Steps.{idle_text}
use Rattle.kd_page.specs.WheelSteps.{rings_step, seats_step}
unfoldable use Rattle.kd_page.specs.WheelSteps.{some_rings_text, some_seats_text}
unfoldable use Rattle.kd_page.specs.Windows.{letters_step, windows_step}
use Rattle.kd_page.specs.Windows.{letter_box, letter_in_slot, window_box}
use Rattle.kd_page.proofs.Groups.{group}
use Rattle.kd_page.proofs.InTurn.{before, behind, has_none, if_some, in_both, in_each, passing}
use Rattle.kd_page.proofs.PageOrders.{row_is}

-- A rotor machine after the settings has what their boxes stand at. If plugs are put in, a cable is plugged. No window
-- of an empty slot is set.
pub record HasRotorPlaces (n : Parts) (settings : List Setting) : Type 0 where
  pub plugs : has_cables n CABLES ≡ false → settings_at (step_spot PlugsIn) settings ≡ []
  pub windows : (slot : ℕ) → letter_in_slot n slot ≡ None → settings_at (row_spot Turns slot) settings ≡ []

-- A Converter, before the settings and after them, has what their boxes stand at: pins, bars and pin wheels.
pub record HasPinPlaces (m n : Parts) (settings : List Setting) : Type 0 where
  pub pins : (wheel letter : ℕ) → machine_pin n wheel letter ≡ None → settings_at (pin_spot wheel letter) settings ≡ []
  pub bars : (bar : ℕ) → machine_standing n bar ≡ None → settings_at (row_spot Lugs bar) settings ≡ []
  pub old_bars : (bar : ℕ) → machine_standing m bar ≡ None → settings_at (row_spot Lugs bar) settings ≡ []
  pub letters : (wheel : ℕ) → machine_pin_letter n wheel ≡ None → settings_at (row_spot Turns wheel) settings ≡ []

module _ (page : Page) where
  abbrev own : Setting → List ℕ
  own = box_text page

  abbrev pub Shown : List Setting → List ℕ → Type 0
  Shown = HasInTurn own

  abbrev pub at : Spot → List Setting
  at spot = settings_at spot page.settings

  abbrev rows_of : Step → List ℕ → List Setting
  rows_of step rows = row_by_row step rows page.settings

  -- Text without boxes, then a text with boxes, and then text without boxes.
  between : (a : List ℕ) (xs : List Setting) (text b : List ℕ) → Shown xs text → Shown xs (a ++ text ++ b)
  between a xs text b has = before own xs (a ++ text) b (behind own a xs text has)

  boxes : (spot : Spot) → Shown (at spot) (boxes_at page spot)
  boxes spot = passing own (is_at spot) page.settings

  listed : (step : Step) → Shown (at (step_spot step)) (list_text page step)
  unfolding list_text
  listed step =
      between LIST.now (at (step_spot step)) (boxes_at page (step_spot step)) LIST_END.now (boxes (step_spot step))

  rings : Shown (at (step_spot Rings)) (rings_step page)
  unfolding some_rings_text
  rings = if_some own (at (step_spot Rings)) _ _ (behind own _ (at (step_spot Rings)) _ (listed Rings))

  seats : Shown (at (step_spot Seats)) (seats_step page)
  unfolding some_seats_text
  seats = if_some own (at (step_spot Seats)) _ _ (behind own _ (at (step_spot Seats)) _ (listed Seats))

  row : (step : Step) (number : ℕ) → Shown (at (row_spot step number)) (plug_row page step number)
  row step number =
      if_some own (at (row_spot step number)) _ _ (between _ (at (row_spot step number)) _ _
      (boxes (row_spot step number)))

  table : (head : List ℕ) (step : Step) → Shown (rows_of step CABLES) (plug_table page head step)
  unfolding plug_table
  table head step =
      between head (rows_of step CABLES) _ _ (in_each own (λ number. at (row_spot step number)) (plug_row page step)
      (row step) CABLES)

  -- If a step has no settings, its table has no rows.
  no_row : (step : Step) → at (step_spot step) ≡ [] → (number : ℕ) → at (row_spot step number) ≡ []
  no_row step none number = row_is step page.settings number ∙ ap (group row_of number) none

  no_rows : (step : Step) → at (step_spot step) ≡ [] → (rows : List ℕ) → rows_of step rows ≡ []
  no_rows step none [] = refl
  no_rows step none (number ∷ rows) = ap₂ (λ a b. a ++ b) (no_row step none number) (no_rows step none rows)

  -- The table of a step stands on the page, or the step has no settings.
  if_any : (step : Step) (other text : List ℕ) (count : List Setting) → at (step_spot step) ≡ count
      → Shown (rows_of step CABLES) text
      → Shown (rows_of step CABLES) (if length count == 0 then other else text)
  if_any step other text [] is has = has_none own (rows_of step CABLES) other (no_rows step is CABLES)
  if_any step other text (x ∷ xs) is has =
      let some : (length (x ∷ xs) == 0) ≡ false = grind arith in
      subst (λ test. Shown (rows_of step CABLES) (if test then other else text)) (sym some) has

  out : Shown (rows_of PlugsOut CABLES) (out_step page)
  unfolding plugs_out
  out =
      if_any PlugsOut _ _ (at (step_spot PlugsOut)) refl (between _ (rows_of PlugsOut CABLES) _ _ (table _ PlugsOut))

  inside : (plugged : Bool) → has_cables page.after CABLES ≡ plugged
      → (plugged ≡ false → at (step_spot PlugsIn) ≡ []) → Shown (rows_of PlugsIn CABLES) (in_step page)
  unfolding plugs_in
  inside true is none =
      subst (λ test. Shown (rows_of PlugsIn CABLES)
      (if test then plugs_in page (count_at (step_spot PlugsIn) page.settings)
      else idle_text page.language words.PlugsIn)) (sym is)
      (between _ (rows_of PlugsIn CABLES) _ _ (if_any PlugsIn _ _ (at (step_spot PlugsIn)) refl (table _ PlugsIn)))
  inside false is none = has_none own (rows_of PlugsIn CABLES) _ (no_rows PlugsIn (none refl) CABLES)

  window : (slot : ℕ) (shown : Option ℕ) → (shown ≡ None → at (row_spot Turns slot) ≡ [])
      → Shown (at (row_spot Turns slot)) (window_box page slot shown)
  window slot None none = has_none own (at (row_spot Turns slot)) _ (none refl)
  window slot (Some letter) none = between _ (at (row_spot Turns slot)) _ _ (boxes (row_spot Turns slot))

  windows : ((slot : ℕ) → letter_in_slot page.after slot ≡ None → at (row_spot Turns slot) ≡ [])
      → Shown (rows_of Turns SLOTS) (windows_step page)
  unfolding windows_step
  windows none =
      between _ (rows_of Turns SLOTS) _ _ (in_each own (λ slot. at (row_spot Turns slot))
      (λ slot. window_box page slot (letter_in_slot page.after slot))
      (λ slot. window slot (letter_in_slot page.after slot) (none slot)) SLOTS)

  pub rotor : HasRotorPlaces page.after page.settings → Shown (rotor_boxes page.settings) (rotor_text page)
  unfolding rotor_text
  rotor places =
      in_both own _ (rows_of Turns SLOTS) _ _
      (in_both own _ (rows_of PlugsIn CABLES) _ _
      (in_both own _ (rows_of PlugsOut CABLES) _ _
      (in_both own (at (step_spot Rings)) (at (step_spot Seats)) _ _
      (behind own _ (at (step_spot Rings)) _ rings)
      seats)
      out)
      (inside (has_cables page.after CABLES) refl places.plugs))
      (windows places.windows)

  -- The cell of a pin.
  pin : (wheel letter : ℕ) (is : Option Bool) → (is ≡ None → at (pin_spot wheel letter) ≡ [])
      → Shown (at (pin_spot wheel letter)) (pin_cell page wheel letter is)
  pin wheel letter None none = has_none own (at (pin_spot wheel letter)) _ (none refl)
  pin wheel letter (Some effective) none =
      behind own _ (at (pin_spot wheel letter)) _ (if_some own (at (pin_spot wheel letter)) _ _
      (boxes (pin_spot wheel letter)))

  abbrev HasPins : Type 0
  HasPins = (wheel letter : ℕ) → machine_pin page.after wheel letter ≡ None → at (pin_spot wheel letter) ≡ []

  cells : (wheel : ℕ) (letters : List ℕ) → HasPins
      → Shown (flat_map (λ letter. at (pin_spot wheel letter)) letters) (pin_cells page wheel letters)
  cells wheel letters none =
      in_each own (λ letter. at (pin_spot wheel letter))
      (λ letter. pin_cell page wheel letter (machine_pin page.after wheel letter))
      (λ letter. pin wheel letter (machine_pin page.after wheel letter) (none wheel letter)) letters

  wheel_shown : HasPins → (wheel : ℕ)
      → Shown (flat_map (λ letter. at (pin_spot wheel letter)) alphabet) (pin_wheel page wheel)
  wheel_shown none wheel =
      let found : ℕ → List Setting = λ letter. at (pin_spot wheel letter) in
      subst (λ xs. Shown xs (pin_wheel page wheel))
      (sym (flat_map-append found (take 13 alphabet) (drop 13 alphabet)))
      (before own (flat_map found (take 13 alphabet) ++ flat_map found (drop 13 alphabet)) _ _
      (in_both own (flat_map found (take 13 alphabet)) (flat_map found (drop 13 alphabet)) _ _
      (between _ (flat_map found (take 13 alphabet)) _ _ (cells wheel (take 13 alphabet) none))
      (cells wheel (drop 13 alphabet) none)))

  pins : HasPins → Shown (pin_by_pin page.settings) (pins_step page)
  unfolding pins_step
  pins none =
      between _ (pin_by_pin page.settings) _ _ (in_each own
      (λ wheel. flat_map (λ letter. at (pin_spot wheel letter)) alphabet) (pin_wheel page) (wheel_shown none) PIN_WHEELS)

  -- The row of a bar.
  bar : (number : ℕ) (was is : Option (Place × Place)) → (was ≡ None → at (row_spot Lugs number) ≡ [])
      → (is ≡ None → at (row_spot Lugs number) ≡ [])
      → Shown (at (row_spot Lugs number)) (bar_row page number was is)
  bar number None is old none = has_none own (at (row_spot Lugs number)) _ (old refl)
  bar number (Some was) None old none = has_none own (at (row_spot Lugs number)) _ (none refl)
  bar number (Some was) (Some is) old none =
      between _ (at (row_spot Lugs number)) _ _ (boxes (row_spot Lugs number))

  lugs : HasPinPlaces page.before page.after page.settings → Shown (rows_of Lugs BARS) (lugs_step page)
  unfolding lugs_step
  lugs places =
      between _ (rows_of Lugs BARS) _ _ (in_each own (λ number. at (row_spot Lugs number))
      (λ number. bar_row page number (machine_standing page.before number) (machine_standing page.after number))
      (λ number. bar number (machine_standing page.before number) (machine_standing page.after number)
      (places.old_bars number) (places.bars number)) BARS)

  letter : (wheel : ℕ) (shown : Option ℕ) → (shown ≡ None → at (row_spot Turns wheel) ≡ [])
      → Shown (at (row_spot Turns wheel)) (letter_box page wheel shown)
  letter wheel None none = has_none own (at (row_spot Turns wheel)) _ (none refl)
  letter wheel (Some shown) none = between _ (at (row_spot Turns wheel)) _ _ (boxes (row_spot Turns wheel))

  letters : HasPinPlaces page.before page.after page.settings → Shown (rows_of Turns PIN_WHEELS) (letters_step page)
  unfolding letters_step
  letters places =
      between _ (rows_of Turns PIN_WHEELS) _ _ (in_each own (λ wheel. at (row_spot Turns wheel))
      (λ wheel. letter_box page wheel (machine_pin_letter page.after wheel))
      (λ wheel. letter wheel (machine_pin_letter page.after wheel) (places.letters wheel)) PIN_WHEELS)

  pub converter : HasPinPlaces page.before page.after page.settings
      → Shown (pin_boxes page.settings) (pin_text page)
  unfolding pin_text
  converter places =
      in_both own _ (rows_of Turns PIN_WHEELS) _ _
      (in_both own (pin_by_pin page.settings) (rows_of Lugs BARS) _ _
      (behind own _ (pin_by_pin page.settings) _ (pins places.pins))
      (lugs places))
      (letters places)

  -- The steps stand between the day's head and the test.
  pub whole : (xs : List Setting) (is_pin : Bool) → is_converter (model_of page.after) ≡ is_pin
      → Shown xs (if is_pin then pin_text page else rotor_text page) → Shown xs (day_text page)
  unfolding day_text
  whole xs is_pin is has =
      before own xs _ _ (between _ xs _ _
      (subst (λ test. Shown xs (if test then pin_text page else rotor_text page)) (sym is) has))
