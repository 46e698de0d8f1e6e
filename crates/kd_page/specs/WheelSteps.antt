-- The step of the rings, and the step of the wheels and the reflector. Both steps have a checkbox for each of their
-- settings, and say which parts come from the box or go into the box.
use Rattle.std.specs.Prelude.{ℕ, ◌||◌, ◌==◌, Bool, false, if◌then◌else◌, List, [], ◌∷◌, ◌++◌, flat_map}
use Rattle.std.specs.Prelude.{Option, Some, None, is_some, option_and_then, option_map}
use Rattle.std.specs.Option.{option_map_or}
use Rattle.kd_tables.specs.declared.reflector.Reflector.{Reflector}
use Rattle.kd_tables.specs.declared.wheel.Wheel.{Wheel}
use Rattle.kd_tables.specs.Tables.{reflector_text, wheel_text}
use Rattle.kd_state.specs.declared.machine.parts.Parts.{Parts}
use Rattle.kd_state.specs.Machine.{machine_reflector, machine_ring, machine_slot}
use Rattle.kd_state.specs.SameParts.{same_reflector}
use Rattle.kd_language.specs.declared.language.Language.{Language}
use Rattle.kd_pictures.specs.declared.numbers.TheConstants.{SLOTS}
use Rattle.kd_pictures.specs.declared.texts.TheConstants.{BOX_AFTER, BOX_WHEEL, BOXED, BOXED_END, BOXED_REFLECTOR, BOXED_WHEEL}
use Rattle.kd_pictures.specs.declared.words.Word.TheVariants as words
use Rattle.kd_language.specs.Language.{text_in}
use Rattle.kd_language.specs.Template.{filled}
use Rattle.kd_pictures.specs.Template.{letter_text, ordinal_text}
use Rattle.kd_page.specs.declared.spots.Step.TheVariants.{Rings, Seats}
use Rattle.kd_page.specs.Boxes.{slot_holding}
use Rattle.kd_page.specs.Page.{Page}
use Rattle.kd_page.specs.Spots.{count_at, step_spot}
use Rattle.kd_page.specs.Steps.{idle_text, list_text, step_text}

-- `wheel` if no slot holds it, otherwise `None`; the second argument is the slot that holds it, or `None`
abbrev pub unless_held : Wheel → Option ℕ → Option Wheel
unless_held wheel None = Some wheel
unless_held wheel (Some slot) = None

-- the wheel in slot `slot` of machine `m`; `None` if the slot has no wheel, or if a slot of machine `n` has this wheel
abbrev pub lone_wheel : Parts → Parts → ℕ → Option Wheel
lone_wheel m n slot =
    option_and_then (λ seated. option_and_then (λ wheel. unless_held wheel (slot_holding n wheel SLOTS)) seated)
    (machine_slot m slot)

-- whether one of the slots in the list has, on machine `m`, a wheel that no slot of machine `n` has
abbrev pub has_lone_wheel : Parts → Parts → List ℕ → Bool
has_lone_wheel m n [] = false
has_lone_wheel m n (slot ∷ slots) = is_some (lone_wheel m n slot) || has_lone_wheel m n slots

-- ---- The wheels that come from the box.

-- for a slot whose wheel comes from the box: this wheel, and the letter of its ring on machine `m`; otherwise `None`
abbrev pub wheel_from_box : Page → Parts → ℕ → Option (Wheel × ℕ)
wheel_from_box page m slot =
    option_and_then (λ wheel. option_map (λ ring. (wheel, ring)) (machine_ring m wheel))
    (lone_wheel page.after page.before slot)

abbrev pub from_box_shown : Option (Wheel × ℕ) → List ℕ
from_box_shown None = []
from_box_shown (Some (wheel, ring)) =
    filled BOX_WHEEL.now (wheel_text wheel ∷ letter_text ring ∷ ordinal_text ring ∷ [])

-- The words `told`, then a list. Each slot whose wheel comes from the box has an item: the wheel, and its ring on
-- machine `m`.
unfoldable pub all_rings_in_box : Page → List ℕ → Parts → List ℕ
all_rings_in_box page told m =
    told ++ flat_map (λ slot. from_box_shown (wheel_from_box page m slot)) SLOTS ++ BOXED_END.now

abbrev pub rings_in_box : Page → List ℕ → Parts → List ℕ
rings_in_box page told m =
    if has_lone_wheel page.after page.before SLOTS then all_rings_in_box page told m else []

-- ---- The steps.

-- The step in which the rings are set, while the wheels are out of the machine.
unfoldable pub some_rings_text : Page → ℕ → List ℕ
some_rings_text page count =
    step_text page words.RingsOut count ++ rings_in_box page (text_in page.language BOX_AFTER) page.after
    ++ list_text page Rings

abbrev pub rings_step : Page → List ℕ
rings_step page =
    let count = count_at (step_spot Rings) page.settings in
    if count == 0 then idle_text page.language words.Rings else some_rings_text page count

-- `reflector`; `None` if `other` is the same reflector
abbrev pub unless_same : Reflector → Option Reflector → Option Reflector
unless_same reflector other =
    if option_map_or (same_reflector reflector) other false then None else Some reflector

abbrev pub boxed_reflector : Page → Option Reflector
boxed_reflector page =
    option_and_then (λ reflector. unless_same reflector (machine_reflector page.after)) (machine_reflector page.before)

abbrev pub wheel_boxed_text : Option Wheel → List ℕ
wheel_boxed_text None = []
wheel_boxed_text (Some wheel) = filled BOXED_WHEEL.now (wheel_text wheel ∷ [])

abbrev pub reflector_boxed_text : Language → Option Reflector → List ℕ
reflector_boxed_text l None = []
reflector_boxed_text l (Some reflector) = filled (text_in l BOXED_REFLECTOR) (reflector_text reflector ∷ [])

-- the words for the parts that go into the box: the wheels, slot by slot, then the reflector
unfoldable pub all_boxed_text : Page → List ℕ
all_boxed_text page =
    text_in page.language BOXED ++ flat_map (λ slot. wheel_boxed_text (lone_wheel page.before page.after slot)) SLOTS
    ++ reflector_boxed_text page.language (boxed_reflector page) ++ BOXED_END.now

abbrev pub boxed_text : Page → List ℕ
boxed_text page =
    if has_lone_wheel page.before page.after SLOTS || is_some (boxed_reflector page) then all_boxed_text page else []

unfoldable pub some_seats_text : Page → ℕ → List ℕ
some_seats_text page count = step_text page words.Seats count ++ boxed_text page ++ list_text page Seats

abbrev pub seats_step : Page → List ℕ
seats_step page =
    let count = count_at (step_spot Seats) page.settings in
    if count == 0 then idle_text page.language words.Seats else some_seats_text page count
