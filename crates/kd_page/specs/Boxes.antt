-- The checkboxes of a day's page. Except for pins, the checkbox of a setting has the setting's line. A wheel is called
-- spare if it is in the machine's box.
use Rattle.std.specs.Prelude.{decimal, ℕ, ◌-◌, ◌==◌, Bool, if◌then◌else◌, List, [], ◌∷◌, ◌++◌, flat_map}
use Rattle.std.specs.Prelude.{Option, Some, None}
use Rattle.kd_tables.specs.declared.lug.Lug.{Lug}
use Rattle.kd_tables.specs.declared.lug.Lug.TheVariants as lugs
use Rattle.kd_tables.specs.declared.model.Model.{Model}
use Rattle.kd_tables.specs.declared.wheel.Wheel.{Wheel}
use Rattle.kd_tables.specs.declared.place.Place.{Place}
use Rattle.kd_tables.specs.Places.{place_text}
use Rattle.kd_tables.specs.Tables.{reflector_text, slots_of, wheel_text}
use Rattle.kd_state.specs.declared.machine.parts.Parts.{Parts}
use Rattle.kd_state.specs.declared.setting.Setting.{Setting}
use Rattle.kd_state.specs.declared.setting.Setting.TheVariants as settings
use Rattle.kd_state.specs.Line.{setting_line}
use Rattle.kd_state.specs.Machine.{machine_ring, machine_standing, model_of}
use Rattle.kd_language.specs.declared.language.Language.{Language}
use Rattle.kd_pictures.specs.declared.numbers.TheConstants.{SLOTS}
use Rattle.kd_page.specs.declared.spots.Spot.{Spot}
use Rattle.kd_pictures.specs.declared.words.Word.{Word}
use Rattle.kd_pictures.specs.declared.words.Word.TheVariants.{Greek, Left, LeftLug, Middle, Off, On, Right, RightLug}
use Rattle.kd_pictures.specs.declared.words.Mark.{Mark}
use Rattle.kd_pictures.specs.declared.words.Mark.TheVariants.{Effective, Ineffective}
use Rattle.kd_pictures.specs.declared.texts.TheConstants.{BOX_RING, LUG, LUG_END, LUG_FROM, PIN, PLUG, REFLECTOR, RING, SEAT, SEAT_END, SEAT_FROM}
use Rattle.kd_pictures.specs.declared.texts.TheConstants.{TURN}
use Rattle.kd_language.specs.Language.{text_in}
use Rattle.kd_page.specs.Page.{Page}
use Rattle.kd_page.specs.Spots.{is_at}
use Rattle.kd_language.specs.Template.{filled}
use Rattle.kd_pictures.specs.Template.{letter_text, ordinal_text}
use Rattle.kd_pictures.specs.Wheels.{is_seated}
use Rattle.kd_pictures.specs.Words.{mark_text, word_text}

-- the name of slot `slot`; from right to left, the slots are called `Right`, `Middle`, `Left` and `Greek`
abbrev pub slot_name : Model → ℕ → Word
slot_name model slot =
    let after = slots_of model - slot in
    if after == 0 then Right else if after == 1 then Middle else if after == 2 then Left else Greek

-- the first slot in the list that holds `wheel` on machine `m`; `None` if no slot in the list holds it
abbrev pub slot_holding : Parts → Wheel → List ℕ → Option ℕ
slot_holding m wheel [] = None
slot_holding m wheel (slot ∷ slots) = if is_seated m slot wheel then Some slot else slot_holding m wheel slots

-- The words for `ring`, the letter on which a spare wheel's ring has to stand. Empty if there is no letter.
abbrev pub box_ring_text : Language → Option ℕ → List ℕ
box_ring_text l None = []
box_ring_text l (Some ring) = filled (text_in l BOX_RING) (letter_text ring ∷ ordinal_text ring ∷ [])

-- the checkbox to put a spare wheel into a slot, with the letter on which the wheel's ring has to stand
abbrev pub from_box_text : Page → Setting → ℕ → Wheel → List ℕ
from_box_text page x slot wheel =
    filled (text_in page.language SEAT) (
    decimal slot ∷ word_text page.language (slot_name (model_of page.after) slot) ∷ wheel_text wheel ∷ [])
    ++ box_ring_text page.language (machine_ring page.after wheel) ++ filled SEAT_END.now (setting_line x ∷ [])

-- The checkbox to put a wheel into a slot. If the wheel was in another slot, the checkbox says in which one.
abbrev pub seat_text : Page → Setting → ℕ → Wheel → Option ℕ → List ℕ
seat_text page x slot wheel None = from_box_text page x slot wheel
seat_text page x slot wheel (Some old) = filled (text_in page.language SEAT_FROM) (
    decimal slot ∷ word_text page.language (slot_name (model_of page.after) slot) ∷ wheel_text wheel ∷ decimal old
    ∷ setting_line x ∷ [])

-- the word for a bar's left or right lug
abbrev pub lug_word : Lug → Word
lug_word lugs.Left = LeftLug
lug_word lugs.Right = RightLug

-- The words for a lug's place before the settings. Empty if the machine doesn't have the lug's bar.
abbrev pub lug_from_text : Language → Lug → Option (Place × Place) → List ℕ
lug_from_text l lug None = []
lug_from_text l lugs.Left (Some bar) = filled (text_in l LUG_FROM) (place_text bar.0 ∷ [])
lug_from_text l lugs.Right (Some bar) = filled (text_in l LUG_FROM) (place_text bar.1 ∷ [])

-- the checkbox to move a lug to a place of its bar, with the lug's place before the settings
abbrev pub lug_text : Language → Setting → Lug → Option (Place × Place) → Place → List ℕ
lug_text l x lug bar place =
    filled LUG.now (word_text l (lug_word lug) ∷ []) ++ lug_from_text l lug bar
    ++ filled (text_in l LUG_END) (place_text place ∷ setting_line x ∷ [])

-- the mark of an effective pin, or of a pin that isn't effective
abbrev pub pin_mark : Bool → Mark
pin_mark effective = if effective then Effective else Ineffective

-- the word that says which way to set a pin
abbrev pub pin_word : Bool → Word
pin_word effective = if effective then On else Off

-- The checkbox of a setting on a page. The setting TURN has only its line here, within the checkbox of a window or of
-- a pin wheel's letter.
abbrev pub box_text : Page → Setting → List ℕ
box_text page (settings.Pull cable letter) =
    filled PLUG.now (letter_text letter ∷ setting_line (settings.Pull cable letter) ∷ [])
box_text page (settings.Put cable letter) =
    filled PLUG.now (letter_text letter ∷ setting_line (settings.Put cable letter) ∷ [])
box_text page (settings.Seat slot wheel) =
    seat_text page (settings.Seat slot wheel) slot wheel (slot_holding page.before wheel SLOTS)
box_text page (settings.SeatReflector reflector) =
    filled (text_in page.language REFLECTOR) (reflector_text reflector ∷ setting_line (settings.SeatReflector reflector) ∷ [])
box_text page (settings.RingTo wheel letter) = filled (text_in page.language RING) (
    wheel_text wheel ∷ letter_text letter ∷ ordinal_text letter ∷ setting_line (settings.RingTo wheel letter) ∷ [])
box_text page (settings.Turn slot letter) = filled TURN.now (setting_line (settings.Turn slot letter) ∷ [])
box_text page (settings.PinTo wheel letter effective) =
    filled PIN.now (letter_text letter ∷ mark_text (pin_mark effective) ∷ word_text page.language (pin_word effective) ∷ [])
box_text page (settings.LugTo bar lug place) =
    lug_text page.language (settings.LugTo bar lug place) lug (machine_standing page.before bar) place

abbrev pub box_at : Page → Spot → Setting → List ℕ
box_at page spot x = if is_at spot x then box_text page x else []

-- the checkboxes at one spot of the page (a step, a row or a cell), in the order of the page's settings
abbrev pub boxes_at : Page → Spot → List ℕ
boxes_at page spot = flat_map (box_at page spot) page.settings
