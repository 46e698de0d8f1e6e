-- The picture of a rotor machine's wheels. One band shows the machine before the settings, another band shows the
-- machine after the settings. Words are in language `l`.
use Rattle.std.specs.Prelude.{decimal, ℕ, ◌+◌, ◌*◌, nat_eq, Bool, false, if◌then◌else◌, List, [], ◌∷◌, ◌++◌, flat_map}
use Rattle.std.specs.Prelude.{Option, Some, None}
use Rattle.std.specs.Option.{option_map_or}
use Rattle.kd_tables.specs.declared.reflector.Reflector.{Reflector}
use Rattle.kd_tables.specs.declared.wheel.Wheel.{Wheel}
use Rattle.kd_tables.specs.Tables.{reflector_text, wheel_text}
use Rattle.kd_state.specs.declared.machine.parts.Parts.{Parts}
use Rattle.kd_state.specs.Machine.{machine_letter, machine_reflector, machine_ring, machine_slot}
use Rattle.kd_state.specs.SameParts.{same_reflector, same_wheel}
use Rattle.kd_pictures.specs.declared.numbers.TheConstants.{SLOTS}
use Rattle.kd_language.specs.declared.language.Language.{Language}
use Rattle.kd_pictures.specs.declared.words.Word.{Word}
use Rattle.kd_pictures.specs.declared.words.Word.TheVariants.{After, Before}
use Rattle.kd_pictures.specs.declared.texts.TheConstants as texts
use Rattle.kd_language.specs.Language.{text_in}
use Rattle.kd_language.specs.Template.{filled}
use Rattle.kd_pictures.specs.Template.{letter_text, ordinal_text}
use Rattle.kd_pictures.specs.Words.{word_text}

-- whether `wheel` is in slot `slot` of machine `m`
abbrev pub is_seated : Parts → ℕ → Wheel → Bool
is_seated m slot wheel =
    option_map_or (λ seated. option_map_or (same_wheel wheel) seated false) (machine_slot m slot) false

-- ---- The machine in words, for the picture's title.

abbrev pub reflector_words : Language → Option Reflector → List ℕ
reflector_words l None = []
reflector_words l (Some reflector) = filled (text_in l texts.REFLECTOR_WORDS) (reflector_text reflector ∷ [])

-- `template`, filled with the letter; empty if there is no letter
abbrev pub letter_words : List ℕ → Option ℕ → List ℕ
letter_words template None = []
letter_words template (Some letter) = filled template (letter_text letter ∷ [])

-- the words for a wheel, with its slot, its ring and its window letter
abbrev pub wheel_words : Language → Parts → ℕ → Wheel → List ℕ
wheel_words l m slot wheel =
    filled (text_in l texts.WHEEL_WORDS) (decimal slot ∷ wheel_text wheel ∷ [])
    ++ letter_words (text_in l texts.RING_WORDS) (machine_ring m wheel)
    ++ letter_words (text_in l texts.WINDOW_WORDS) (machine_letter m wheel)

-- The words for a slot: it is empty, or has a wheel, with the wheel's ring and window letter. No words if the machine
-- lacks the slot.
abbrev pub slot_words : Language → Parts → ℕ → Option (Option Wheel) → List ℕ
slot_words l m slot None = []
slot_words l m slot (Some None) = filled (text_in l texts.EMPTY_WORDS) (decimal slot ∷ [])
slot_words l m slot (Some (Some wheel)) = wheel_words l m slot wheel

unfoldable pub machine_words : Language → Parts → List ℕ
machine_words l m =
    reflector_words l (machine_reflector m) ++ flat_map (λ slot. slot_words l m slot (machine_slot m slot)) SLOTS

-- ---- A band at height `y`. What differs from the other machine is marked.

abbrev pub reflector_shown : ℕ → Option Reflector → Option Reflector → List ℕ
reflector_shown y None other = []
reflector_shown y (Some reflector) other =
    filled
    (if option_map_or (same_reflector reflector) other false then texts.REFLECTOR_SHOWN.now
    else texts.NEW_REFLECTOR.now)
    (decimal (y + 24) ∷ decimal (y + 54) ∷ reflector_text reflector ∷ [])

-- how far a slot is from the picture's left edge
abbrev pub slot_x : ℕ → ℕ
slot_x slot = 80 + 104 * slot

-- A wheel in slot `slot`, drawn as old if `is_old` is true, otherwise as new. A wheel is old if the other machine has
-- it in the same slot.
abbrev pub wheel_shown : Language → ℕ → ℕ → ℕ → Bool → Wheel → List ℕ
wheel_shown l x y slot is_old wheel =
    filled (if is_old then text_in l texts.WHEEL else text_in l texts.NEW_WHEEL) (
    decimal (x + 48) ∷ decimal (y + 16) ∷ decimal slot ∷ decimal x ∷ decimal (y + 24)
    ∷ decimal (x + 48) ∷ decimal (y + 54) ∷ wheel_text wheel ∷ [])

abbrev pub is_same_letter : ℕ → Option ℕ → Bool
is_same_letter letter other = option_map_or (nat_eq letter) other false

-- A ring's letter, if there is one. The letter is framed as new, unless `other` is the same letter. On the other
-- machine, the same wheel's ring has the letter `other`.
abbrev pub ring_shown : ℕ → ℕ → Option ℕ → Option ℕ → List ℕ
ring_shown x y None other = []
ring_shown x y (Some letter) other =
    let shown = decimal (x + 48) ∷ decimal (y + 85) ∷ letter_text letter ∷ ordinal_text letter ∷ [] in
    if is_same_letter letter other then filled texts.RING_SHOWN.now shown
    else filled texts.NEW_RING.now (decimal (x + 10) ∷ decimal (y + 64) ∷ shown)

abbrev pub window_shown : ℕ → ℕ → Option ℕ → Option ℕ → List ℕ
window_shown x y None other = []
window_shown x y (Some letter) other =
    filled (if is_same_letter letter other then texts.WINDOW.now else texts.NEW_WINDOW.now) (
    decimal (x + 10) ∷ decimal (y + 99) ∷ decimal (x + 30) ∷ decimal (y + 128) ∷ letter_text letter
    ∷ decimal (x + 70) ∷ decimal (y + 126) ∷ ordinal_text letter ∷ [])

abbrev pub empty_shown : Language → ℕ → ℕ → ℕ → List ℕ
empty_shown l x y slot = filled (text_in l texts.EMPTY) (
    decimal (x + 48) ∷ decimal (y + 16) ∷ decimal slot ∷ decimal x ∷ decimal (y + 24)
    ∷ decimal (x + 48) ∷ decimal (y + 54) ∷ [])

-- a wheel in a slot, its ring and its window
abbrev pub seated_shown : Language → ℕ → ℕ → Parts → Parts → ℕ → Wheel → List ℕ
seated_shown l x y m n slot wheel =
    wheel_shown l x y slot (is_seated n slot wheel) wheel
    ++ ring_shown x y (machine_ring m wheel) (machine_ring n wheel)
    ++ window_shown x y (machine_letter m wheel) (machine_letter n wheel)

abbrev pub slot_shown : Language → ℕ → ℕ → Parts → Parts → ℕ → Option (Option Wheel) → List ℕ
slot_shown l x y m n slot None = []
slot_shown l x y m n slot (Some None) = empty_shown l x y slot
slot_shown l x y m n slot (Some (Some wheel)) = seated_shown l x y m n slot wheel

unfoldable pub band_head : Language → ℕ → Word → List ℕ
band_head l y name = filled (text_in l texts.BAND) (
    decimal (y + 16) ∷ word_text l name ∷ decimal (y + 54) ∷ decimal (y + 84) ∷ decimal (y + 125) ∷ decimal (y + 16) ∷ [])

-- the picture's band for machine `m`, at height `y`; differences from machine `n` are marked
unfoldable pub band_text : Language → ℕ → Word → Parts → Parts → List ℕ
band_text l y name m n =
    band_head l y name ++ reflector_shown y (machine_reflector m) (machine_reflector n)
    ++ flat_map (λ slot. slot_shown l (slot_x slot) y m n slot (machine_slot m slot)) SLOTS

-- ---- The picture: a band for the machine before the settings, without marks, and a band for the machine after them;
-- or only the second band.

unfoldable pub both_bands : Language → Parts → Parts → List ℕ
both_bands l m n =
    text_in l texts.WHEELS ++ machine_words l m ++ text_in l texts.WHEELS_THEN ++ machine_words l n
    ++ texts.TITLE_END.now ++ band_text l 0 Before m m ++ band_text l 164 After n m ++ texts.WHEELS_END.now

unfoldable pub one_band : Language → Parts → List ℕ
one_band l n =
    text_in l texts.WHEELS_ONCE ++ machine_words l n ++ texts.TITLE_END.now ++ band_text l 0 After n n ++ texts.WHEELS_END.now
