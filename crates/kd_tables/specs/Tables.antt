-- Wheels: their names, their wirings and their notches.
-- Source: the published wirings and notches of the Wehrmacht's and the Kriegsmarine's machines.
-- Code: each call of `wiring` makes the table from the published text; `notched` searches a short text.
-- Test: wheels_are_as_published
use Rattle.std.specs.Prelude.{codes, ℕ, ◌-◌, ◌==◌, nat_le, Bool, ◌&&◌, if◌then◌else◌, List, [], ◌∷◌, ◌++◌, map}
use Rattle.std.specs.List.{list_any}
use Rattle.kd_tables.specs.declared.wheel.Wheel.{Wheel}
use Rattle.kd_tables.specs.declared.wheel.Wheel.TheVariants.{I, II, III, IV, V, VI, VII, VIII, Beta, Gamma}
use Rattle.kd_tables.specs.declared.reflector.Reflector.{Reflector}
use Rattle.kd_tables.specs.declared.reflector.Reflector.TheVariants as reflectors
use Rattle.kd_tables.specs.declared.model.Family.{Family}
use Rattle.kd_tables.specs.declared.model.Family.TheVariants as families
use Rattle.kd_tables.specs.declared.model.Model.{Model}
use Rattle.kd_tables.specs.declared.model.Model.TheVariants.{EnigmaI, M3, M4, M209}

-- the letters of `text`, which has only capital letters, as numbers: A is 0, and Z is 25
abbrev pub letters_of : List ℕ → List ℕ
letters_of text = map (λ byte. byte - 65) text

-- The name, the wiring and the notches of each wheel. The wiring lists the letters that A to Z become as the current
-- passes from right to left. The notches are window letters: if the wheel steps while it shows one of them, the wheel
-- to its left steps too. Beta and Gamma never step.
abbrev pub wheel_table : Wheel → List ℕ × List ℕ × List ℕ
wheel_table I = (codes "I", codes "EKMFLGDQVZNTOWYHXUSPAIBRCJ", codes "Q")
wheel_table II = (codes "II", codes "AJDKSIRUXBLHWTMCQGZNPYFVOE", codes "E")
wheel_table III = (codes "III", codes "BDFHJLCPRTXVZNYEIWGAKMUSQO", codes "V")
wheel_table IV = (codes "IV", codes "ESOVPZJAYQUIRHXLNFTGKDCMWB", codes "J")
wheel_table V = (codes "V", codes "VZBRGITYUPSDNHLXAWMJQOFECK", codes "Z")
wheel_table VI = (codes "VI", codes "JPGVOUMFYQBENHZRDKASXLICTW", codes "MZ")
wheel_table VII = (codes "VII", codes "NZJHGRCXMYSWBOUFAIVLPEKQDT", codes "MZ")
wheel_table VIII = (codes "VIII", codes "FKQHTLXOCBJSPDZRAMEWNIUYGV", codes "MZ")
wheel_table Beta = (codes "Beta", codes "LEYJVCNIXWPBQMDRTAKZGFUHOS", codes "")
wheel_table Gamma = (codes "Gamma", codes "FSOKANUERHMBTIYCWLQPZXVGJD", codes "")

-- the name of a wheel
abbrev pub wheel_text : Wheel → List ℕ
wheel_text wheel = (wheel_table wheel).0

-- the published wiring of a wheel, as a permutation
unfoldable pub wiring_of : Wheel → List ℕ
wiring_of wheel = letters_of (wheel_table wheel).1

-- whether `wheel` is at a notch while `letter` shows in its window
abbrev pub is_notch : Wheel → ℕ → Bool
is_notch wheel letter = list_any (λ notch. notch == letter) (letters_of (wheel_table wheel).2)

-- ---- Reflectors: their names and their wirings.
-- Source: the published wirings.
-- Test: reflectors_are_as_published

-- The name and the wiring of each reflector. The wiring lists the letters into which the reflector turns A to Z.
abbrev pub reflector_table : Reflector → List ℕ × List ℕ
reflector_table reflectors.A = (codes "A", codes "EJMZALYXVBWFCRQUONTSPIKHGD")
reflector_table reflectors.B = (codes "B", codes "YRUHQSLDPXNGOKMIEBFZCWVJAT")
reflector_table reflectors.C = (codes "C", codes "FVPJIAOYEDRZXWGCTKUQSBNMHL")
reflector_table reflectors.ThinB = (codes "b", codes "ENKQAUYWJICOPBLMDXZVFTHRGS")
reflector_table reflectors.ThinC = (codes "c", codes "RDOBJNTKVEHMLFCWZAXGYIPSUQ")

-- the name of a reflector
abbrev pub reflector_text : Reflector → List ℕ
reflector_text reflector = (reflector_table reflector).0

-- the published wiring of a reflector, as a permutation
unfoldable pub reflector_of : Reflector → List ℕ
reflector_of reflector = letters_of (reflector_table reflector).1

-- ---- Models: their names, their slots, their families, and the wheels and reflectors of their boxes.
-- Source: the published accounts of the models.
-- Code: one array has all wheels, and each model's box is a prefix of this array.
-- Test: models_have_names_and_parts

-- all models
abbrev pub all_models : List Model
all_models = EnigmaI ∷ M3 ∷ M4 ∷ M209 ∷ []

-- The name, the number of slots, and the reflectors of each model. A Converter M-209's pin wheels have no slots.
abbrev pub model_table : Model → List ℕ × ℕ × List Reflector
model_table EnigmaI = (codes "Enigma I", 3, reflectors.A ∷ reflectors.B ∷ reflectors.C ∷ [])
model_table M3 = (codes "M3", 3, reflectors.B ∷ reflectors.C ∷ [])
model_table M4 = (codes "M4", 4, reflectors.ThinB ∷ reflectors.ThinC ∷ [])
model_table M209 = (codes "M-209", 0, [])

-- the name of a model
abbrev pub model_text : Model → List ℕ
model_text model = (model_table model).0

-- the number of slots for wheels that a model has
abbrev pub slots_of : Model → ℕ
slots_of model = (model_table model).1

-- the family of a model: rotor machines have slots for wheels, and pin machines have none
abbrev pub family_of : Model → Family
family_of EnigmaI = families.Rotor
family_of M3 = families.Rotor
family_of M4 = families.Rotor
family_of M209 = families.Pin

-- `by_family rotor pin family` is `rotor` for rotor machines, and `pin` for pin machines.
abbrev pub by_family : {X : Type 0} → X → X → Family → X
by_family rotor pin families.Rotor = rotor
by_family rotor pin families.Pin = pin

-- the reflectors of a model
abbrev pub reflectors_of : Model → List Reflector
reflectors_of model = (model_table model).2

-- the wheels that may be in a slot of a model; no wheels if the model lacks the slot. Slots are counted from 1, from
-- the left.
abbrev pub wheels_for : Model → ℕ → List Wheel
wheels_for EnigmaI slot = if nat_le 1 slot && nat_le slot 3 then I ∷ II ∷ III ∷ IV ∷ V ∷ [] else []
wheels_for M3 slot = if nat_le 1 slot && nat_le slot 3 then I ∷ II ∷ III ∷ IV ∷ V ∷ VI ∷ VII ∷ VIII ∷ [] else []
wheels_for M4 slot =
    if slot == 1 then Beta ∷ Gamma ∷ []
    else (if nat_le 2 slot && nat_le slot 4 then I ∷ II ∷ III ∷ IV ∷ V ∷ VI ∷ VII ∷ VIII ∷ [] else [])
wheels_for M209 slot = []

-- the box of a model: all its wheels, seated or not, from I to VIII, then Beta and Gamma
abbrev pub box_of : Model → List Wheel
box_of M4 = wheels_for M4 2 ++ wheels_for M4 1
box_of model = wheels_for model 1
