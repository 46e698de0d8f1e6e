-- The values of a page have no markup.
use Rattle.std.proofs.Common.{◌≡◌, ℕ, ◌+◌, ◌<◌, ◌^◌, Bool, true, ◌&&◌, List, [], ◌∷◌, ◌++◌, arith, refl, ap₂, ◌∙◌}
use Rattle.std.proofs.Common.{filter, unwrap_or}
use Rattle.std.specs.Path.{path_file_stem}
use Rattle.std.specs.List.{list_all}
use Rattle.std.specs.Fmt.{decimal}
use Rattle.std.proofs.lemmas.Fmt.{digits_decimal}
use Rattle.std.proofs.lemmas.Grind.{common_steps}
use Rattle.std.proofs.lemmas.List.Elements.{All-from_get_or, filter_passes}
use Rattle.std.proofs.lemmas.List.Folds.{list_all-append}
use Rattle.std.proofs.lemmas.List.Sums.{list_all-from_AllPass}
use Rattle.kd_tables.specs.declared.lug.Lug.{Lug}
use Rattle.kd_tables.specs.declared.lug.Lug.TheVariants as lugs
use Rattle.kd_tables.specs.declared.model.Model.{Model}
use Rattle.kd_tables.specs.declared.model.Model.TheVariants.{EnigmaI}
use Rattle.kd_tables.specs.declared.place.Place.{Place}
use Rattle.kd_tables.specs.declared.place.Place.TheVariants.{One}
use Rattle.kd_tables.specs.declared.reflector.Reflector.{Reflector}
use Rattle.kd_tables.specs.declared.reflector.Reflector.TheVariants as reflectors
use Rattle.kd_tables.specs.declared.wheel.Wheel.{Wheel}
use Rattle.kd_tables.specs.declared.wheel.Wheel.TheVariants.{I}
use Rattle.kd_tables.specs.{Places.{lug_text, place_text}, Tables.{reflector_text, wheel_text}}
use Rattle.kd_state.specs.Line.{IsSettingInRange, on_off_text, setting_line, setting_words}
use Rattle.kd_tables.specs.LineWords.{line_of}
use Rattle.kd_state.specs.declared.setting.Setting.{Setting}
use Rattle.kd_state.specs.declared.setting.Setting.TheVariants as settings
use Rattle.kd_tables.proofs.LineWords.{IsNumeralModel-digits}
use Rattle.kd_pictures.specs.declared.template.Value.TheVariants as values
use Rattle.kd_language.specs.declared.language.Language.{Language}
use Rattle.kd_language.specs.declared.language.Language.TheVariants.{English, German}
use Rattle.kd_pictures.specs.declared.words.Class.{Class}
use Rattle.kd_pictures.specs.declared.words.Class.TheVariants.{Plain}
use Rattle.kd_pictures.specs.declared.words.Mark.{Mark}
use Rattle.kd_pictures.specs.declared.words.Mark.TheVariants.{LugStays}
use Rattle.kd_pictures.specs.declared.words.Word.{Word}
use Rattle.kd_pictures.specs.declared.words.Word.TheVariants.{Rings}
use Rattle.kd_pictures.specs.Plain.{ValuesArePlain, is_plain}
unfoldable use Rattle.kd_pictures.specs.SheetName.{sheet_name}
use Rattle.kd_pictures.specs.SheetName.{SheetNamesArePlain}
use Rattle.kd_pictures.specs.Template.{count_text, letter_text, ordinal_text}
use Rattle.kd_pictures.specs.Words.{class_text, mark_text, model_name, word_text}

abbrev ArePlain : List ℕ → Type 0
ArePlain text = list_all is_plain text ≡ true

plain_both : (a b : List ℕ) → ArePlain a → ArePlain b → ArePlain (a ++ b)
plain_both a b one two = list_all-append is_plain a b ∙ ap₂ (λ x y. x && y) one two

plain_decimal : (number : ℕ) → number < 2 ^ 64 → ArePlain (decimal number)
plain_decimal number small =
    let digits = digits_decimal IsNumeralModel-digits number small in
    list_all-from_AllPass is_plain (decimal number)
    (All-from_get_or (λ byte. is_plain byte ≡ true) (decimal number) 0 (λ i within. grind (arith, digits i within)))

plain_letter : (letter : ℕ) → ArePlain (letter_text letter)
plain_letter letter = grind arith

plain_wheel : (wheel : Wheel) → ArePlain (wheel_text wheel)
plain_wheel I = refl
plain_wheel _ = refl

plain_reflector : (reflector : Reflector) → ArePlain (reflector_text reflector)
plain_reflector reflectors.A = refl
plain_reflector _ = refl

plain_place : (place : Place) → ArePlain (place_text place)
plain_place One = refl
plain_place _ = refl

plain_lug : (lug : Lug) → ArePlain (lug_text lug)
plain_lug lugs.Left = refl
plain_lug _ = refl

plain_model : (model : Model) → ArePlain (model_name model)
plain_model EnigmaI = refl
plain_model _ = refl

plain_word : (l : Language) (word : Word) → ArePlain (word_text l word)
plain_word English Rings = refl
plain_word English _ = refl
plain_word German Rings = refl
plain_word German _ = refl

plain_class : (class : Class) → ArePlain (class_text class)
plain_class Plain = refl
plain_class _ = refl

plain_mark : (mark : Mark) → ArePlain (mark_text mark)
plain_mark LugStays = refl
plain_mark _ = refl

plain_on_off : (effective : Bool) → ArePlain (on_off_text effective)
plain_on_off true = refl
plain_on_off _ = refl

abbrev AllArePlain : List (List ℕ) → Type 0
AllArePlain [] = Unit {0}
AllArePlain (word ∷ words) = ArePlain word × AllArePlain words

-- Plain words make a plain line.
plain_words : (words : List (List ℕ)) → AllArePlain words → ArePlain (line_of words)
plain_words [] all = refl
plain_words (word ∷ []) all = all.0
plain_words (word ∷ next ∷ words) all =
    plain_both word (32 ∷ line_of (next ∷ words)) all.0 (plain_words (next ∷ words) all.1)

plain_byte : (number : ℕ) → number < 2 ^ 8 → ArePlain (decimal number)
plain_byte number small = plain_decimal number (omega (arith, small))

words_are_plain : (x : Setting) → IsSettingInRange x → AllArePlain (setting_words x)
words_are_plain (settings.Pull cable letter) small = (refl, (plain_byte cable small.0, (plain_letter letter, tt)))
words_are_plain (settings.Put cable letter) small = (refl, (plain_byte cable small.0, (plain_letter letter, tt)))
words_are_plain (settings.Seat slot wheel) small = (refl, (plain_byte slot small, (plain_wheel wheel, tt)))
words_are_plain (settings.SeatReflector reflector) small = (refl, (plain_reflector reflector, tt))
words_are_plain (settings.RingTo wheel letter) small = (refl, (plain_wheel wheel, (plain_letter letter, tt)))
words_are_plain (settings.Turn slot letter) small = (refl, (plain_byte slot small.0, (plain_letter letter, tt)))
words_are_plain (settings.PinTo wheel letter effective) small =
    (refl, (plain_byte wheel small.0, (plain_letter letter, (plain_on_off effective, tt))))
words_are_plain (settings.LugTo bar lug place) small =
    (refl, (plain_byte bar small, (plain_lug lug, (plain_place place, tt))))

plain_line : (x : Setting) → IsSettingInRange x → ArePlain (setting_line x)
plain_line x small = plain_words (setting_words x) (words_are_plain x small)

plain_ordinal : (letter : ℕ) → letter < 26 → ArePlain (ordinal_text letter)
plain_ordinal letter small = grind (arith, common_steps, list_all-append, plain_decimal (letter + 1) (omega arith))

plain_count : (l : Language) (number : ℕ) → number < 2 ^ 64 → ArePlain (count_text l number)
plain_count English number small = grind (arith, common_steps, list_all-append, plain_decimal number small)
plain_count German number small = grind (arith, common_steps, list_all-append, plain_decimal number small)

pub values_are_plain : ValuesArePlain
values_are_plain l (values.Number number) small = plain_decimal number small
values_are_plain l (values.Letter letter) small = plain_letter letter
values_are_plain l (values.Ordinal letter) small = plain_ordinal letter small
values_are_plain l (values.Wheel wheel) small = plain_wheel wheel
values_are_plain l (values.Reflector reflector) small = plain_reflector reflector
values_are_plain l (values.Place place) small = plain_place place
values_are_plain l (values.Line setting) small = plain_line setting small
values_are_plain l (values.Count number) small = plain_count l number small
values_are_plain l (values.Model model) small = plain_model model
values_are_plain l (values.Word word) small = plain_word l word
values_are_plain l (values.Class class) small = plain_class class
values_are_plain l (values.Mark mark) small = plain_mark mark

pub names_are_plain : SheetNamesArePlain
unfolding sheet_name
names_are_plain path =
    let stem = unwrap_or (path_file_stem path) [] in
    list_all-from_AllPass is_plain (filter is_plain stem) (filter_passes is_plain stem)
