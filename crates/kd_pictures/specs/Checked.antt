-- What the texts in both languages have in common: templates take equally many values, and words have the right
-- meanings.
use Rattle.std.specs.Prelude.{codes, ◌≡◌, ℕ, count_by, List}
use Rattle.kd_language.specs.declared.language.Language.TheVariants.{English, German}
use Rattle.kd_pictures.specs.declared.texts.TheConstants as texts
use Rattle.kd_pictures.specs.declared.words.Word.{Word}
use Rattle.kd_pictures.specs.declared.words.Word.TheVariants as words
use Rattle.kd_language.specs.Language.{text_in}
use Rattle.kd_language.specs.Template.{is_gap}
use Rattle.kd_pictures.specs.Words.{word_text}

-- `template` has `number` signs `~`, each of which stands for a value.
abbrev pub HasGaps : List ℕ → ℕ → Type 0
HasGaps template number = count_by is_gap template ≡ number

-- The template `text` has `number` signs `~`, in both languages.
abbrev pub Takes : record { now : List ℕ } × record { now : List ℕ } → ℕ → Type 0
Takes text number = HasGaps (text_in English text) number × HasGaps (text_in German text) number

-- Each template has exactly as many signs `~` as it gets values.
abbrev pub TemplatesTakeTheirValues : Type 0
TemplatesTakeTheirValues =
    HasGaps texts.HEAD.now 1 × Takes texts.TITLE_DAY 2 × Takes texts.TITLE_DAYS 3 × Takes texts.NAV_DAY 3
    × HasGaps texts.DAY.now 1 × Takes texts.DAY_TITLED 1 × Takes texts.COMPARE_PIN 2 × HasGaps texts.STEP.now 2
    × HasGaps texts.IDLE_STEP.now 2 × HasGaps texts.PLAIN_STEP.now 1 × HasGaps texts.BOX_WHEEL.now 3
    × HasGaps texts.BOXED_WHEEL.now 1 × Takes texts.BOXED_REFLECTOR 1 × Takes texts.RING 4
    × Takes texts.SEAT 3 × Takes texts.BOX_RING 2 × HasGaps texts.SEAT_END.now 1 × Takes texts.SEAT_FROM 5
    × Takes texts.REFLECTOR 2 × HasGaps texts.PLUG.now 2 × HasGaps texts.PIN.now 3 × HasGaps texts.LUG.now 1
    × Takes texts.LUG_FROM 1 × Takes texts.LUG_END 2 × HasGaps texts.TURN.now 1 × Takes texts.WINDOW_BOX 3 × HasGaps texts.LETTER_BOX.now 1
    × Takes texts.REFLECTOR_WORDS 1 × Takes texts.EMPTY_WORDS 1 × Takes texts.WHEEL_WORDS 2 × Takes texts.RING_WORDS 1
    × Takes texts.WINDOW_WORDS 1 × Takes texts.BAND 6 × HasGaps texts.REFLECTOR_SHOWN.now 3
    × HasGaps texts.NEW_REFLECTOR.now 3 × Takes texts.EMPTY 7 × Takes texts.WHEEL 8 × Takes texts.NEW_WHEEL 8
    × HasGaps texts.RING_SHOWN.now 4 × HasGaps texts.NEW_RING.now 6 × HasGaps texts.WINDOW.now 8
    × HasGaps texts.NEW_WINDOW.now 8 × Takes texts.BOARD 1 × HasGaps texts.CABLE_WORDS.now 3
    × HasGaps texts.LOOSE_WORDS.now 2 × HasGaps texts.LEFT_HALF.now 8 × HasGaps texts.RIGHT_HALF.now 6
    × HasGaps texts.OPEN_END.now 1 × HasGaps texts.FREE.now 5 × HasGaps texts.STAYS.now 8 × HasGaps texts.GOES_OUT.now 8
    × HasGaps texts.GOES_IN.now 8 × HasGaps texts.PLUG_ROW.now 1 × Takes texts.PINS 2 × Takes texts.PIN_WHEEL 2
    × HasGaps texts.PIN_LINES.now 1 × HasGaps texts.PIN_SHOWN.now 2 × Takes texts.DRUM 3 × HasGaps texts.BAR.now 1
    × HasGaps texts.SET_BAR.now 1 × HasGaps texts.MARKED_LUG.now 1 × HasGaps texts.AGAIN_ROTOR.now 2
    × Takes texts.FEWEST 1

-- `word` has the text `english` in English, and the text `german` in German.
abbrev pub Reads : Word → List ℕ → List ℕ → Type 0
Reads word english german = (word_text English word ≡ english) × (word_text German word ≡ german)

-- In both languages, these words are right: `ON` and `OFF` for a pin, `left lug` and `right lug`, the names of the
-- slots, such as `middle`, and `before` and `after` for a picture.
abbrev pub WordsTellWhatToDo : Type 0
WordsTellWhatToDo =
    Reads words.On (codes "ON") (codes "EIN") × Reads words.Off (codes "OFF") (codes "AUS")
    × Reads words.LeftLug (codes "left lug") (codes "linker")
    × Reads words.RightLug (codes "right lug") (codes "rechter")
    × Reads words.Left (codes "left") (codes "links") × Reads words.Middle (codes "middle") (codes "Mitte")
    × Reads words.Right (codes "right") (codes "rechts") × Reads words.Greek (codes "Greek") (codes "Griechenwalze")
    × Reads words.Before (codes "before") (codes "vorher") × Reads words.After (codes "after") (codes "nachher")
