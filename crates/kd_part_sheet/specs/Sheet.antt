-- The texts of a part's sheet. Each text has a version for each of the four sheets, in English and in German.
use Rattle.std.specs.Prelude.{ℕ, Bool, true, false, List}
use Rattle.kd_language.specs.declared.language.Language.{Language}
use Rattle.kd_language.specs.Language.{text_in}
use Rattle.kd_part_sheet.specs.declared.sheet.Sheet.{Sheet}
use Rattle.kd_part_sheet.specs.declared.sheet.Sheet.TheVariants.{PinReceive, PinSend, RotorReceive, RotorSend}

-- a text in English and in German, as in the source file `texts.rt`
abbrev pub Text : Type 0
Text = record { now : List ℕ } × record { now : List ℕ }

-- The four versions of a text. The first two are for a sent part: on a rotor machine, and on a Converter. The other two
-- are for a received part.
abbrev pub SheetText : Type 0
SheetText = (Text × Text) × (Text × Text)

abbrev pub for_sheet : Sheet → List ℕ → List ℕ → List ℕ → List ℕ → List ℕ
for_sheet RotorSend one two three four = one
for_sheet PinSend one two three four = two
for_sheet RotorReceive one two three four = three
for_sheet PinReceive one two three four = four

-- Whether the order gives the letters to set in the windows before the text. This is so only on the sheet for sending
-- on a rotor machine, where these letters are the message key. On other sheets, the first step finds these letters.
abbrev pub has_given_start : Sheet → Bool
has_given_start RotorSend = true
has_given_start PinSend = false
has_given_start RotorReceive = false
has_given_start PinReceive = false

-- the version of `text` for the sheet `sheet`, in the language `l`
abbrev pub sheet_text : Language → Sheet → SheetText → List ℕ
sheet_text l sheet text =
    for_sheet sheet (text_in l text.0.0) (text_in l text.0.1) (text_in l text.1.0) (text_in l text.1.1)
