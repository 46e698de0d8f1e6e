-- The values that tables fill into templates: they have no markup, and each template gets as many values as it takes.
use Rattle.std.specs.Prelude.{ℕ, List, IsTrue}
use Rattle.std.specs.List.{list_all}
use Rattle.kd_tables.specs.Text.{letters_text}
use Rattle.kd_pictures.specs.Checked.{HasGaps, Takes}
use Rattle.kd_pictures.specs.Plain.{is_plain}
use Rattle.kd_printed_sheet.specs.declared.texts.TheConstants as texts

-- A word that consists of letters has no markup, whatever these letters are.
abbrev pub WordsArePlain : Type 0
WordsArePlain = (letters : List ℕ) → IsTrue (list_all is_plain (letters_text letters))

-- Each template has a gap for each value that the tables fill in.
abbrev pub TemplatesTakeTheirValues : Type 0
TemplatesTakeTheirValues =
    Takes texts.MONTH 1 × Takes texts.ONE_DAY 1 × Takes texts.FIRST_TO_LAST 2 × Takes texts.COLUMNS 4
    × HasGaps texts.ROW.now 2 × HasGaps texts.WHEEL.now 1 × HasGaps texts.RING.now 1 × Takes texts.KEY_LIST 2
    × HasGaps texts.BAR_BELOW_TEN.now 3 × HasGaps texts.BAR.now 3 × HasGaps texts.EFFECTIVE.now 1
