-- The templates of a part's sheet, each with the number of values that it takes.
use Rattle.std.specs.Prelude.{ℕ}
use Rattle.kd_pictures.specs.Checked.{HasGaps, Takes}
use Rattle.kd_part_sheet.specs.declared.markup.TheConstants as markup
use Rattle.kd_part_sheet.specs.declared.texts.TheConstants as texts
use Rattle.kd_part_sheet.specs.Sheet.{SheetText}

-- In both languages, each of the four versions of the template `text` has `number` signs `~`.
abbrev pub SheetTakes : SheetText → ℕ → Type 0
SheetTakes text number =
    Takes text.0.0 number × Takes text.0.1 number × Takes text.1.0 number × Takes text.1.1 number

-- Each template takes as many values as a sheet fills into it.
abbrev pub TemplatesTakeTheirValues : Type 0
TemplatesTakeTheirValues =
    SheetTakes texts.HEAD 5 × SheetTakes texts.KEY_STEP 4 × SheetTakes texts.TEXT_STEP 5 × SheetTakes texts.NEXT_STEP 4
    × Takes texts.REFLECTOR 1 × Takes texts.LIST 2 × Takes texts.WINDOW 7 × HasGaps markup.ROW_BOX.now 1
    × HasGaps markup.WINDOW_WORDS.now 3 × HasGaps markup.WHEEL_WORDS.now 2 × HasGaps markup.WHEEL.now 5
    × HasGaps markup.RING.now 2
