-- The words that say which parts of a form aren't of one message, and how they differ.
-- Test: tests/cases/curator-messages.toml
use Rattle.std.specs.Prelude.{decimal, ℕ, List, [], ◌∷◌, ◌++◌, Option, Some, None}
use Rattle.kd_lost.specs.Clash.{clash_of}
use Rattle.kd_lost.specs.declared.clash.{Clash.{Clash}, Difference.{Difference}}
use Rattle.kd_lost.specs.declared.clash.Difference.TheVariants as differences
use Rattle.kd_lost.specs.declared.part.{DamagedPart.{DamagedPart}, PartNumbers.{PartNumbers}}
use Rattle.kd_language.specs.declared.language.Language.{Language}
use Rattle.kd_language.specs.Language.{text_in}
use Rattle.kd_message.specs.declared.texts.TheConstants as texts
use Rattle.kd_part_sheet.specs.declared.markup.TheConstants.{COMMA}

unfoldable pub group_differs : Language → ℕ → List ℕ
group_differs l group = text_in l texts.GROUP_DIFFERS ++ decimal group

abbrev pub difference_words : Language → Difference → List ℕ
difference_words l differences.Totals = text_in l texts.TOTALS_DIFFER
difference_words l (differences.Group group) = group_differs l group
difference_words l differences.Keys = text_in l texts.KEYS_DIFFER
difference_words l differences.Day = text_in l texts.DAY_DIFFERS
difference_words l differences.Length = text_in l texts.LENGTH_DIFFERS
difference_words l differences.Letters = text_in l texts.LETTERS_LACK

-- on which lines of the form the two parts begin, and how they differ
unfoldable pub clash_words : Language → Clash → List ℕ
clash_words l clash =
    text_in l texts.LINES ++ decimal clash.line ++ text_in l texts.AND_LINE ++ decimal clash.other_line
    ++ difference_words l clash.difference

-- the note that two parts aren't of one message
unfoldable pub clash_note : Language → Clash → List ℕ
clash_note l clash = text_in l texts.NOTE_SEVERAL ++ clash_words l clash ++ texts.NOTE_END.now

-- the note that the parts aren't of one message; empty if the parts are of one message
abbrev pub several_note_of : Language → Option Clash → List ℕ
several_note_of l (Some clash) = clash_note l clash
several_note_of l None = []

abbrev pub several_note : Language → List DamagedPart → List ℕ
several_note l parts = several_note_of l (clash_of parts)

-- the two numbers in a heading: the part's number, and the number of parts
unfoldable pub heading_words : PartNumbers → List ℕ
heading_words numbers = decimal numbers.part ++ texts.OF_PARTS.now ++ decimal numbers.parts

-- The numbers in a heading, after the text `first` and before the text `more`. If the heading is damaged, only the text
-- `others`.
abbrev pub heading_then : List ℕ → Option PartNumbers → List ℕ → List ℕ → List ℕ
heading_then first (Some numbers) more others = first ++ heading_words numbers ++ more
heading_then first None more others = others

-- The numbers in the undamaged headings. `first` stands before the numbers of the first heading, and a comma before the
-- numbers of each later heading.
abbrev pub headings_after : List ℕ → List DamagedPart → List ℕ
headings_after first [] = []
headings_after first (part ∷ parts) =
    heading_then first part.numbers (headings_after COMMA.now parts) (headings_after first parts)

-- the page's paragraph that two parts aren't of one message, with the numbers from the undamaged headings of all parts
unfoldable pub clash_paragraph : Language → List DamagedPart → Clash → List ℕ
clash_paragraph l parts clash =
    text_in l texts.SEVERAL ++ clash_words l clash ++ text_in l texts.SEVERAL_HEADINGS ++ headings_after [] parts
    ++ text_in l texts.SEVERAL_END
