-- The templates of a message's pages, each with the number of values that it takes. The templates of a part's sheet are
-- in the crate `kd_part_sheet`.
use Rattle.kd_pictures.specs.Checked.{HasGaps, Takes}
use Rattle.kd_message.specs.declared.texts.TheConstants as texts

-- Each template has a gap for each value that the pages fill in.
abbrev pub TemplatesTakeTheirValues : Type 0
TemplatesTakeTheirValues =
    Takes texts.TITLE_TO_SEND 2 × Takes texts.TITLE_TO_RECEIVE 2 × Takes texts.LISTED_PART 3
    × Takes texts.LISTED_UNREAD 2 × Takes texts.TEXT_SHEET 2 × Takes texts.TEXT_PART 4 × Takes texts.ASK 1
    × Takes texts.COPIES_DIFFER 1 × Takes texts.KEY_LETTER_LOST 1 × Takes texts.FORM 2 × Takes texts.FORM_PART 7
    × Takes texts.LONE_AFTER 1 × Takes texts.NOTE_PART 2 × Takes texts.LONE_HEAD_END 2
    × Takes texts.ORDERS 3 × HasGaps texts.LISTED_ORDER.now 1 × HasGaps texts.ORDER_PAGE.now 1
    × HasGaps texts.FORM_NUMBER.now 1
