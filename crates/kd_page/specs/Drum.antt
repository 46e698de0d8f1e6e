-- The table of a Converter's bars, with marks for the lugs that stay, leave a place, or come to a place. The table has
-- checkboxes for the lugs to move.
use Rattle.std.specs.Prelude.{decimal, ℕ, ◌==◌, Bool, true, false, ◌&&◌, ◌||◌, if◌then◌else◌, List, [], ◌∷◌, ◌++◌}
use Rattle.std.specs.Prelude.{flat_map}
use Rattle.std.specs.Prelude.{Option, Some, None}
use Rattle.kd_tables.specs.declared.place.Place.{Place}
use Rattle.kd_tables.specs.Places.{places}
use Rattle.kd_state.specs.Machine.{machine_standing}
use Rattle.kd_state.specs.Setting.{is_same_place}
use Rattle.kd_pictures.specs.declared.numbers.TheConstants.{BARS}
use Rattle.kd_page.specs.declared.spots.Step.TheVariants.{Lugs}
use Rattle.kd_language.specs.declared.language.Language.{Language}
use Rattle.kd_pictures.specs.declared.words.Mark.{Mark}
use Rattle.kd_pictures.specs.declared.words.Mark.TheVariants.{LugComes, LugLeaves, LugStays}
use Rattle.kd_pictures.specs.declared.words.Word.TheVariants as words
use Rattle.kd_pictures.specs.declared.texts.TheConstants as texts
use Rattle.kd_language.specs.Language.{text_in}
use Rattle.kd_page.specs.Boxes.{boxes_at}
use Rattle.kd_page.specs.Page.{Page}
use Rattle.kd_page.specs.Spots.{count_at, row_spot, step_spot}
use Rattle.kd_page.specs.Steps.{step_text}
use Rattle.kd_language.specs.Template.{filled}
use Rattle.kd_pictures.specs.Words.{mark_text}

abbrev pub has_lug : Place × Place → Place → Bool
has_lug bar place = is_same_place bar.0 place || is_same_place bar.1 place

-- The mark of a place on a bar: a lug stays there, leaves, or comes. No mark if the place has no lug before and none
-- after the settings. The arguments say whether it has a lug before the settings, and whether it has one after them.
abbrev pub cell_mark : Bool → Bool → Option Mark
cell_mark true true = Some LugStays
cell_mark true false = Some LugLeaves
cell_mark false true = Some LugComes
cell_mark false false = None

abbrev pub marked_cell : Option Mark → List ℕ
marked_cell None = texts.NO_LUG.now
marked_cell (Some mark) = filled texts.MARKED_LUG.now (mark_text mark ∷ [])

unfoldable pub lug_cell : Place × Place → Place × Place → Place → List ℕ
lug_cell was is place = marked_cell (cell_mark (has_lug was place) (has_lug is place))

abbrev pub is_same_standing : Place × Place → Place × Place → Bool
is_same_standing was is = is_same_place was.0 is.0 && is_same_place was.1 is.1

-- the number of a bar, in bold if its lugs change
abbrev pub bar_head : ℕ → Place × Place → Place × Place → List ℕ
bar_head bar was is =
    filled (if is_same_standing was is then texts.BAR.now else texts.SET_BAR.now) (decimal bar ∷ [])

-- The end of a bar's row after `count` checkboxes: empty cells, so that each row has two cells for checkboxes.
abbrev pub bar_end : ℕ → List ℕ
bar_end count = if count == 0 then texts.NO_BOXES.now else if count == 1 then texts.ONE_BOX.now else texts.BOXES.now

-- The row of bar `bar`. Its lugs are at the places `was` before the settings, and at the places `is` after the
-- settings.
abbrev pub bar_item : Page → ℕ → Place × Place → Place × Place → List ℕ
bar_item page bar was is =
    bar_head bar was is ++ flat_map (lug_cell was is) places ++ boxes_at page (row_spot Lugs bar)
    ++ bar_end (count_at (row_spot Lugs bar) page.settings)

abbrev pub bar_row : Page → ℕ → Option (Place × Place) → Option (Place × Place) → List ℕ
bar_row page bar (Some was) (Some is) = bar_item page bar was is
bar_row page bar (Some was) None = []
bar_row page bar None is = []

-- the meaning of the marks, and the head of the table
unfoldable pub drum_head : Language → List ℕ
drum_head l =
    filled (text_in l texts.DRUM) (mark_text LugStays ∷ mark_text LugLeaves ∷ mark_text LugComes ∷ [])

unfoldable pub lugs_step : Page → List ℕ
lugs_step page =
    step_text page words.Lugs (count_at (step_spot Lugs) page.settings) ++ drum_head page.language
    ++ flat_map (λ bar. bar_row page bar (machine_standing page.before bar) (machine_standing page.after bar)) BARS
    ++ texts.DRUM_END.now
