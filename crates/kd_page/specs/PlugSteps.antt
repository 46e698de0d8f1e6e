-- The two steps at the plugboard: the plugs to take out, and the plugs to put in. A picture stands beside each table.
use Rattle.std.specs.Prelude.{decimal, ℕ, ◌==◌, if◌then◌else◌, List, [], ◌∷◌, ◌++◌, flat_map}
use Rattle.kd_pictures.specs.declared.board.Plugs.TheVariants.{In, Out}
use Rattle.kd_pictures.specs.declared.numbers.TheConstants.{CABLES}
use Rattle.kd_page.specs.declared.spots.Step.{Step}
use Rattle.kd_page.specs.declared.spots.Step.TheVariants.{PlugsIn, PlugsOut}
use Rattle.kd_pictures.specs.declared.words.Word.TheVariants as words
use Rattle.kd_pictures.specs.declared.texts.TheConstants as texts
use Rattle.kd_pictures.specs.Board.{board_text, has_cables}
use Rattle.kd_language.specs.Language.{text_in}
use Rattle.kd_page.specs.Boxes.{boxes_at}
use Rattle.kd_page.specs.Page.{Page}
use Rattle.kd_page.specs.Spots.{count_at, row_spot, step_spot}
use Rattle.kd_page.specs.Steps.{idle_text, step_text}
use Rattle.kd_language.specs.Template.{filled}

-- the row of a cable, with the checkboxes for its plugs
abbrev pub moving_row : Page → Step → ℕ → List ℕ
moving_row page step number =
    filled texts.PLUG_ROW.now (decimal number ∷ []) ++ boxes_at page (row_spot step number) ++ texts.ROW_END.now

-- the row of a cable; empty if no plug of the cable moves in `step`
abbrev pub plug_row : Page → Step → ℕ → List ℕ
plug_row page step number =
    if count_at (row_spot step number) page.settings == 0 then [] else moving_row page step number

-- The table of the plugs to move in `step`. First comes `head`: the meaning of the marks, and the table's head. Then
-- comes a row for each cable with a plug to move.
unfoldable pub plug_table : Page → List ℕ → Step → List ℕ
plug_table page head step = head ++ flat_map (plug_row page step) CABLES ++ texts.PLUGS_END.now

unfoldable pub plugs_out : Page → ℕ → List ℕ
plugs_out page count =
    step_text page words.PlugsOut count ++ board_text page.language Out page.before page.after
    ++ plug_table page (text_in page.language texts.PLUGS_OUT) PlugsOut ++ texts.BOARD_STEP_END.now

-- the step in which plugs are taken out; only its head if there are no plugs to take out
abbrev pub out_step : Page → List ℕ
out_step page =
    let count = count_at (step_spot PlugsOut) page.settings in
    if count == 0 then idle_text page.language words.PlugsOut else plugs_out page count

-- The caption with the meaning of the marks. If there are plugs to put in, the table of these plugs follows.
abbrev pub in_table : Page → ℕ → List ℕ
in_table page count =
    if count == 0 then text_in page.language texts.CAPTION_SAME
    else plug_table page (text_in page.language texts.PLUGS_IN) PlugsIn

unfoldable pub plugs_in : Page → ℕ → List ℕ
plugs_in page count =
    step_text page words.PlugsIn count ++ board_text page.language In page.after page.before ++ in_table page count
    ++ texts.BOARD_STEP_END.now

-- the step in which plugs are put in; only its head if no cable has a plug after the settings
abbrev pub in_step : Page → List ℕ
in_step page =
    if has_cables page.after CABLES then plugs_in page (count_at (step_spot PlugsIn) page.settings)
    else idle_text page.language words.PlugsIn
