-- The text of a day's page.
use Rattle.std.specs.Prelude.{decimal, ℕ, ◌==◌, if◌then◌else◌, List, [], ◌∷◌, ◌++◌, length}
use Rattle.kd_state.specs.Machine.{model_of}
use Rattle.kd_language.specs.declared.language.Language.{Language}
use Rattle.kd_pictures.specs.declared.words.Mark.TheVariants.{LugLeaves, LugStays}
use Rattle.kd_pictures.specs.declared.texts.TheConstants as texts
use Rattle.kd_language.specs.Language.{text_in}
use Rattle.kd_page.specs.Drum.{lugs_step}
use Rattle.kd_page.specs.Page.{Page}
use Rattle.kd_page.specs.Pins.{pins_step}
use Rattle.kd_page.specs.PlugSteps.{in_step, out_step}
use Rattle.kd_language.specs.Template.{filled}
use Rattle.kd_pictures.specs.Template.{count_text}
use Rattle.kd_page.specs.Steps.{page_title}
use Rattle.kd_page.specs.Test.{test_step}
use Rattle.kd_pictures.specs.Wheels.{both_bands, one_band}
use Rattle.kd_page.specs.WheelSteps.{rings_in_box, rings_step, seats_step}
use Rattle.kd_page.specs.Windows.{letters_step, windows_step}
use Rattle.kd_pictures.specs.Words.{is_converter, mark_text}

-- the head of a day's page: the page's title, and the number of settings
unfoldable pub day_head : Page → List ℕ
day_head page =
    filled texts.DAY.now (decimal page.day ∷ []) ++ page_title page
    ++ filled (text_in page.language texts.DAY_TITLED) (count_text page.language (length page.settings) ∷ [])

-- The pictures of a rotor machine's wheels before and after the settings, with words that say what to compare. If there
-- are no settings, there is one picture.
abbrev pub wheels_text : Page → List ℕ
wheels_text page =
    if length page.settings == 0 then one_band page.language page.after
    else both_bands page.language page.before page.after

-- a rotor machine's page between its head and its test: the pictures, the rings of the wheels in the box, and the steps
unfoldable pub rotor_text : Page → List ℕ
rotor_text page =
    wheels_text page ++ rings_in_box page (text_in page.language texts.BOX_BEFORE) page.before
    ++ rings_step page ++ seats_step page ++ out_step page ++ in_step page ++ windows_step page

-- The words that say what to compare on a Converter before the first step. The words have two marks: the mark of a lug
-- that stays, and the mark of a lug that leaves.
unfoldable pub compare_pins : Language → List ℕ
compare_pins l = filled (text_in l texts.COMPARE_PIN) (mark_text LugStays ∷ mark_text LugLeaves ∷ [])

unfoldable pub pin_text : Page → List ℕ
pin_text page = compare_pins page.language ++ pins_step page ++ lugs_step page ++ letters_step page

abbrev pub steps_text : Page → List ℕ
steps_text page = if is_converter (model_of page.after) then pin_text page else rotor_text page

-- The text of a day's page: its head, the steps, and the test. In the steps, each setting has a checkbox. Pictures show
-- the machine before and after the settings.
unfoldable pub day_text : Page → List ℕ
day_text page = day_head page ++ steps_text page ++ test_step page ++ texts.DAY_END.now
