-- The title of a page, the heads of its steps, and lists of checkboxes.
use Rattle.std.specs.Prelude.{ℕ, ◌==◌, if◌then◌else◌, List, [], ◌∷◌, ◌++◌}
use Rattle.kd_state.specs.Machine.{model_of}
use Rattle.kd_language.specs.declared.language.Language.{Language}
use Rattle.kd_page.specs.declared.spots.Step.{Step}
use Rattle.kd_pictures.specs.declared.words.Word.{Word}
use Rattle.kd_pictures.specs.declared.texts.TheConstants.{IDLE_STEP, LIST, LIST_END, PLAIN_STEP, STEP, STEP_TITLED}
use Rattle.kd_page.specs.Boxes.{boxes_at}
use Rattle.kd_page.specs.Head.{day_title}
use Rattle.kd_page.specs.Page.{Page}
use Rattle.kd_page.specs.Spots.{step_spot}
use Rattle.kd_language.specs.Template.{filled}
use Rattle.kd_pictures.specs.Template.{count_text}
use Rattle.kd_pictures.specs.Words.{word_text}

-- the title of the page; it is repeated in the heads of the page's steps
abbrev pub page_title : Page → List ℕ
page_title page = day_title page.language (model_of page.after) page.sheet page.day

unfoldable pub titled_text : Page → List ℕ
titled_text page = page_title page ++ STEP_TITLED.now

-- the head of a step with the title `title` and `count` settings
unfoldable pub step_text : Page → Word → ℕ → List ℕ
step_text page title count =
    filled STEP.now (word_text page.language title ∷ count_text page.language count ∷ []) ++ titled_text page

-- a step without settings, which has only a head
abbrev pub idle_text : Language → Word → List ℕ
idle_text l title = filled IDLE_STEP.now (word_text l title ∷ count_text l 0 ∷ [])

-- a step's head without the number of settings
unfoldable pub plain_step_text : Page → Word → List ℕ
plain_step_text page title = filled PLAIN_STEP.now (word_text page.language title ∷ []) ++ titled_text page

-- The head of a step that sets windows or letters. The step may have more checkboxes than settings. `count` is the
-- number of settings, and the head gives it if it isn't 0.
abbrev pub full_step_text : Page → Word → ℕ → List ℕ
full_step_text page title count = if count == 0 then plain_step_text page title else step_text page title count

-- the list of a step's checkboxes, and the end of the step
unfoldable pub list_text : Page → Step → List ℕ
list_text page step = LIST.now ++ boxes_at page (step_spot step) ++ LIST_END.now
