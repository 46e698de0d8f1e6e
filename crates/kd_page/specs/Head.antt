-- The head and the foot of a file with the pages of one or more days, in language `l`.
use Rattle.std.specs.Prelude.{decimal, ℕ, List, [], ◌∷◌, ◌++◌, flat_map}
use Rattle.kd_tables.specs.declared.model.Model.{Model}
use Rattle.kd_language.specs.declared.language.Language.{Language}
use Rattle.kd_pictures.specs.FileHead.{file_head}
use Rattle.kd_language.specs.Language.{text_in}
use Rattle.kd_pictures.specs.SheetName.{sheet_name}
use Rattle.kd_language.specs.Template.{filled}
use Rattle.kd_pictures.specs.Template.{count_text}
use Rattle.kd_pictures.specs.Words.{model_name}
use Rattle.kd_page.specs.declared.head.ListedDay.{ListedDay}
use Rattle.kd_pictures.specs.declared.texts.TheConstants.{BODY, FOOT, NAV, NAV_DAY, NAV_END, NAV_LIST, STYLE}
use Rattle.kd_pictures.specs.declared.texts.TheConstants.{TITLE_DAY, TITLE_DAYS}

-- the last day in the list; `day` if the list is empty
abbrev pub last_of : ListedDay → List ListedDay → ListedDay
last_of day [] = day
last_of day (next ∷ days) = last_of next days

-- the title of a day: the model, the day, and the name of the key sheet
unfoldable pub day_title : Language → Model → List ℕ → ℕ → List ℕ
day_title l model sheet day =
    filled (text_in l TITLE_DAY) (model_name model ∷ decimal day ∷ []) ++ sheet_name sheet

-- the title of several days: the model, the first day, the last day, and the name of the key sheet
unfoldable pub days_title : Language → Model → List ℕ → ℕ → ℕ → List ℕ
days_title l model sheet first last =
    filled (text_in l TITLE_DAYS) (model_name model ∷ decimal first ∷ decimal last ∷ []) ++ sheet_name sheet

-- the title of a file with the day `first` and the later days in the list
abbrev pub title_text : Language → Model → List ℕ → ListedDay → List ListedDay → List ℕ
title_text l model sheet first [] = day_title l model sheet first.day
title_text l model sheet first (next ∷ days) = days_title l model sheet first.day (last_of next days).day

unfoldable pub listed_text : Language → ListedDay → List ℕ
listed_text l day = filled (text_in l NAV_DAY) (decimal day.day ∷ decimal day.day ∷ count_text l day.settings ∷ [])

-- the list of the days; the file's title stands above it
unfoldable pub list_of_days : Language → Model → List ℕ → ListedDay → List ListedDay → List ℕ
list_of_days l model sheet first others =
    text_in l NAV ++ title_text l model sheet first others ++ NAV_LIST.now ++ listed_text l first
    ++ flat_map (listed_text l) others ++ NAV_END.now

-- the list of the days; empty if there is only one day
abbrev pub nav_text : Language → Model → List ℕ → ListedDay → List ListedDay → List ℕ
nav_text l model sheet first [] = []
nav_text l model sheet first (next ∷ days) = list_of_days l model sheet first (next ∷ days)

-- the head of a file with the days `first` and `days`: all that stands before the first page
unfoldable pub head_text : Language → Model → List ℕ → ListedDay → List ListedDay → List ℕ
head_text l model sheet first days =
    file_head l ++ title_text l model sheet first days ++ STYLE.now ++ BODY.now ++ nav_text l model sheet first days

-- the whole file: its head, the pages of the days, and its foot
unfoldable pub file_text : Language → Model → List ℕ → ListedDay → List ListedDay → List ℕ → List ℕ
file_text l model sheet first days pages = head_text l model sheet first days ++ pages ++ FOOT.now
