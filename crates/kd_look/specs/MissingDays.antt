-- The warnings about machines for which no key sheet has a day.
-- Test: tests/cases/curator-look.toml
use Rattle.std.specs.Prelude.{ℕ, Bool, false, List, [], ◌∷◌, flat_map, Option, Some, None, if◌then◌else◌}
use Rattle.std.specs.List.{list_any}
use Rattle.std.specs.Option.{option_map_or}
use Rattle.kd_tables.specs.declared.model.Model.{Model}
use Rattle.kd_tables.specs.declared.model.Model.TheVariants.{EnigmaI, M3, M4, M209}
use Rattle.kd_state.specs.Machine.{model_of}
use Rattle.kd_sheet.specs.Sheet.{has_days_of}
use Rattle.kd_language.specs.Language.{text_in}
use Rattle.kd_language.specs.declared.language.Language.{Language}
use Rattle.kd_language.specs.Template.{filled}
use Rattle.kd_slips.specs.declared.texts.TheConstants.{AN_ENIGMA_I, AN_M3, AN_M4}
use Rattle.kd_look.specs.Groups.{KnownMessage}
use Rattle.kd_look.specs.declared.file.File.{File}
use Rattle.kd_look.specs.declared.file.File.TheVariants as files
use Rattle.kd_look.specs.declared.missing_days.ReadFile.{ReadFile}
use Rattle.kd_look.specs.declared.texts.TheConstants as texts

-- A file's name and content. For a machine file or a key sheet, the content is `file`; for an order or a form, it is
-- `message`. Both are `None` if the file has a fault.
pub record KnownFile : Type 0 where
  pub name : List ℕ
  pub file : Option File
  pub message : Option KnownMessage

abbrev pub model_in : Option File → Option Model
model_in (Some (files.Machine machine)) = Some (model_of machine)
model_in (Some (files.Sheet month)) = None
model_in None = None

-- the machine's model; `None` if the file isn't a machine file
abbrev pub machine_model : KnownFile → Option Model
machine_model read = model_in read.file

abbrev pub has_day_in : Model → Option File → Bool
has_day_in model (Some (files.Sheet month)) = has_days_of model month
has_day_in model (Some (files.Machine machine)) = false
has_day_in model None = false

-- whether the file is a key sheet that has a day for the model
abbrev pub serves : Model → KnownFile → Bool
serves model read = has_day_in model read.file

-- If the file is a key sheet, `words`. Otherwise nothing.
abbrev pub words_for : Option File → List ℕ → List ℕ
words_for (Some (files.Sheet month)) words = words
words_for (Some (files.Machine machine)) words = []
words_for None words = []

-- the model's name with an article, as in `for an M4`; the German words are in the accusative
abbrev pub model_after_for : Language → Model → List ℕ
model_after_for l EnigmaI = text_in l AN_ENIGMA_I
model_after_for l M3 = text_in l AN_M3
model_after_for l M4 = text_in l AN_M4
model_after_for l M209 = text_in l texts.CONVERTER

-- the warning that the key sheet `sheet` has no day for the machine in the file `name`; `model` is the machine's model
-- in words
abbrev pub no_day_words : Language → List ℕ → List ℕ → List ℕ → List ℕ
no_day_words l name sheet model = filled (text_in l texts.NO_DAY) (name ∷ sheet ∷ model ∷ [])

-- the warning that a key sheet has no day for the machine; empty if the file isn't a key sheet
abbrev pub no_day_line : Language → List ℕ → Model → KnownFile → List ℕ
no_day_line l name model sheet = words_for sheet.file (no_day_words l name sheet.name (model_after_for l model))

-- The warnings about a machine file, one for each key sheet. Empty if some key sheet has a day for the machine, or if
-- the file isn't a machine file.
abbrev pub missing_lines : Language → List KnownFile → KnownFile → List ℕ
missing_lines l all read = option_map_or
    (λ model. if list_any (serves model) all then [] else flat_map (no_day_line l read.name model) all)
    (machine_model read) []

-- the warnings about all machine files
abbrev pub missing_words : Language → List KnownFile → List ℕ
missing_words l all = flat_map (missing_lines l all) all

-- ---- Files that were read. No public contract cites this definition.

-- a file that was read, with a plain name in place of a borrowed name
abbrev pub known_of : ReadFile → KnownFile
known_of read = record { name = read.name.now; file = read.file; message = read.message }
