-- The beginning of a file with pages, up to its title.
use Rattle.std.specs.Prelude.{ℕ, List, [], ◌∷◌}
use Rattle.kd_language.specs.declared.language.Language.{Language}
use Rattle.kd_pictures.specs.declared.texts.TheConstants.{HEAD}
use Rattle.kd_pictures.specs.declared.words.Word.TheVariants as words
use Rattle.kd_language.specs.Template.{filled}
use Rattle.kd_pictures.specs.Words.{word_text}

-- the beginning of a file in the language `l`, with the code of the language
unfoldable pub file_head : Language → List ℕ
file_head l = filled HEAD.now (word_text l words.Language ∷ [])
