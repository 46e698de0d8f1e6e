-- The whole file of the pages.
use Rattle.std.proofs.Common.{◌≡◌, ℕ, List, ◌∷◌, refl}
use Rattle.kd_tables.specs.declared.model.Model.{Model}
use Rattle.kd_language.specs.declared.language.Language.{Language}
unfoldable use Rattle.kd_pictures.specs.FileHead.{file_head}
unfoldable use Rattle.kd_language.specs.Template.{filled}
use Rattle.kd_page.specs.declared.head.ListedDay.{ListedDay}
unfoldable use Rattle.kd_page.specs.Head.{file_text, head_text}

-- A file isn't empty: it begins with `<`.
pub file_begins : (l : Language) (model : Model) (sheet : List ℕ) (first : ListedDay) (others : List ListedDay)
    (pages : List ℕ) → (rest : List ℕ) × (file_text l model sheet first others pages ≡ 60 ∷ rest)
unfolding file_text head_text file_head filled
file_begins l model sheet first others pages = (_, refl)
