-- How a page names the file of a key sheet or of an order.
use Rattle.std.specs.Prelude.{ℕ, IsTrue, List, [], filter, unwrap_or}
use Rattle.std.specs.List.{list_all}
use Rattle.std.specs.Path.{path_file_stem}
use Rattle.kd_pictures.specs.Plain.{is_plain}

-- the name of a file, without folder and ending, and without the signs that HTML reads as markup
unfoldable pub sheet_name : List ℕ → List ℕ
sheet_name path = filter is_plain (unwrap_or (path_file_stem path) [])

-- The names of files have no markup.
abbrev pub SheetNamesArePlain : Type 0
SheetNamesArePlain = (path : List ℕ) → IsTrue (list_all is_plain (sheet_name path))
