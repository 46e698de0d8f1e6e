-- Names of columns, models, wheels and reflectors in the cells of a table. Gaps are left out, and small letters mean
-- capital letters: `Enigma I`, `ENIGMA I` and `enigma-i` name one model. Any other sign belongs to the name, so `III?`
-- isn't the name of a wheel.
-- Test: tests/cases/curator-sheet.toml
use Rattle.std.specs.Prelude.{ℕ, nat_eq, nat_le, ◌-◌, ◌==◌, ◌&&◌, ◌||◌, not, Bool, false, List, [], ◌∷◌, ◌++◌, codes, length, map, filter, find}
use Rattle.std.specs.Prelude.{bytes_eq, drop, take, Option}
use Rattle.std.specs.Prelude.{if◌then◌else◌}
use Rattle.kd_tables.specs.Tables.{all_models, box_of, reflectors_of, model_text, reflector_text, wheel_text}
use Rattle.kd_tables.specs.declared.model.Model.{Model}
use Rattle.kd_tables.specs.declared.model.Model.TheVariants.{M4}
use Rattle.kd_tables.specs.declared.reflector.Reflector.{Reflector}
use Rattle.kd_tables.specs.declared.wheel.Wheel.{Wheel}

-- the capital letter for a small letter; any other byte itself
abbrev pub capital : ℕ → ℕ
capital byte = if nat_le 97 byte && nat_le byte 122 then byte - 32 else byte

abbrev pub is_digit : ℕ → Bool
is_digit byte = nat_le 48 byte && nat_le byte 57

abbrev pub is_capital_letter : ℕ → Bool
is_capital_letter byte = nat_le 65 byte && nat_le byte 90

-- Whether the byte belongs to a no-break space. A no-break space is the byte 160 in Windows-1252, and the bytes 194 and
-- 160 in UTF-8.
abbrev pub is_no_break : ℕ → Bool
is_no_break byte = nat_eq byte 160 || nat_eq byte 194

-- Whether the byte is a gap between items. Gaps are blanks, tabs, line ends and no-break spaces. Commas, hyphens, full
-- stops, slashes and semicolons are gaps, too.
abbrev pub is_gap : ℕ → Bool
is_gap byte =
    nat_eq byte 32 || nat_le 44 byte && nat_le byte 47 || nat_eq byte 59 || nat_le 9 byte && nat_le byte 13
    || is_no_break byte

-- the text in capital letters, without gaps
abbrev pub plain : List ℕ → List ℕ
plain text = filter (λ byte. not (is_gap byte)) (map capital text)

-- whether the three bytes are a typographic quote in UTF-8, single or double, for example “
abbrev pub is_quote : List ℕ → Bool
is_quote (first ∷ second ∷ third ∷ []) = first == 0xE2 && second == 0x80 && (nat_le 0x98 third && nat_le third 0x9F)
is_quote _ = false

-- the cell without the two typographic quotes around its text, if it has both
abbrev pub unquoted : List ℕ → List ℕ
unquoted cell =
    if nat_le 6 (length cell) && is_quote (take 3 cell) && is_quote (drop (length cell - 3) cell)
    then take (length cell - 6) (drop 3 cell) else cell

-- Whether the text of `cell` is `name`. Gaps, typographic quotes around the text, and capital or small letters make no
-- difference. A cell with more than 32 bytes is no name.
unfoldable pub is_named : List ℕ → List ℕ → Bool
is_named name cell = nat_le (length cell) 32 && bytes_eq (plain (unquoted cell)) (plain name)

-- the model whose name is in the cell
unfoldable pub model_named : List ℕ → Option Model
model_named cell = find (λ model. is_named (model_text model) cell) all_models

-- the wheel with the name `word`
abbrev pub wheel_named : List ℕ → Option Wheel
wheel_named word = find (λ wheel. is_named (wheel_text wheel) word) (box_of M4)

-- whether the text of the cell is the name of a reflector, alone or after `UKW` (*Umkehrwalze*)
abbrev pub names_reflector : Reflector → List ℕ → Bool
names_reflector reflector cell =
    is_named (reflector_text reflector) cell || is_named (codes "UKW" ++ reflector_text reflector) cell

-- The reflector of `model` whose name is in the cell. On an M4, the letter B means the thin reflector b.
abbrev pub reflector_named : Model → List ℕ → Option Reflector
reflector_named model cell = find (λ reflector. names_reflector reflector cell) (reflectors_of model)
