-- The language of the program's words: from a locale, or from the option `--in`.
-- Test: tests/page-refusals
use Rattle.std.specs.Prelude.{bytes_eq, codes, drop, find, ℕ, nat_eq, List, [], ◌∷◌, Option, None, Some, if◌then◌else◌}
use Rattle.std.specs.Prelude.{option_and_then, slice_get, unwrap_or}
use Rattle.std.specs.List.{starts_with}
use Rattle.kd_language.specs.declared.language.Language.{Language}
use Rattle.kd_language.specs.declared.language.Language.TheVariants.{English, German}

-- The language for a locale, for example `de_DE.UTF-8`. If the locale begins with `de`, the language is German,
-- otherwise English.
unfoldable pub language_of : List ℕ → Language
language_of locale = if starts_with nat_eq locale (codes "de") then German else English

-- the code of a language, which is the value of the option `--in`
abbrev pub language_code : Language → List ℕ
language_code English = codes "en"
language_code German = codes "de"

-- the language that has the code `code`; `None` if no language has this code
unfoldable pub language_with_code : List ℕ → Option Language
language_with_code code = find (λ language. bytes_eq (language_code language) code) (English ∷ German ∷ [])

-- The value of the first option `--in` in `words`: both `--in de` and `--in=de` have the value `de`. After a word `--`,
-- no word is an option. `None` if there is no value.
abbrev pub language_value : List (List ℕ) → Option (List ℕ)
language_value [] = None
language_value (word ∷ words) =
    if bytes_eq word (codes "--") then None
    else if bytes_eq word (codes "--in") then slice_get words 0
    else if starts_with nat_eq word (codes "--in=") then Some (drop 5 word)
    else language_value words

-- The language of what is written before a command is known: help, errors or a refusal. If the first option `--in` in
-- `words` has a language's code as its value, the result is this language. Otherwise, the result is `language`.
unfoldable pub language_without_command : Language → List (List ℕ) → Language
language_without_command language words =
    unwrap_or (option_and_then language_with_code (language_value words)) language
