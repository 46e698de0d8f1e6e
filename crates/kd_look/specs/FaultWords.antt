-- The lines that name a file's faults. A line has the file's name, the place, what is wrong, and the fault's number and
-- name.
-- Test: tests/cases/curator-look.toml
use Rattle.std.specs.Prelude.{codes, ◌≡◌, ℕ, ◌++◌, List, [], ◌∷◌, Option, Some}
use Rattle.std.specs.Option.{option_map_or}
use Rattle.toml.specs.Data.{Members}
use Rattle.kd_language.specs.Language.{text_in}
use Rattle.kd_language.specs.declared.language.Language.{Language}
use Rattle.kd_sheet.specs.FaultText.{sheet_fault_text}
use Rattle.kd_sheet.specs.Key.{key_name}
use Rattle.kd_sheet.specs.declared.fault.SheetFault.{SheetFault}
use Rattle.kd_findings.specs.Faults.{first_fault}
use Rattle.kd_findings.specs.NotToml.{SaysNotToml}
use Rattle.kd_findings.specs.SheetFaults.{AreFaults}
use Rattle.kd_findings.specs.Texts.{BeginsWith, IsInOneLine, entry_words, titled}
use Rattle.kd_findings.specs.declared.key_place.KeyPlace.{KeyPlace}
use Rattle.kd_findings.specs.declared.texts.TheConstants.{LINE}
use Rattle.kd_look.specs.Line.{line_of_fault}
use Rattle.kd_look.specs.Warnings.{AreKeyWarnings, mark_words}

-- the end of a fault's line: the fault's number and name in parentheses
abbrev pub fault_end : SheetFault → List ℕ
fault_end fault = codes " (" ++ sheet_fault_text fault ++ codes ")\n"

-- the words for a line's number; empty if the number isn't known
unfoldable pub line_words : Language → Option ℕ → List ℕ
line_words l line = option_map_or (titled (text_in l LINE)) line []

-- the report's line about a fault; `wrong` says what is wrong
unfoldable pub fault_line : Language → List ℕ → KeyPlace → Option ℕ → List ℕ → SheetFault → List ℕ
fault_line l name place line wrong fault =
    name ++ entry_words l place.day place.entry ++ line_words l line ++ codes ", " ++ key_name place.key ++ wrong
    ++ fault_end fault

-- The text is the report's line about `fault` at `place` in the file `name`. `line` is the number of the file's line in
-- which the fault stands, if it is known. `wrong` says what is wrong, in words without a line end.
pub record IsLineAt (l : Language) (name : List ℕ) (place : KeyPlace) (line : Option ℕ) (fault : SheetFault)
    (text : List ℕ) : Type 0 where
  pub wrong : List ℕ
  pub plain : IsInOneLine wrong
  pub whole : text ≡ fault_line l name place line wrong fault

-- `text` is the report's line about `fault` at `place` in the file `name`. `bytes` is the file's content. If the
-- fault's line can be found in `bytes`, `text` gives this line's number.
abbrev pub IsFaultLine : Language → List ℕ → List ℕ → KeyPlace → SheetFault → List ℕ → Type 0
IsFaultLine l name bytes place fault text = IsLineAt l name place (line_of_fault bytes place fault) fault text

-- The text has a line for each fault in the list, in the order of the list.
abbrev pub AreFaultLines : Language → List ℕ → List ℕ → List (KeyPlace × SheetFault) → List ℕ → Type 0
AreFaultLines l name bytes [] text = text ≡ []
AreFaultLines l name bytes (found ∷ rest) text = BeginsWith (IsFaultLine l name bytes found.0 found.1)
    (λ others. AreFaultLines l name bytes rest others) text

-- The text has a line for each of the document's faults. `fault` is the first of these faults.
pub record AreLinesFor (l : Language) (name bytes : List ℕ) (document : Members) (fault : SheetFault)
    (text : List ℕ) : Type 0 where
  pub found : List (KeyPlace × SheetFault)
  pub are : AreFaults document found
  pub first : first_fault found ≡ Some fault
  pub lines : AreFaultLines l name bytes found text

-- The text is the line about a file that isn't TOML. It has the file's name, a place in the file, what is wrong there,
-- and the fault's number and name.
pub record IsPlainLine (l : Language) (name bytes : List ℕ) (fault : SheetFault) (text : List ℕ) : Type 0 where
  pub words : List ℕ
  pub place : SaysNotToml l bytes words
  pub whole : text ≡ name ++ words ++ fault_end fault

-- The text has the line about a file that isn't TOML, and then the warning about a byte order mark.
pub record SaysPlainly (l : Language) (name bytes : List ℕ) (fault : SheetFault) (text : List ℕ) : Type 0 where
  pub line : List ℕ
  pub is : IsPlainLine l name bytes fault line
  pub whole : text ≡ line ++ mark_words l name bytes

-- The text has the lines about a document's faults, and then the warnings about the document's keys. `fault` is the
-- first of the faults.
pub record NamesFault (l : Language) (name bytes : List ℕ) (document : Members) (fault : SheetFault)
    (text : List ℕ) : Type 0 where
  pub lines : List ℕ
  pub warnings : List ℕ
  pub are : AreLinesFor l name bytes document fault lines
  pub warn : AreKeyWarnings l name bytes document warnings
  pub whole : text ≡ lines ++ warnings
