-- This crate's laws about damaged parts, their ciphers, and forms of one message.
use Rattle.std.specs.Prelude.{◌≡◌, ℕ, false, List, [], ◌∷◌, ◌++◌, All, IsTrue, true, map, slice_get, Option, Some, None}
use Rattle.std.specs.Prelude.{Result, Ok}
use Rattle.std.specs.List.{Contains}
use Rattle.kd_state.specs.SheetDay.{Day}
use Rattle.kd_state.specs.EngineKey.{EngineKey, cipher}
use Rattle.kd_form.specs.FormParts.{parts_of}
use Rattle.kd_form.specs.FormText.{IsTextOf}
use Rattle.kd_form.specs.PartReading.{IsPartAnswer, PartStart, ReadPart}
use Rattle.kd_form.specs.Sending.{space_letter}
use Rattle.kd_lost.specs.declared.damage.PartDamage.{PartDamage}
use Rattle.kd_lost.specs.declared.damaged_text.{DamagedText.{DamagedText}, LostCopies.{LostCopies}}
use Rattle.kd_lost.specs.declared.damaged_text.GroupTest.TheVariants as tests
use Rattle.kd_lost.specs.declared.part.{DamagedPart.{DamagedPart}, PartNumbers.{PartNumbers}}
use Rattle.kd_lost.specs.DamagedForm.{AreReadOf, damaged_parts_of, form_parts, shown_byte}
use Rattle.kd_lost.specs.DamagedForm.{shown_letters}
use Rattle.kd_lost.specs.DamagedPart.{AreNumbersRead, IsDamagedTextAnswer, first_line}
use Rattle.kd_lost.specs.OneMessage.{are_of_one_message, bodies_agree}
use Rattle.kd_lost.specs.Tidy.{tidied}

-- Two texts are enciphered with one key. Wherever the texts have the same letter, their ciphertexts have the same
-- letter. The texts may differ at all other places.
abbrev pub CiphersAgreeWhereTextsDo : Type 0
CiphersAgreeWhereTextsDo =
    (key : EngineKey) (text other : List ℕ) (place : ℕ) → slice_get text place ≡ slice_get other place
    → slice_get (cipher key text) place ≡ slice_get (cipher key other) place

-- No letter of the Converter's indicators is lost.
abbrev pub AreWholeCopies : Option LostCopies → Type 0
AreWholeCopies None = Unit {0}
AreWholeCopies (Some lost) = (lost.at_start ≡ false) × (lost.at_end ≡ false)

-- The text `text` is shown whole, letter by letter, and without a warning.
pub record IsShownWhole (text : List ℕ) (shown : DamagedText) : Type 0 where
  pub letters : shown.letters.items ≡ map Some text
  pub group : shown.group ≡ tests.Right
  pub copies : AreWholeCopies shown.copies

-- If `receive` reads a part, this crate shows the part's whole text, without a warning.
abbrev pub PartsReadAreShownWhole : Type 0
PartsReadAreShownWhole =
    (s : Day) (p : PartStart) (part : List ℕ) (read : ReadPart) (answer : Result DamagedText PartDamage)
    → IsPartAnswer s p part (Ok read) → IsDamagedTextAnswer s part answer
    → (shown : DamagedText) × (answer ≡ Ok shown) × IsShownWhole read.letters shown

-- If `receive` reads a part, this crate finds the part's number, and the number of parts.
abbrev pub PartsReadHaveNumbers : Type 0
PartsReadHaveNumbers =
    (s : Day) (p : PartStart) (part : List ℕ) (read : ReadPart) (found : Option PartNumbers)
    → IsPartAnswer s p part (Ok read) → AreNumbersRead s (first_line part) found
    → (numbers : PartNumbers) × (found ≡ Some numbers) × (numbers.part ≡ p.number) × (numbers.parts ≡ read.parts)

-- If `receive` reads a form, this crate cuts the form into the parts that `receive` finds.
abbrev pub FormsReadHaveTheirParts : Type 0
FormsReadHaveTheirParts =
    (s : Day) (form text : List ℕ) → IsTextOf s form text → form_parts form ≡ parts_of form

-- If `receive` reads a form, this crate drops nothing before the form's first heading.
abbrev pub FormsReadAreTidy : Type 0
FormsReadAreTidy = (s : Day) (form text : List ℕ) → IsTextOf s form text → tidied form ≡ form

-- The part is read, and its text has no warning.
abbrev pub IsReadWell : DamagedPart → Type 0
IsReadWell read =
    (shown : DamagedText) × (read.text ≡ Ok shown) × (shown.group ≡ tests.Right) × AreWholeCopies shown.copies

-- If `receive` reads a form, all parts of the form are read without a warning. The text of the form is the letters of
-- the parts, one part after another, and then an LF.
abbrev pub FormsReadAreShownWhole : Type 0
FormsReadAreShownWhole =
    (s : Day) (form text : List ℕ) (reads : List DamagedPart) → IsTextOf s form text
    → AreReadOf s (damaged_parts_of form) reads
    → All IsReadWell reads × (text ≡ map (shown_byte (space_letter s)) (shown_letters reads) ++ 10 ∷ [])

-- In a form of one message, take any two parts with the same part number. At each place that both bodies have, their
-- letters are equal, unless one of the two letters is lost. This also holds if a part can't be read.
abbrev pub RepetitionsAgree : Type 0
RepetitionsAgree =
    (before after : List DamagedPart) (one other : DamagedPart) (numbers again : PartNumbers)
    → are_of_one_message (before ++ one ∷ after) ≡ true → Contains after other → one.numbers ≡ Some numbers
    → other.numbers ≡ Some again → numbers.part ≡ again.part
    → IsTrue (bodies_agree one.body.items other.body.items)
