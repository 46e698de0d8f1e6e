-- The lines of a file's faults.
use Rattle.std.proofs.Common.{◌≡◌, ℕ, List, [], ◌∷◌, ◌++◌, Option, Some, Result, Ok, Err, ap, sym, ◌∙◌, subst}
use Rattle.std.proofs.lemmas.List.{take_all}
use Rattle.std.proofs.Common.{◌≤◌, ◌-◌, Bool, true, false, length, map, drop, take, get_or, arith, if◌then◌else◌}
use Rattle.std.specs.Result.{result_err}
use Rattle.toml.specs.Data.{Members}
use Rattle.kd_state.specs.SheetDay.{Day}
use Rattle.kd_state.specs.declared.machine.parts.Parts.{Parts}
use Rattle.kd_sheet.specs.Document.{◌>>=◌}
use Rattle.kd_sheet.specs.MachineFile.{machine_in}
use Rattle.kd_sheet.specs.SheetFile.{sheet_in}
use Rattle.kd_sheet.specs.declared.fault.SheetFault.{SheetFault}
use Rattle.kd_language.specs.declared.language.Language.{Language}
use Rattle.kd_findings.specs.Faults.{faults_of, first_fault}
use Rattle.kd_findings.specs.Kind.{is_machine_file}
use Rattle.kd_findings.specs.SheetFaults.{AreFaults, file_fault}
use Rattle.kd_findings.specs.declared.findings.Finding.{Finding}
use Rattle.kd_findings.specs.declared.key_place.KeyPlace.{KeyPlace}
use Rattle.kd_look.specs.FaultWords.{AreFaultLines, AreLinesFor, IsFaultLine, IsLineAt}
use Rattle.kd_look.specs.Line.{line_of}
use Rattle.kd_findings.specs.Texts.{AppendsText}
use Rattle.kd_look.specs.declared.file.File.TheVariants as files
use Rattle.kd_findings.proofs.Appending.{AppendsText-then}
unfoldable use Rattle.kd_look.specs.File.{file_in}

-- the line of the first finding is appended, and then the lines of the others
pub AreFaultLines-then : (l : Language) (name : List ℕ) (findings : List Finding) (lines : List (Option ℕ))
    (first : Finding) (d : Option ℕ) (old middle new : List ℕ) → 1 ≤ length findings → first ≡ get_or findings 0 first
    → AppendsText (IsLineAt l name first.place (get_or lines 0 d) first.fault) old middle
    → ((bytes : List ℕ) → take (length lines - 1) (drop 1 lines)
    ≡ map (line_of bytes) (take (length findings - 1) (drop 1 findings))
    → AppendsText (AreFaultLines l name bytes (faults_of (take (length findings - 1) (drop 1 findings)))) middle new)
    → (bytes : List ℕ) → lines ≡ map (line_of bytes) findings
    → AppendsText (AreFaultLines l name bytes (faults_of findings)) old new
AreFaultLines-then l name [] lines first d old middle new some is one others bytes are = absurd (omega (arith, some))
AreFaultLines-then l name (head ∷ rest) [] first d old middle new some is one others bytes are =
    absurd (omega (arith, ap length are))
AreFaultLines-then l name (head ∷ rest) (line ∷ lines) first d old middle new some is one others bytes are =
    let of_first =
    subst (λ finding. AppendsText (IsLineAt l name finding.place line finding.fault) old middle) is one in
    let of_line : AppendsText (IsFaultLine l name bytes head.place head.fault) old middle =
    subst (λ number. AppendsText (IsLineAt l name head.place number head.fault) old middle)
    (ap (λ numbers. get_or numbers 0 line) are) of_first in
    let all : take (length (head ∷ rest) - 1) rest ≡ rest = take_all _ rest (omega arith) in
    let all_lines : take (length (line ∷ lines) - 1) lines ≡ lines = take_all _ lines (omega arith) in
    let same : take (length (line ∷ lines) - 1) lines ≡ map (line_of bytes) (take (length (head ∷ rest) - 1) rest) =
    all_lines ∙ ap (drop 1) are ∙ sym (ap (map (line_of bytes)) all) in
    AppendsText-then _ _ old middle new of_line
    (subst (λ list. AppendsText (AreFaultLines l name bytes (faults_of list)) middle new) all (others bytes same))

-- a choice of what a machine file and what a sheet says, in another form, has the same fault
of_choice : (choice : Bool) (sheet : Result (List (Option Day)) SheetFault) (machine : Result Parts SheetFault)
    (fault : SheetFault) → (if choice then machine >>= (λ parts. Ok (files.Machine parts))
    else sheet >>= (λ month. Ok (files.Sheet month))) ≡ Err fault
    → (if choice then result_err machine else result_err sheet) ≡ Some fault
of_choice true sheet (Ok machine) fault is = ap result_err is
of_choice true sheet (Err wrong) fault is = ap result_err is
of_choice false (Ok sheet) machine fault is = ap result_err is
of_choice false (Err wrong) machine fault is = ap result_err is

-- the fault of a document
file_fault-is : (document : Members) (fault : SheetFault) → file_in document ≡ Err fault
    → file_fault document ≡ Some fault
unfolding file_in
file_fault-is document fault is =
    of_choice (is_machine_file document) (sheet_in document) (machine_in document) fault is

-- the lines of all faults of a document are the lines for the document
pub AreLinesFor-document : (l : Language) (name bytes text empty : List ℕ) (document : Members)
    (fault : SheetFault) (found : List (KeyPlace × SheetFault)) → file_in document ≡ Err fault
    → AreFaults document found → first_fault found ≡ file_fault document → empty ≡ []
    → AppendsText (AreFaultLines l name bytes found) empty text
    → AreLinesFor l name bytes document fault text
AreLinesFor-document l name bytes text empty document fault found is are first none lines =
    let whole : lines.text ≡ text = sym (lines.added ∙ ap (λ front. front ++ lines.text) none) in
    record {
      found = found;
      are = are;
      first = first ∙ file_fault-is document fault is;
      lines = subst (AreFaultLines l name bytes found) whole lines.fits;
    }
