-- Finding the machine and the day in files, and the answer if they aren't found.
use Rattle.kd_desk.proofs.Prelude.{◌≡◌, ◌⊎◌, ℕ, List, Option, Some, Result, Ok, Err, IsErrAnd, MatchResult}
use Rattle.kd_desk.proofs.Prelude.{inl, inr, refl, subst, ok_or, arith, Parts, Day, machine_of, DeskFault}
use Rattle.kd_desk.proofs.Prelude.{LacksMemory, IsAnswerOnDay, machine_and_day}
use Rattle.{kd_host.proofs.Failing.err_is, kd_tables.specs.Answers.AgreesOrNoMemory, kd_sheet.specs.Sheet.day_of}
use Rattle.kd_sheet.specs.{SheetFile.sheet_of, Document.◌>>=◌, declared.fault.SheetFault.SheetFault}
use Rattle.kd_sheet.specs.declared.fault.SheetFault.TheVariants as files
use Rattle.kd_desk.specs.declared.fault.DeskFault.TheVariants.{NoSuchDay}
use Rattle.kd_desk.specs.{Month.success, OnDay.or_file_fault}

-- the fault that reading a file returned is the fault of the file's bytes, or no memory
pub is_meant : {A : Type 0} (fault : SheetFault) (meant : Result A SheetFault) → AgreesOrNoMemory files.NoMemory meant (Err fault)
    → (fault ≡ files.NoMemory) ⊎ (meant ≡ Err fault)
is_meant fault meant is = grind (arith)

pub ruleset finding = (is_meant, err_is)

-- ---- the machine and the day that are found

abbrev both : Parts → Day → Result (Parts × Day) DeskFault
both m s = Ok (m, s)

both_of : (machine : Result Parts SheetFault) (sheet : Result (List (Option Day)) SheetFault) (number : ℕ) (m : Parts)
    (s : Day) → (or_file_fault machine >>= (λ n. or_file_fault sheet
    >>= (λ month. ok_or (day_of month number) NoSuchDay >>= both n))) ≡ both m s
    → (machine ≡ Ok m) × ((month : List (Option Day)) × (sheet ≡ Ok month) × (day_of month number ≡ Some s))
both_of machine sheet number m s e = grind arith

module _ (machine sheet : List ℕ) (number : ℕ) where
  pub found_in_files : (m : Parts) (month : List (Option Day)) (s : Day) → machine_of machine ≡ Ok m
      → sheet_of sheet ≡ Ok month → day_of month number ≡ Some s → machine_and_day machine sheet number ≡ Ok (m, s)
  unfolding machine_and_day
  found_in_files m month s of_machine of_sheet of_month = rw (of_machine, of_sheet, of_month) refl

  -- a machine and a day that are found are those of the files
  pub in_files : (m : Parts) (s : Day) → machine_and_day machine sheet number ≡ Ok (m, s)
      → (machine_of machine ≡ Ok m)
      × ((month : List (Option Day)) × (sheet_of sheet ≡ Ok month) × (day_of month number ≡ Some s))
  unfolding machine_and_day
  in_files m s e = both_of (machine_of machine) (sheet_of sheet) number m s e

  pub found_once : (m n : Parts) (s t : Day) → machine_and_day machine sheet number ≡ Ok (m, s)
      → machine_and_day machine sheet number ≡ Ok (n, t) → (m ≡ n) × (s ≡ t)
  found_once m n s t e d = grind arith

  abbrev Finds : Result (Parts × Day) DeskFault → Type 0
  Finds found = (found ≡ machine_and_day machine sheet number) ⊎ LacksMemory found

  -- the answer if the machine and the day aren't found, and if they are
  module _ (does : Parts → Day → Type 0) (answer : Result (Unit {0}) DeskFault) where
    abbrev Answers : Result (Parts × Day) DeskFault → Type 0
    Answers found = MatchResult found (λ both. does both.0 both.1) (λ fault. answer ≡ Err fault)

    pub not_found : (fault : DeskFault) → Finds (Err fault) → IsErrAnd answer (λ made. made ≡ fault)
        → IsAnswerOnDay machine sheet number does answer
    not_found fault (inl is) made = inl (subst Answers is (err_is answer fault made))
    not_found fault (inr lacks) made = inr (grind (arith, err_is))

    pub on_day : (m : Parts) (s : Day) → Finds (Ok (m, s)) → does m s → IsAnswerOnDay machine sheet number does answer
    on_day m s (inl is) done = inl (subst Answers is done)
    on_day m s (inr lacks) done = absurd (cc)

  -- a call that succeeds has found a machine and a day
  pub found_on : (does : Parts → Day → Type 0) → IsAnswerOnDay machine sheet number does success
      → (on : Parts × Day) × (machine_and_day machine sheet number ≡ Ok on) × does on.0 on.1
  found_on does on = grind arith
