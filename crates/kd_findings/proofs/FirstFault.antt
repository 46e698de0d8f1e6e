-- The first of a machine file's faults is the fault of its reading.
use Rattle.std.proofs.Common.{◌≡◌, ℕ, ◌++◌, List, Result, Ok, Err, refl}
use Rattle.std.proofs.Common.{Bool, nat_le, arith}
use Rattle.std.specs.Result.{result_err}
use Rattle.toml.specs.Data.{Members}
use Rattle.kd_tables.specs.declared.model.Model.{Model}
use Rattle.kd_tables.specs.declared.model.Model.TheVariants.{EnigmaI, M3, M4, M209}
use Rattle.kd_sheet.specs.Document.{◌>>=◌, ◌>>◌, demand}
use Rattle.kd_sheet.specs.MachineText.{file_version}
use Rattle.kd_sheet.specs.declared.key.Key.TheVariants as keys
use Rattle.kd_sheet.specs.declared.fault.SheetFault.{SheetFault}
use Rattle.kd_sheet.specs.declared.fault.SheetFault.TheVariants.{UnknownModel}
use Rattle.kd_findings.specs.declared.key_place.KeyPlace.{KeyPlace}
use Rattle.kd_findings.specs.Faults.{after_model, fault_at, first_fault, in_file, model_file_faults, version_in}
use Rattle.kd_sheet.specs.MachineFile.{machine_in}
unfoldable use Rattle.kd_sheet.specs.MachineFile.{model_in, parts_in, pin_parts_in, rotor_parts_in}
unfoldable use Rattle.kd_findings.specs.Faults.{file_model, machine_faults, pin_file_faults, rotor_file_faults}

-- The first of the faults is the fault of the reading; without a fault of the reading there are none.
pub record AreOf {A : Type 0} (faults : List (KeyPlace × SheetFault)) (reading : Result A SheetFault) : Type 0 where
  pub first : first_fault faults ≡ result_err reading

-- a reading, and then another
pub of_two : {A B : Type 0} (place : KeyPlace) (reading : Result A SheetFault) (next : A → Result B SheetFault)
    (rest : List (KeyPlace × SheetFault)) → ((x : A) → reading ≡ Ok x → AreOf rest (next x))
    → AreOf (fault_at place reading ++ rest) (reading >>= next)
of_two place (Ok x) next rest follows = follows x refl
of_two place (Err fault) next rest follows = record { first = refl }

-- one reading, whose value is given another form
pub of_one : {A B : Type 0} (place : KeyPlace) (reading : Result A SheetFault) (form : A → B)
    → AreOf (fault_at place reading) (reading >>= (λ x. Ok (form x)))
of_one place (Ok x) form = record { first = refl }
of_one place (Err fault) form = record { first = refl }

-- the reading of a model, and then what the model needs
pub of_model : {B : Type 0} (place : KeyPlace) (faults : Model → List (KeyPlace × SheetFault)) (reading : Result Model SheetFault)
    (next : Model → Result B SheetFault) → ((model : Model) → AreOf (faults model) (next model))
    → AreOf (after_model place faults reading) (reading >>= next)
of_model place faults (Ok model) next follows = follows model
of_model place faults (Err fault) next follows = record { first = refl }

-- a reading from two steps, and then a third, are a reading and then two steps
pub two_steps : {A C : Type 0} (reading : Result A SheetFault) (test : A → Bool) (fault : A → SheetFault)
    (next : A → Result C SheetFault)
    → ((reading >>= (λ x. demand (test x) (fault x) >> Ok x)) >>= next)
    ≡ (reading >>= (λ x. demand (test x) (fault x) >> next x))
two_steps (Ok x) test fault next = grind arith
two_steps (Err e) test fault next = refl

of_rotor_file : (model : Model) (table : Members) → AreOf (rotor_file_faults model table) (rotor_parts_in model table)
unfolding rotor_file_faults rotor_parts_in
of_rotor_file model table = search (of_one, of_two)

of_pin_file : (table : Members) → AreOf (pin_file_faults table) (pin_parts_in table)
unfolding pin_file_faults pin_parts_in
of_pin_file table = search (of_one, of_two)

-- a value that is given another form has the same fault
pub of_form : {A B : Type 0} (faults : List (KeyPlace × SheetFault)) (reading : Result A SheetFault) (form : A → B)
    → AreOf faults reading → AreOf faults (reading >>= (λ x. Ok (form x)))
of_form faults (Ok x) form is = record { first = is.first }
of_form faults (Err fault) form is = record { first = is.first }

of_model_file : (table : Members) (model : Model) → AreOf (model_file_faults table model) (parts_in model table)
unfolding parts_in
of_model_file table EnigmaI = of_form _ _ _ (of_rotor_file EnigmaI table)
of_model_file table M3 = of_form _ _ _ (of_rotor_file M3 table)
of_model_file table M4 = of_form _ _ _ (of_rotor_file M4 table)
of_model_file table M209 = of_form _ _ _ (of_pin_file table)

-- the model and what it needs, after version `version`
of_versioned : (table : Members) (version : ℕ) → version_in table ≡ Ok version
    → AreOf (after_model (in_file keys.Model) (model_file_faults table) (file_model table))
    (model_in table >>= (λ model. demand (nat_le (file_version model) version) UnknownModel >> parts_in model table))
unfolding file_model
of_versioned table version is =
    rw is (rw (← two_steps (model_in table) (λ model. nat_le (file_version model) version) (λ model. UnknownModel)
    (λ model. parts_in model table)) (of_model _ _ _ _ (of_model_file table)))

pub of_machine : (table : Members) → AreOf (machine_faults table) (machine_in table)
unfolding machine_faults
of_machine table = of_two _ _ _ _ (of_versioned table)
