-- The first of a key sheet's faults is the fault of its reading.
use Rattle.std.proofs.Common.{◌≡◌, ℕ, ◌+◌, ◌==◌, ◌++◌, List, [], ◌∷◌, Option, Some, None, Result, Ok, Err, ap, refl}
use Rattle.std.proofs.Common.{IfOk, inl, inr, subst, take, drop, map, get_or, ◌<◌, ◌≤◌, sym, ◌∙◌, Bool, not, length, arith, append_assoc, ok_or}
use Rattle.std.proofs.lemmas.List.{append-nil, map-append, take-append-drop, take-map, take_all, take_more}
use Rattle.std.proofs.lemmas.List.Folds.{list_any-append}
use Rattle.std.specs.List.{list_any}
use Rattle.std.specs.Option.{option_map_or}
use Rattle.toml.specs.Data.{Data, Members, as_table}
use Rattle.toml.specs.View.{view}
use Rattle.toml.specs.declared.value.Value.{Value}
use Rattle.kd_tables.specs.declared.model.Model.{Model}
use Rattle.kd_tables.specs.declared.model.Model.TheVariants.{EnigmaI, M3, M4, M209}
use Rattle.kd_state.specs.SheetDay.{Day, day_number}
use Rattle.kd_sheet.specs.Document.{◌>>=◌, ◌>>◌, demand, read_items}
use Rattle.kd_sheet.specs.declared.key.Key.TheVariants as keys
use Rattle.kd_sheet.specs.declared.fault.SheetFault.{SheetFault}
use Rattle.kd_sheet.specs.declared.fault.SheetFault.TheVariants.{BadValue, DayTwice}
use Rattle.kd_findings.specs.declared.key_place.KeyPlace.{KeyPlace}
use Rattle.kd_findings.specs.Faults.{after_model, at_key, first_fault}
use Rattle.kd_findings.specs.SheetFaults.{AreSheetFaults, day_place, entry_faults, faults_after}
use Rattle.kd_findings.specs.SheetFaults.{has_number, in_entry, model_day_faults, number_in}
use Rattle.kd_state.proofs.FirstFault.{demand-Ok}
use Rattle.kd_sheet.proofs.ReadBack.Described.KeyValues.Steps.{bind-Ok}
use Rattle.kd_findings.proofs.FirstFault.{AreOf, of_form, of_model, of_one, of_two, two_steps}
use Rattle.std.proofs.lemmas.Option.{none-some}
unfoldable use Rattle.kd_sheet.specs.MachineFile.{model_in}
unfoldable use Rattle.kd_sheet.specs.SheetFile.{day_for, day_in, pin_day_in, rotor_day_in}
unfoldable use Rattle.kd_findings.specs.SheetFaults.{new_day, pin_day_faults, rotor_day_faults, table_faults}

of_rotor_day : (place : KeyPlace) (number : ℕ) (model : Model) (table : Members)
    → AreOf (rotor_day_faults place model table) (rotor_day_in number model table)
unfolding rotor_day_faults rotor_day_in
of_rotor_day place number model table = record { first = grind arith }

of_pin_day : (place : KeyPlace) (number : ℕ) (table : Members) → AreOf (pin_day_faults place table) (pin_day_in number table)
unfolding pin_day_faults pin_day_in
of_pin_day place number table = search (of_one, of_two)

of_model_day : (place : KeyPlace) (number : ℕ) (table : Members) (model : Model)
    → AreOf (model_day_faults place table model) (day_in number model table)
unfolding day_in
of_model_day place number table EnigmaI = of_rotor_day place number EnigmaI table
of_model_day place number table M3 = of_rotor_day place number M3 table
of_model_day place number table M4 = of_rotor_day place number M4 table
of_model_day place number table M209 = of_pin_day place number table

-- whether a day has this number
abbrev is_day : ℕ → Day → Bool
is_day number day = day_number day == number

-- the items are entries with the days' numbers
abbrev HaveNumbers : List Data → List Day → Type 0
HaveNumbers items days = (number : ℕ) → list_any (has_number number) items ≡ list_any (is_day number) days

-- the reading of an entry that is a table, after entries with these days
abbrev table_reading : List Day → Members → Result Day SheetFault
table_reading days table = number_in table >>= (λ number.
    demand (not (list_any (is_day number) days)) (DayTwice number)
    >> (model_in table >>= (λ model. day_in number model table)))

-- the day of an entry and then its model are the reading of the entry
day_and_model : (earlier : List Data) (days : List Day) (table : Members) (number : Result ℕ SheetFault)
    → HaveNumbers earlier days
    → ((number >>= (λ n. demand (not (list_any (has_number n) earlier)) (DayTwice n) >> Ok n))
    >>= (λ n. model_in table >>= (λ model. day_in n model table)))
    ≡ (number >>= (λ n. demand (not (list_any (is_day n) days)) (DayTwice n)
    >> (model_in table >>= (λ model. day_in n model table))))
day_and_model earlier days table (Err fault) have = refl
day_and_model earlier days table (Ok n) have =
    rw (have n) (two_steps (Ok n) (λ m. not (list_any (is_day m) days)) DayTwice
    (λ m. model_in table >>= (λ model. day_in m model table)))

of_table : (earlier : List Data) (days : List Day) (table : Members) → HaveNumbers earlier days
    → AreOf (table_faults earlier table) (table_reading days table)
unfolding table_faults new_day
of_table earlier days table have =
    rw (← day_and_model earlier days table (number_in table) have)
    (of_two (day_place earlier table) (new_day earlier table)
    (λ number. model_in table >>= (λ model. day_in number model table))
    (after_model (at_key (day_place earlier table) keys.Model) (model_day_faults (day_place earlier table) table)
    (model_in table)) (λ number _. of_model (at_key (day_place earlier table) keys.Model)
    (model_day_faults (day_place earlier table) table) (model_in table) (λ model. day_in number model table)
    (of_model_day (day_place earlier table) number table)))

of_option : (earlier : List Data) (days : List Day) (table : Option Members) → HaveNumbers earlier days
    → AreOf (option_map_or (table_faults earlier) table ((in_entry (length earlier + 1) None keys.Day, BadValue keys.Day) ∷ []))
    (ok_or table (BadValue keys.Day) >>= table_reading days)
of_option earlier days None have = record { first = refl }
of_option earlier days (Some table) have = of_table earlier days table have

of_entry : (earlier : List Data) (days : List Day) (item : Data) → HaveNumbers earlier days
    → AreOf (entry_faults earlier item) (day_for days item)
unfolding day_for
of_entry earlier days item have = of_option earlier days (as_table item) have

-- a list of faults, and then another
of_both : {A B : Type 0} (faults rest : List (KeyPlace × SheetFault)) (reading : Result A SheetFault)
    (next : A → Result B SheetFault) → AreOf faults reading
    → ((x : A) → reading ≡ Ok x → AreOf rest (next x)) → AreOf (faults ++ rest) (reading >>= next)
of_both [] rest (Ok x) next are follows = follows x refl
of_both [] rest (Err fault) next are follows = absurd (none-some fault are.first)
of_both (first ∷ faults) rest (Ok x) next are follows = absurd (none-some first.1 (sym are.first))
of_both (first ∷ faults) rest (Err fault) next are follows = record { first = are.first }

same_reading : (days : List Day) (value : Day) (rest : List Data)
    → read_items (λ later. day_for ((days ++ value ∷ []) ++ later)) rest
    ≡ read_items (λ later. day_for (days ++ (value ∷ later))) rest
same_reading days value rest = simp append_assoc refl

-- what holds of the value after two steps holds of it after the second
step : {A B : Type 0} (P : B → Type 0) (reading : Result A SheetFault) (next : A → Result B SheetFault)
    → ((x : A) → IfOk (next x) P) → IfOk (reading >>= next) P
step P (Ok x) next each = each x
step P (Err fault) next each = tt

-- a day has the number with which it is read
numbered : (number : ℕ) (model : Model) (table : Members) → IfOk (day_in number model table) (λ day. day_number day ≡ number)
unfolding day_in rotor_day_in pin_day_in
numbered number M209 table = grind arith
numbered number model table = grind arith

-- an item that is read as a day has the day's number
entry_number : (days : List Day) (item : Data) (value : Day) → day_for days item ≡ Ok value → (number : ℕ)
    → has_number number item ≡ is_day number value
unfolding day_for
entry_number days item value is number =
    let table = bind-Ok (ok_or (as_table item) (BadValue keys.Day)) _ value is in
    let read = bind-Ok (number_in table.0) _ value table.2 in
    let new = demand-Ok _ _ _ read.2 in
    let model = bind-Ok (model_in table.0) _ value new.1 in
    let of_day : day_number value ≡ read.0 =
    subst (λ answer. IfOk answer (λ day. day_number day ≡ read.0)) model.2 (numbered read.0 model.0 table.0) in
    let is_table : as_table item ≡ Some table.0 = grind (arith, table.1) in
    rw (is_table, read.1, of_day) refl

-- an entry has the number of its day
numbers_more : (earlier : List Data) (days : List Day) (item : Data) (value : Day) → HaveNumbers earlier days
    → day_for days item ≡ Ok value → HaveNumbers (earlier ++ item ∷ []) (days ++ value ∷ [])
numbers_more earlier days item value have is number =
    let same : has_number number item ≡ is_day number value = entry_number days item value is number in
    grind (arith, list_any-append, have number, same)

of_entries : (earlier : List Data) (days : List Day) (items : List Data) → HaveNumbers earlier days
    → AreOf (faults_after earlier items) (read_items (λ later. day_for (days ++ later)) items)
of_entries earlier days [] have = record { first = refl }
of_entries earlier days (item ∷ rest) have =
    rw (append-nil days) (of_both _ _ _ _ (of_entry earlier days item have) (λ value is.
    of_form _ _ _ (rw (← same_reading days value rest)
    (of_entries (earlier ++ item ∷ []) (days ++ value ∷ []) rest (numbers_more earlier days item value have is)))))

-- the first entries' faults, and then the others'
faults-append : (earlier first rest : List Data)
    → faults_after earlier (first ++ rest) ≡ faults_after earlier first ++ faults_after (earlier ++ first) rest
faults-append earlier [] rest = rw (append-nil earlier) refl
faults-append earlier (item ∷ first) rest =
    rw (faults-append (earlier ++ item ∷ []) first rest) (simp append_assoc refl)

-- one more entry adds its faults
pub faults-one_more : (first : List Data) (item : Data)
    → faults_after [] (first ++ item ∷ []) ≡ faults_after [] first ++ entry_faults first item
faults-one_more first item = rw (faults-append [] first (item ∷ [])) (rw (append-nil (entry_faults first item)) refl)

-- a list of faults that goes on has the same first fault
first-append : (faults rest : List (KeyPlace × SheetFault)) → 1 ≤ length faults
    → first_fault (faults ++ rest) ≡ first_fault faults
first-append [] rest some = absurd (omega (arith, some))
first-append (first ∷ faults) rest some = refl

-- the first of the faults that are listed is the first of all
first_listed : (items : List Data) (faults : List (KeyPlace × SheetFault)) → AreSheetFaults items faults
    → first_fault faults ≡ first_fault (faults_after [] items)
first_listed items faults listed = elim listed.many [
  | inl all ↦ grind (arith, listed.are, all, take_all)
  | inr many ↦
      let rest = faults-append [] (take listed.count items) (drop listed.count items) in
      let whole : faults_after [] items ≡ faults ++ faults_after (take listed.count items) (drop listed.count items) =
      grind (arith, rest, listed.are, take-append-drop) in
      sym (ap first_fault whole ∙ first-append faults _ (omega (arith, many)))
]

-- the first of a sheet's faults is the fault of its reading
pub of_sheet : (items : List Data) (faults : List (KeyPlace × SheetFault)) → AreSheetFaults items faults
    → AreOf faults (read_items day_for items)
of_sheet items faults listed =
    record { first = first_listed items faults listed ∙ (of_entries [] [] items (λ number. refl)).first }

-- one more of the items adds the faults of its entry
pub one_more_entry : (items : List Value) (index : ℕ) (d : Value) → index < length items
    → faults_after [] (take (index + 1) (map view items))
    ≡ faults_after [] (take index (map view items)) ++ entry_faults (map view (take index items)) (view (get_or items index d))
one_more_entry items index d within =
    let longer : take (index + 1) (map view items) ≡ map view (take index items) ++ view (get_or items index d) ∷ [] =
    grind (arith, take-map, map-append, take_more items index d) in
    grind (arith, longer, take-map, faults-one_more (map view (take index items)) (view (get_or items index d)))
