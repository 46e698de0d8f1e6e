-- On a rotor machine, each setting of a planned list has a mark.
use Rattle.std.proofs.Common.{◌≡◌, ◌≢◌, ℕ, suc, false, List, map, zip, All, arith, refl, sym, ap, subst, ◌∙◌}
use Rattle.std.proofs.Common.{Some, None as Nothing, IsPermutation, find, flat_map, nat_eq, length}
use Rattle.std.specs.Prelude.{Option, option_map, slice_get, unwrap_or}
use Rattle.std.specs.List.{AllByRecursion}
use Rattle.std.specs.Option.{option_map_or}
use Rattle.std.proofs.lemmas.List.{length-map}
use Rattle.std.proofs.lemmas.List.Elements.{All-append, All-contains, All-from_recursion}
use Rattle.std.proofs.lemmas.Option.{slice_get-map}
use Rattle.std.proofs.lemmas.Slice.Zip.{firsts-zip}
use Rattle.kd_tables.specs.{Pairs.has_letter, Tables.box_of}
use Rattle.kd_state.specs.declared.machine.parts.Parts.{Parts}
use Rattle.kd_state.specs.declared.machine.parts.Parts.TheVariants.{Rotor}
use Rattle.kd_state.specs.declared.machine.rotor_parts.RotorParts.{RotorParts}
use Rattle.kd_state.specs.declared.setting.Setting.{Setting}
use Rattle.kd_state.specs.declared.setting.Setting.TheVariants.{Pull, Put, Seat, SeatReflector, RingTo, Turn}
use Rattle.kd_state.specs.declared.sheet_day.rotor_entry.SheetWheel.{SheetWheel}
use Rattle.kd_state.specs.Costs.{column_letters, columns_of}
use Rattle.kd_state.specs.Machine.{IsMachine, cable_letters, machine_letter, machine_ring}
use Rattle.kd_state.specs.OnKey.{ReadsAs, cable_of_column, pair_in_order}
use Rattle.kd_state.specs.SameParts.{same_reflector, same_wheel}
use Rattle.kd_state.specs.Setting.{Leads}
use Rattle.kd_state.specs.SheetDay.{IsLegalDay, Rotor, RotorDay}
use Rattle.kd_state.proofs.Cables.{column_is}
use Rattle.kd_state.proofs.Carrying.{leads_unique}
use Rattle.kd_state.proofs.Wheels.{same_reflector-Decides, same_wheel-Decides, same_wheel_self}
use Rattle.kd_card.specs.Loose.{lines_from, loose_lines, setting_unless, slot_seat_line, slot_turn_line}
use Rattle.kd_card.specs.Loose.{wheel_ring_line}
use Rattle.kd_card.proofs.Leading.{Led, led_append, rotors_led, turned_all}
use Rattle.kd_plan.specs.Moves.{planned_lines}
use Rattle.kd_plan.proofs.Planning.FewCables.Sparing.Moving.Cables.{CableColumn, IsPluggable, all_pulled, all_put}
use Rattle.kd_plan.proofs.Planning.FewCables.Sparing.Moving.Cables.{are_pluggable, cables_with_columns, column_at}
use Rattle.kd_plan.proofs.Planning.FewCables.Sparing.Moving.Cables.{is_put, once_put, wanted_once, with_cables}
use Rattle.kd_sheet.proofs.ReadBack.Described.KeyValues.{find-contains}
use Rattle.kd_sheet.proofs.ReadBack.Described.KeyValues.Steps.{All-slice_get}
use Rattle.kd_pictures.specs.Board.{has_plug}
use Rattle.kd_booklet.specs.SettingChanges.{Changes}
use Rattle.kd_booklet.proofs.EachSetting.{All-flat_map, All-letters_outside, All-lines, All-option, All-unless}
use Rattle.kd_booklet.proofs.EachSetting.{slice_get-zip}
use Rattle.kd_booklet.proofs.PlannedPieces.{pulls, puts}

-- ---- wheels, reflector, rings and windows: machine `n` has them as the day says

-- the item isn't this letter
not_letter : (letter : ℕ) (item : Option ℕ) → option_map_or (nat_eq letter) item false ≡ false → item ≢ Some letter
not_letter letter item other same = absurd (grind (arith, same, other))

module _ (m n : RotorParts) (s : RotorDay) (reads : ReadsAs (Rotor n) (Rotor s)) where
  abbrev P : Setting → Type 0
  P = Changes (Rotor m) (Rotor n)

  slot_is : (k : ℕ) (w : SheetWheel) → slice_get s.wheels k ≡ Some w → slice_get n.slots k ≡ Some (Some w.wheel)
  slot_is k w at =
      ap (λ slots. slice_get slots k) reads.key.slots
      ∙ slice_get-map (λ (v : SheetWheel). Some v.wheel) s.wheels k
      ∙ ap (option_map (λ (v : SheetWheel). Some v.wheel)) at

  seats_marked : All P (lines_from slot_seat_line 1 (zip m.slots s.wheels))
  seats_marked = All-lines P slot_seat_line (zip m.slots s.wheels) (λ k z at.
      let parts = slice_get-zip m.slots s.wheels k z at in
      let there = slot_is k z.1 parts.1 in
      All-unless P (option_map_or (same_wheel z.1.wheel) z.0 false) (Seat (suc k) z.1.wheel) (λ other.
      (λ so. absurd (grind (arith, parts.0, other, so)), grind (arith, there, same_wheel_self z.1.wheel))))

  reflector_marked : All P (setting_unless (same_reflector m.reflector s.reflector) (SeatReflector s.reflector))
  reflector_marked = All-unless P (same_reflector m.reflector s.reflector) (SeatReflector s.reflector) (λ other. (
    λ so. absurd (grind (arith, so, other, same_reflector-Decides m.reflector s.reflector)),
    ap Some reads.key.reflector,
  ))

  rings_marked : All P (flat_map (wheel_ring_line (Rotor m) s.wheels) (box_of m.model))
  rings_marked = All-flat_map P (wheel_ring_line (Rotor m) s.wheels) (box_of m.model) (λ k wheel at.
      All-option P _ (find (λ (w : SheetWheel). same_wheel wheel w.wheel) s.wheels) (λ w found.
      let ring = machine_ring (Rotor m) w.wheel in
      All-unless P (option_map_or (nat_eq w.ring) ring false) (RingTo w.wheel w.ring) (λ other.
      let due = All-contains (λ (v : SheetWheel). machine_ring (Rotor n) v.wheel ≡ Some v.ring) s.wheels w
      reads.key.rings (find-contains (λ (v : SheetWheel). same_wheel wheel v.wheel) s.wheels w found) in
      (not_letter w.ring ring other, due))))

  turns_marked : All P (lines_from (slot_turn_line (Rotor m)) 1 s.wheels)
  turns_marked = All-lines P (slot_turn_line (Rotor m)) s.wheels (λ k w at.
      let shown = machine_letter (Rotor m) w.wheel in
      All-unless P (option_map_or (nat_eq w.letter) shown false) (Turn (suc k) w.letter) (λ other wheel seated.
      let there = slot_is k w at in
      let one = (same_wheel-Decides wheel w.wheel).0 (grind (arith, seated, there)) in
      let due = All-slice_get (λ (v : SheetWheel). machine_letter (Rotor n) v.wheel ≡ Some v.letter) s.wheels k w
      reads.window at in
      rw one (not_letter w.letter shown other, due)))

  loose_marked : All P (loose_lines (Rotor m) (Rotor s))
  loose_marked =
      All-append P _ _ (All-append P _ _ (All-append P _ _ seats_marked reflector_marked) rings_marked) turns_marked

-- ---- cables: afterwards each has the letters of its column

column_letters_are : (column : Option (ℕ × ℕ))
    → cable_letters (cable_of_column column) ≡ column_letters (pair_in_order column)
column_letters_are Nothing = refl
column_letters_are (Some pair) = refl

module _ (m a : RotorParts) (zs : List CableColumn) (begins : map (λ (z : CableColumn). z.0) zs ≡ m.cables)
    (pluggable : AllByRecursion IsPluggable zs) where
  abbrev n : Parts
  n = with_cables a (map once_put zs)

  abbrev Q : Setting → Type 0
  Q = Changes (Rotor m) n

  before : (k letter : ℕ) (z : CableColumn) → slice_get zs k ≡ Some z
      → has_plug (Rotor m) (suc k) letter ≡ has_letter (cable_letters z.0) letter
  before k letter z at =
      let there = slice_get-map (λ (v : CableColumn). v.0) zs k ∙ ap (option_map (λ (v : CableColumn). v.0)) at in
      ap (λ cable. has_letter (cable_letters (unwrap_or cable (Nothing, Nothing))) letter)
      (ap (λ cables. slice_get cables k) (sym begins) ∙ there)

  after : (k letter : ℕ) (z : CableColumn) → slice_get zs k ≡ Some z
      → has_plug n (suc k) letter ≡ has_letter (cable_letters (cable_of_column z.1)) letter
  after k letter z at =
      let there = slice_get-map once_put zs k ∙ ap (option_map once_put) at in
      let fits = All-slice_get IsPluggable zs k z (All-from_recursion IsPluggable zs pluggable) at in
      ap (λ cable. has_letter (cable_letters (unwrap_or cable (Nothing, Nothing))) letter)
      (there ∙ ap Some (is_put z fits))

  outs_marked : All Q (lines_from pulls 1 zs)
  outs_marked = All-lines Q pulls zs (λ k z at.
      All-letters_outside Q (λ letter. Pull (suc k) letter) (cable_letters z.0) (column_letters z.1)
      (λ letter held none.
      let was = before k letter z at in
      (λ so. absurd (grind (arith, was, held, so)), after k letter z at ∙ column_is z.1 letter ∙ none)))

  ins_marked : All Q (lines_from puts 1 zs)
  ins_marked = All-lines Q puts zs (λ k z at.
      All-letters_outside Q (λ letter. Put (suc k) letter) (column_letters (pair_in_order z.1)) (cable_letters z.0)
      (λ letter due none.
      let was = before k letter z at in
      let letters = ap (λ (xs : List ℕ). has_letter xs letter) (column_letters_are z.1) in
      (λ so. absurd (grind (arith, was, none, so)), after k letter z at ∙ letters ∙ due)))

-- ---- all settings

module _ (m : RotorParts) (s : RotorDay) (machine : IsMachine (Rotor m)) (legal : IsLegalDay (Rotor s))
    (same : m.model ≡ s.model) (to : List ℕ) (count : length to ≡ 13)
    (order : IsPermutation (columns_of s.pairs) (map (column_at s.pairs) to)) where
  abbrev zs : List CableColumn
  zs = cables_with_columns m.cables s.pairs to

  pluggable : AllByRecursion IsPluggable zs
  pluggable = are_pluggable m s machine legal same to count order

  begins : map (λ (z : CableColumn). z.0) zs ≡ m.cables
  begins = firsts-zip m.cables (map (column_at s.pairs) to)
      (omega (arith, machine.legal.cables.count, count, length-map to (column_at s.pairs)))

  -- the machine after all settings
  abbrev last : Parts
  last = with_cables (turned_all m s machine legal same) (map once_put zs)

  all_led : Led (Rotor m) (planned_lines (Rotor m) (Rotor s) to) last
  all_led =
      led_append _ _ (led_append _ _ (rotors_led m s machine legal same)
      (all_pulled (turned_all m s machine legal same) zs begins))
      (all_put (turned_all m s machine legal same) zs pluggable (wanted_once m s machine legal same to count order))

  pub rotor_marked : (n : RotorParts) → Leads (Rotor m) (planned_lines (Rotor m) (Rotor s) to) (Rotor n)
      → ReadsAs (Rotor n) (Rotor s) → All (Changes (Rotor m) (Rotor n)) (planned_lines (Rotor m) (Rotor s) to)
  rotor_marked n leads reads =
      let P = Changes (Rotor m) (Rotor n) in
      let one = leads_unique (Rotor m) last (Rotor n) (planned_lines (Rotor m) (Rotor s) to) all_led.leads leads in
      All-append P _ _ (All-append P _ _ (loose_marked m n s reads)
      (subst (λ p. All (Changes (Rotor m) p) (lines_from pulls 1 zs)) one
      (outs_marked m (turned_all m s machine legal same) zs begins pluggable)))
      (subst (λ p. All (Changes (Rotor m) p) (lines_from puts 1 zs)) one
      (ins_marked m (turned_all m s machine legal same) zs begins pluggable))
