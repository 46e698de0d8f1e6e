-- The boxes of a page, read from the top, are a planned list in an order for the hand.
use Rattle.std.proofs.Common.{◌≡◌, ℕ, ◌+◌, ◌<◌, ◌≤◌, Bool, true, false, not, ◌&&◌, List, [], ◌∷◌, ◌++◌, length}
use Rattle.std.proofs.Common.{arith, suc}
use Rattle.std.proofs.Common.{filter, flat_map, nat_eq, subst, sym, refl, ap, ap₂, ◌∙◌, zip, map, append_assoc}
use Rattle.std.proofs.Common.{append-nil}
use Rattle.std.proofs.Common.{None as Nothing, Some, Contains, zero}
use Rattle.std.specs.Prelude.{Option, if◌then◌else◌, nat_le, nat_lt, slice_index_or}
use Rattle.std.proofs.lemmas.Bool.{and_parts, leb-true, ltb-true}
use Rattle.std.proofs.lemmas.List.Elements.{filter-append}
use Rattle.std.proofs.lemmas.List.{length-map}
use Rattle.kd_tables.specs.declared.model.Model.{Model}
use Rattle.kd_tables.specs.declared.model.Model.TheVariants.{EnigmaI, M3, M4, M209}
use Rattle.kd_tables.specs.declared.place.Place.{Place}
use Rattle.kd_tables.specs.declared.reflector.Reflector.{Reflector}
use Rattle.kd_tables.specs.Tables.{box_of, reflectors_of, slots_of}
unfoldable use Rattle.kd_tables.specs.Rings.{ring_of}
use Rattle.kd_pins.specs.PinWheels.{pins_of}
use Rattle.kd_state.specs.declared.machine.parts.Parts.{Parts}
use Rattle.kd_state.specs.declared.machine.parts.Parts.TheVariants.{Rotor, Pin}
use Rattle.kd_state.specs.declared.machine.pin_parts.PinParts.{PinParts}
use Rattle.kd_state.specs.declared.machine.rotor_parts.RotorParts.{RotorParts}
use Rattle.kd_state.specs.declared.setting.Setting.{Setting}
use Rattle.kd_state.specs.declared.setting.Setting.TheVariants.{Pull, Put, Seat, SeatReflector, RingTo, Turn, PinTo}
use Rattle.kd_state.specs.declared.setting.Setting.TheVariants.{LugTo}
use Rattle.kd_state.specs.declared.sheet_day.rotor_entry.SheetWheel.{SheetWheel}
use Rattle.kd_state.specs.Costs.{columns_of}
use Rattle.kd_state.specs.Machine.{IsMachine, model_of}
use Rattle.kd_state.specs.SameParts.{same_reflector}
use Rattle.kd_state.specs.SheetDay.{Day, IsLegalDay, Rotor, Pin, RotorDay, PinDay, day_model}
use Rattle.kd_card.specs.Loose.{setting_unless, lines_from, slot_seat_line, slot_turn_line, wheel_ring_line}
use Rattle.kd_card.specs.Loose.{pin_line, wheel_pin_lines, pin_wheel_turn_line}
use Rattle.kd_card.proofs.Months.Shortest.{no_rotors}
use Rattle.kd_plan.specs.Moves.{bar_moves, planned_lines, with_columns}
use Rattle.kd_pictures.specs.Words.{is_converter}
use Rattle.kd_page.specs.declared.spots.Step.{Step}
use Rattle.kd_page.specs.declared.spots.Step.TheVariants.{PlugsOut, PlugsIn, Pins, Lugs, Turns}
use Rattle.kd_page.specs.PageOrder.{IsPinOrder, IsRanked, IsRotorOrder, page_boxes, settings_at, step_number}
use Rattle.kd_page.specs.Spots.{cell_of, is_at, row_of, row_spot, step_rank, step_spot}
use Rattle.kd_page.proofs.PageOrders.{pin_boxes_are, rotor_boxes_are}
use Rattle.kd_booklet.specs.declared.stages.Stage.{Stage}
use Rattle.kd_booklet.specs.declared.stages.Stage.TheVariants.{Rings as First, Parts as Between, Windows as Last}
use Rattle.kd_booklet.specs.DayPlan.{IsPageOrder}
use Rattle.kd_booklet.specs.HandOrder.{in_hand_order, is_at_stage, is_same_stage, stage_of}
use Rattle.kd_booklet.proofs.PlannedPieces.{all_flat, all_lines, all_unless, in_moves, lug_moves, out_moves}
use Rattle.kd_booklet.proofs.PlannedPieces.{pin_lines, pulls, puts, ring_line, seat_line, turn_line, wheel_turn_line}
use Rattle.kd_booklet.proofs.Ranked.{AllAre, all_are, filter_by, filter_all, filter_none, ranked_after, ranked_from}
use Rattle.kd_booklet.proofs.Ranked.{ranked_lines, zip_within}

abbrev is_step : ℕ → Setting → Bool
is_step number x = nat_eq (step_number x) number

abbrev is_row : ℕ → Setting → Bool
is_row number x = nat_eq (row_of x) number

-- ---- steps and stages

abbrev stage_of_step : ℕ → Stage
stage_of_step number = if nat_eq number 0 then First else if nat_eq number 6 then Last else Between

stage_is : (x : Setting) → stage_of x ≡ stage_of_step (step_number x)
stage_is (RingTo wheel letter) = refl
stage_is (Seat slot wheel) = refl
stage_is (SeatReflector reflector) = refl
stage_is (Pull cable letter) = refl
stage_is (Put cable letter) = refl
stage_is (PinTo wheel letter effective) = refl
stage_is (LugTo bar lug place) = refl
stage_is (Turn slot letter) = refl

-- the settings of one step, if the step is of the stage
staged : (stage : Stage) (number : ℕ) (xs : List Setting) → AllAre step_number number xs
    → filter (is_at_stage stage) xs ≡ (if is_same_stage (stage_of_step number) stage then xs else [])
staged stage number xs all =
    filter_by step_number (is_at_stage stage) (is_same_stage (stage_of_step number) stage) number
    (λ x e. ap (λ s. is_same_stage s stage) (stage_is x ∙ ap stage_of_step e)) xs all

both_true : (b : Bool) → (b && (true && true)) ≡ b
both_true true = refl
both_true false = refl

-- the settings of one step, if it is this step
stepped : (step : Step) (number : ℕ) (xs : List Setting) → AllAre step_number number xs
    → settings_at (step_spot step) xs ≡ (if nat_eq number (step_rank step) then xs else [])
stepped step number xs all =
    filter_by step_number (is_at (step_spot step)) (nat_eq number (step_rank step)) number
    (λ x e. both_true (nat_eq (step_number x) (step_rank step)) ∙ ap (λ n. nat_eq n (step_rank step)) e) xs all

abbrev if_stage : Stage → ℕ → List Setting → List Setting
if_stage stage number xs = if is_same_stage (stage_of_step number) stage then xs else []

abbrev if_step : Step → ℕ → List Setting → List Setting
if_step step number xs = if nat_eq number (step_rank step) then xs else []

-- ---- lists in six pieces, of a rotor machine

six_joined : {a b c d e f k l m n o p : List Setting} → a ≡ k → b ≡ l → c ≡ m → d ≡ n → e ≡ o → f ≡ p
    → a ++ (b ++ (c ++ (d ++ (e ++ f)))) ≡ k ++ (l ++ (m ++ (n ++ (o ++ p))))
six_joined first second third fourth fifth sixth =
    ap₂ (λ x y. x ++ y) first (ap₂ (λ x y. x ++ y) second (ap₂ (λ x y. x ++ y) third
    (ap₂ (λ x y. x ++ y) fourth (ap₂ (λ x y. x ++ y) fifth sixth))))

-- Six pieces of a list: wheels and reflector to put in, rings, windows, plugs to take out and to put in.
record AreSix (s f r t o i : List Setting) : Type 0 where
  seats : AllAre step_number 1 s
  reflector : AllAre step_number 1 f
  rings : AllAre step_number 0 r
  turns : AllAre step_number 6 t
  outs : AllAre step_number 2 o
  ins : AllAre step_number 3 i

module _ (s f r t o i : List Setting) (six : AreSix s f r t o i) where
  abbrev six_in_order : List Setting
  six_in_order = r ++ (s ++ (f ++ (o ++ (i ++ t))))

  six_staged : (stage : Stage) → filter (is_at_stage stage) (s ++ (f ++ (r ++ (t ++ (o ++ i)))))
      ≡ filter (is_at_stage stage) s ++ (filter (is_at_stage stage) f ++ (filter (is_at_stage stage) r
      ++ (filter (is_at_stage stage) t ++ (filter (is_at_stage stage) o ++ filter (is_at_stage stage) i))))
  six_staged stage = rw (filter-append, filter-append, filter-append, filter-append, filter-append) refl

  -- the pieces that are of the stage
  six_at_stage : (stage : Stage) → filter (is_at_stage stage) (s ++ (f ++ (r ++ (t ++ (o ++ i)))))
      ≡ if_stage stage 1 s ++ (if_stage stage 1 f ++ (if_stage stage 0 r
      ++ (if_stage stage 6 t ++ (if_stage stage 2 o ++ if_stage stage 3 i))))
  six_at_stage stage =
      six_staged stage
      ∙ six_joined (staged stage 1 s six.seats) (staged stage 1 f six.reflector) (staged stage 0 r six.rings)
      (staged stage 6 t six.turns) (staged stage 2 o six.outs) (staged stage 3 i six.ins)

  six_by_hand : in_hand_order (s ++ (f ++ (r ++ (t ++ (o ++ i))))) ≡ six_in_order
  six_by_hand =
      ap₂ (λ a b. a ++ b) (six_at_stage First ∙ append-nil r)
      (ap₂ (λ a b. a ++ b) (six_at_stage Between) (six_at_stage Last ∙ append-nil t))
      ∙ ap (λ l. r ++ l) (append_assoc s (f ++ (o ++ i)) t
      ∙ ap (λ l. s ++ l) (append_assoc f (o ++ i) t ∙ ap (λ l. f ++ l) (append_assoc o i t)))

  six_stepped : (step : Step) → settings_at (step_spot step) six_in_order
      ≡ settings_at (step_spot step) r ++ (settings_at (step_spot step) s ++ (settings_at (step_spot step) f
      ++ (settings_at (step_spot step) o ++ (settings_at (step_spot step) i ++ settings_at (step_spot step) t))))
  six_stepped step = rw (filter-append, filter-append, filter-append, filter-append, filter-append) refl

  -- the pieces that are of the step
  six_at_step : (step : Step) → settings_at (step_spot step) six_in_order
      ≡ if_step step 0 r ++ (if_step step 1 s ++ (if_step step 1 f
      ++ (if_step step 2 o ++ (if_step step 3 i ++ if_step step 6 t))))
  six_at_step step =
      six_stepped step
      ∙ six_joined (stepped step 0 r six.rings) (stepped step 1 s six.seats) (stepped step 1 f six.reflector)
      (stepped step 2 o six.outs) (stepped step 3 i six.ins) (stepped step 6 t six.turns)

  six_ranked : IsRanked step_number 0 7 six_in_order
  six_ranked =
      ranked_after step_number 0 7 r _ (omega arith) six.rings (ranked_from step_number 0 1 7 _ (omega arith)
      (ranked_after step_number 1 7 s _ (omega arith) six.seats
      (ranked_after step_number 1 7 f _ (omega arith) six.reflector
      (ranked_from step_number 1 2 7 _ (omega arith) (ranked_after step_number 2 7 o _ (omega arith) six.outs
      (ranked_from step_number 2 3 7 _ (omega arith) (ranked_after step_number 3 7 i _ (omega arith) six.ins
      (ranked_from step_number 3 6 7 _ (omega arith)
      (subst (λ l. IsRanked step_number 6 7 l) (append-nil t)
      (ranked_after step_number 6 7 t [] (omega arith) six.turns tt))))))))))

  six_order : IsRanked row_of 1 14 o → IsRanked row_of 1 14 i → IsRanked row_of 1 5 t → IsRotorOrder six_in_order
  six_order out inside turned = record {
    steps = six_ranked;
    no_pins = six_at_step Pins;
    no_lugs = six_at_step Lugs;
    out = subst (λ l. IsRanked row_of 1 14 l) (sym (six_at_step PlugsOut ∙ append-nil o)) out;
    «in» = subst (λ l. IsRanked row_of 1 14 l) (sym (six_at_step PlugsIn ∙ append-nil i)) inside;
    turns = subst (λ l. IsRanked row_of 1 5 l) (sym (six_at_step Turns)) turned;
  }

-- ---- lists in three pieces, of a Converter

-- Three pieces of a list: pins, letters and lugs.
record AreThree (p t l : List Setting) : Type 0 where
  pins : AllAre step_number 4 p
  turns : AllAre step_number 6 t
  lugs : AllAre step_number 5 l

module _ (p t l : List Setting) (three : AreThree p t l) where
  abbrev three_in_order : List Setting
  three_in_order = p ++ (l ++ t)

  three_staged : (stage : Stage) → filter (is_at_stage stage) ((p ++ t) ++ l)
      ≡ (filter (is_at_stage stage) p ++ filter (is_at_stage stage) t) ++ filter (is_at_stage stage) l
  three_staged stage = rw (filter-append, filter-append) refl

  -- the pieces that are of the stage
  three_at_stage : (stage : Stage) → filter (is_at_stage stage) ((p ++ t) ++ l)
      ≡ (if_stage stage 4 p ++ if_stage stage 6 t) ++ if_stage stage 5 l
  three_at_stage stage =
      three_staged stage
      ∙ ap₂ (λ a b. a ++ b) (ap₂ (λ a b. a ++ b) (staged stage 4 p three.pins) (staged stage 6 t three.turns))
      (staged stage 5 l three.lugs)

  three_left : ((p ++ []) ++ l) ++ (t ++ []) ≡ three_in_order
  three_left = ap₂ (λ a b. (a ++ l) ++ b) (append-nil p) (append-nil t) ∙ append_assoc p l t

  three_by_hand : in_hand_order ((p ++ t) ++ l) ≡ three_in_order
  three_by_hand =
      ap₂ (λ a b. a ++ b) (three_at_stage First)
      (ap₂ (λ a b. a ++ b) (three_at_stage Between) (three_at_stage Last))
      ∙ three_left

  three_stepped : (step : Step) → settings_at (step_spot step) three_in_order
      ≡ settings_at (step_spot step) p ++ (settings_at (step_spot step) l ++ settings_at (step_spot step) t)
  three_stepped step = rw (filter-append, filter-append) refl

  -- the pieces that are of the step
  three_at_step : (step : Step) → settings_at (step_spot step) three_in_order
      ≡ if_step step 4 p ++ (if_step step 5 l ++ if_step step 6 t)
  three_at_step step =
      three_stepped step
      ∙ ap₂ (λ a b. a ++ b) (stepped step 4 p three.pins)
      (ap₂ (λ a b. a ++ b) (stepped step 5 l three.lugs) (stepped step 6 t three.turns))

  three_ranked : IsRanked step_number 4 7 three_in_order
  three_ranked =
      ranked_after step_number 4 7 p _ (omega arith) three.pins (ranked_from step_number 4 5 7 _ (omega arith)
      (ranked_after step_number 5 7 l _ (omega arith) three.lugs (ranked_from step_number 5 6 7 _ (omega arith)
      (subst (λ xs. IsRanked step_number 6 7 xs) (append-nil t)
      (ranked_after step_number 6 7 t [] (omega arith) three.turns tt)))))

  -- settings of other steps are at no pin wheel
  no_pin : (wheel number : ℕ) (xs : List Setting) → nat_eq number 4 ≡ false → AllAre step_number number xs
      → settings_at (row_spot Pins wheel) xs ≡ []
  no_pin wheel number xs other all =
      filter_by step_number (is_at (row_spot Pins wheel)) false number (λ x e. grind (arith, e, other)) xs all

  three_celled : (wheel : ℕ) → settings_at (row_spot Pins wheel) three_in_order ≡ settings_at (row_spot Pins wheel) p
  three_celled wheel =
      let lugs = no_pin wheel 5 l refl three.lugs in
      let turns = no_pin wheel 6 t refl three.turns in
      rw (filter-append, filter-append, lugs, turns, append-nil) refl

  three_order : IsRanked row_of 1 7 p → ((wheel : ℕ) → IsRanked cell_of 0 26 (settings_at (row_spot Pins wheel) p))
      → IsRanked row_of 1 28 l → IsRanked row_of 1 7 t → IsPinOrder three_in_order
  three_order wheels cells bars turned = record {
    steps = three_ranked;
    pins = subst (λ xs. IsRanked row_of 1 7 xs) (sym (three_at_step Pins ∙ append-nil p)) wheels;
    cells = λ wheel. subst (λ xs. IsRanked cell_of 0 26 xs) (sym (three_celled wheel)) (cells wheel);
    lugs = subst (λ xs. IsRanked row_of 1 28 xs) (sym (three_at_step Lugs ∙ append-nil l)) bars;
    turns = subst (λ xs. IsRanked row_of 1 7 xs) (sym (three_at_step Turns)) turned;
  }

-- ---- the pins of a wheel

abbrev itself : ℕ → ℕ
itself number = number

-- a pin's setting, if there is one, before those of later pins
cell_first : (already : Bool) (wheel from letter : ℕ) (effective : Bool) (rest : List Setting) → from ≤ letter
    → letter < 26 → IsRanked cell_of letter 26 rest
    → IsRanked cell_of from 26 (setting_unless already (PinTo wheel letter effective) ++ rest)
cell_first true wheel from letter effective rest below within ranked =
    ranked_from cell_of from letter 26 rest below ranked
cell_first false wheel from letter effective rest below within ranked = (below, within, ranked)

-- the settings of a wheel's pins come in the order of the wheel's letters
cells_ranked : (wheel from : ℕ) (letters : List ℕ) (zs : List (Bool × Bool)) → IsRanked itself from 26 letters
    → IsRanked cell_of from 26 (flat_map (pin_line wheel) (zip letters zs))
cells_ranked wheel from [] zs ranked = tt
cells_ranked wheel from (letter ∷ letters) [] ranked = tt
cells_ranked wheel from (letter ∷ letters) (z ∷ zs) ranked =
    cell_first _ wheel from letter z.1 (flat_map (pin_line wheel) (zip letters zs)) ranked.0 ranked.1
    (cells_ranked wheel letter letters zs ranked.2)

abbrev is_ranked : ℕ → List ℕ → Bool
is_ranked from [] = true
is_ranked from (letter ∷ letters) = nat_le from letter && (nat_lt letter 26 && is_ranked letter letters)

ranked_so : (from : ℕ) (letters : List ℕ) → is_ranked from letters ≡ true → IsRanked itself from 26 letters
ranked_so from [] is = tt
ranked_so from (letter ∷ letters) is =
    let parts = and_parts (nat_le from letter) _ is in
    let more = and_parts (nat_lt letter 26) _ parts.1 in
    (leb-true _ _ parts.0, ltb-true _ _ more.0, ranked_so letter letters more.1)

ring_ranked : (wheel : ℕ) → IsRanked itself 0 26 (ring_of wheel)
unfolding ring_of
ring_ranked zero = tt
ring_ranked (suc zero) = ranked_so 0 (ring_of 1) refl
ring_ranked (suc (suc zero)) = ranked_so 0 (ring_of 2) refl
ring_ranked (suc (suc (suc zero))) = ranked_so 0 (ring_of 3) refl
ring_ranked (suc (suc (suc (suc zero)))) = ranked_so 0 (ring_of 4) refl
ring_ranked (suc (suc (suc (suc (suc zero))))) = ranked_so 0 (ring_of 5) refl
ring_ranked (suc (suc (suc (suc (suc (suc zero)))))) = ranked_so 0 (ring_of 6) refl
ring_ranked (suc (suc (suc (suc (suc (suc (suc more))))))) = tt

wheel_ranked : (wheel : ℕ) (z : List Bool × List Bool) → IsRanked cell_of 0 26 (wheel_pin_lines wheel z)
wheel_ranked wheel z = cells_ranked wheel 0 (ring_of wheel) (zip z.0 z.1) (ring_ranked wheel)

abbrev on_wheel : ℕ → Setting → Bool
on_wheel wheel = is_at (row_spot Pins wheel)

is_on_wheel : (same : Bool) (number wheel : ℕ) → nat_eq number wheel ≡ same → (nat_eq number wheel && true) ≡ same
is_on_wheel true number wheel e = ap (λ b. b && true) e
is_on_wheel false number wheel e = ap (λ b. b && true) e

-- the settings of one wheel's pins, if it is this wheel
pins_here : (wheel number : ℕ) (z : List Bool × List Bool) → nat_eq number wheel ≡ true
    → settings_at (row_spot Pins wheel) (wheel_pin_lines number z) ≡ wheel_pin_lines number z
pins_here wheel number z e =
    filter_all (on_wheel wheel) (wheel_pin_lines number z)
    (pin_lines (on_wheel wheel) number z (λ l s. is_on_wheel true number wheel e))

no_pins_here : (wheel number : ℕ) (z : List Bool × List Bool) → nat_eq number wheel ≡ false
    → settings_at (row_spot Pins wheel) (wheel_pin_lines number z) ≡ []
no_pins_here wheel number z e =
    filter_none (on_wheel wheel) (wheel_pin_lines number z)
    (pin_lines (λ x. not (on_wheel wheel x)) number z (λ l s. ap not (is_on_wheel false number wheel e)))

differs : (number wheel : ℕ) → wheel < number → nat_eq number wheel ≡ false
differs number wheel later = grind (arith, later)

later_pins : (wheel number : ℕ) (zs : List (List Bool × List Bool)) → wheel < number
    → settings_at (row_spot Pins wheel) (lines_from wheel_pin_lines number zs) ≡ []
later_pins wheel number [] later = refl
later_pins wheel number (z ∷ zs) later =
    filter-append (on_wheel wheel) (wheel_pin_lines number z) (lines_from wheel_pin_lines (number + 1) zs)
    ∙ ap₂ (λ a b. a ++ b) (no_pins_here wheel number z (differs number wheel later))
    (later_pins wheel (number + 1) zs (omega (arith, later)))

same_number : (a b : ℕ) → nat_eq a b ≡ true → a ≡ b
same_number a b same = grind (arith, same)

pins_ranked_here : (here : Bool) (wheel number : ℕ) (z : List Bool × List Bool) (zs : List (List Bool × List Bool))
    → nat_eq number wheel ≡ here
    → IsRanked cell_of 0 26 (settings_at (row_spot Pins wheel) (lines_from wheel_pin_lines (number + 1) zs))
    → IsRanked cell_of 0 26 (settings_at (row_spot Pins wheel) (lines_from wheel_pin_lines number (z ∷ zs)))
pins_ranked_here true wheel number z zs e later =
    let none = later_pins wheel (number + 1) zs (omega (arith, same_number number wheel e)) in
    rw (filter-append, pins_here wheel number z e, none, append-nil) (wheel_ranked number z)
pins_ranked_here false wheel number z zs e later = rw (filter-append, no_pins_here wheel number z e) later

pins_ranked : (wheel number : ℕ) (zs : List (List Bool × List Bool))
    → IsRanked cell_of 0 26 (settings_at (row_spot Pins wheel) (lines_from wheel_pin_lines number zs))
pins_ranked wheel number [] = tt
pins_ranked wheel number (z ∷ zs) =
    pins_ranked_here (nat_eq number wheel) wheel number z zs refl (pins_ranked wheel (number + 1) zs)

-- ---- planned lists

same_row : (number : ℕ) → nat_eq number number ≡ true
same_row number = grind arith

not_converter : (model : Model) (reflector : Reflector) → Contains (reflectors_of model) reflector
    → is_converter model ≡ false
not_converter EnigmaI reflector has = refl
not_converter M3 reflector has = refl
not_converter M4 reflector has = refl
not_converter M209 reflector has = absurd (no_rotors M209 reflector refl has)

module _ (m : RotorParts) (s : RotorDay) (to : List ℕ) (legal : IsMachine (Rotor m))
    (day : IsLegalDay (Rotor s)) where
  abbrev cables : List ((Option ℕ × Option ℕ) × Option (ℕ × ℕ))
  cables = with_columns m.cables (columns_of s.pairs) Nothing to

  abbrev seats : List Setting
  seats = lines_from slot_seat_line 1 (zip m.slots s.wheels)

  abbrev reflector : List Setting
  reflector = setting_unless (same_reflector m.reflector s.reflector) (SeatReflector s.reflector)

  abbrev rings : List Setting
  rings = flat_map (wheel_ring_line (Rotor m) s.wheels) (box_of m.model)

  abbrev turns : List Setting
  turns = lines_from (slot_turn_line (Rotor m)) 1 s.wheels

  abbrev outs : List Setting
  outs = lines_from pulls 1 cables

  abbrev ins : List Setting
  ins = lines_from puts 1 cables

  few_slots : (model : Model) → slots_of model ≤ 4
  few_slots EnigmaI = omega arith
  few_slots M3 = omega arith
  few_slots M4 = omega arith
  few_slots M209 = omega arith

  few_wheels : 1 + length s.wheels ≤ 5
  few_wheels = omega (
    arith,
    few_slots s.model,
    day.wheels.count,
    length-map s.wheels (λ (w : SheetWheel). Some w.wheel),
  )

  few_cables : 1 + length cables ≤ 14
  few_cables = omega (
    arith,
    zip_within m.cables (map (λ j. slice_index_or (columns_of s.pairs) j Nothing) to),
    legal.legal.cables.count,
  )

  rotor_pieces : AreSix seats reflector rings turns outs ins
  rotor_pieces = record {
    seats = all_are step_number 1 seats (all_lines (is_step 1) slot_seat_line 1 (zip m.slots s.wheels)
        (λ n z. seat_line (is_step 1) n z (λ w. refl)));
    reflector = all_are step_number 1 reflector (all_unless (is_step 1) (same_reflector m.reflector s.reflector)
        (SeatReflector s.reflector) refl);
    rings = all_are step_number 0 rings (all_flat (is_step 0) (wheel_ring_line (Rotor m) s.wheels) (box_of m.model)
        (λ wheel. ring_line (is_step 0) (Rotor m) s.wheels wheel (λ w l. refl)));
    turns = all_are step_number 6 turns (all_lines (is_step 6) (slot_turn_line (Rotor m)) 1 s.wheels
        (λ n w. turn_line (is_step 6) (Rotor m) n w (λ l. refl)));
    outs = all_are step_number 2 outs (all_lines (is_step 2) pulls 1 cables
        (λ n z. out_moves (is_step 2) n z (λ l. refl)));
    ins = all_are step_number 3 ins (all_lines (is_step 3) puts 1 cables
        (λ n z. in_moves (is_step 3) n z (λ l. refl)));
  }

  rotor_order : IsRotorOrder (six_in_order seats reflector rings turns outs ins rotor_pieces)
  rotor_order = six_order seats reflector rings turns outs ins rotor_pieces
      (ranked_lines row_of pulls
      (λ n z. all_are row_of n _ (out_moves (is_row n) n z (λ l. same_row n))) 1 14 cables few_cables)
      (ranked_lines row_of puts
      (λ n z. all_are row_of n _ (in_moves (is_row n) n z (λ l. same_row n))) 1 14 cables few_cables)
      (ranked_lines row_of (slot_turn_line (Rotor m))
      (λ n w. all_are row_of n _ (turn_line (is_row n) (Rotor m) n w (λ l. same_row n))) 1 5 s.wheels few_wheels)

  rotor_hand : in_hand_order (planned_lines (Rotor m) (Rotor s) to)
      ≡ six_in_order seats reflector rings turns outs ins rotor_pieces
  rotor_hand =
      let joined : planned_lines (Rotor m) (Rotor s) to
      ≡ seats ++ (reflector ++ (rings ++ (turns ++ (outs ++ ins)))) = simp append_assoc in
      ap in_hand_order joined ∙ six_by_hand seats reflector rings turns outs ins rotor_pieces

  rotor_hand_order : IsRotorOrder (in_hand_order (planned_lines (Rotor m) (Rotor s) to))
  rotor_hand_order = subst IsRotorOrder (sym rotor_hand) rotor_order

module _ (m : PinParts) (s : PinDay) (to : List ℕ) (legal : IsMachine (Pin m)) where
  abbrev bars : List ((Place × Place) × (ℕ × ℕ))
  bars = with_columns m.bars s.rows (0, 0) to

  abbrev pins : List Setting
  pins = lines_from wheel_pin_lines 1 (zip (pins_of m.pins) (pins_of s.pins))

  abbrev wheel_turns : List Setting
  wheel_turns = lines_from pin_wheel_turn_line 1 (zip m.letters s.window)

  abbrev lugs : List Setting
  lugs = lines_from bar_moves 1 bars

  few_bars : 1 + length bars ≤ 28
  few_bars = omega (arith, zip_within m.bars (map (λ j. slice_index_or s.rows j (0, 0)) to), legal.legal.bars)

  few_letters : 1 + length (zip m.letters s.window) ≤ 7
  few_letters = omega (arith, zip_within m.letters s.window, legal.legal.letters.count)

  pin_pieces : AreThree pins wheel_turns lugs
  pin_pieces = record {
    pins = all_are step_number 4 pins (all_lines (is_step 4) wheel_pin_lines 1 (zip (pins_of m.pins) (pins_of s.pins))
        (λ n z. pin_lines (is_step 4) n z (λ l e. refl)));
    turns = all_are step_number 6 wheel_turns (all_lines (is_step 6) pin_wheel_turn_line 1 (zip m.letters s.window)
        (λ n z. wheel_turn_line (is_step 6) n z (λ l. refl)));
    lugs = all_are step_number 5 lugs (all_lines (is_step 5) bar_moves 1 bars
        (λ n z. lug_moves (is_step 5) n z (λ lug place. refl)));
  }

  pin_order : IsPinOrder (three_in_order pins wheel_turns lugs pin_pieces)
  pin_order = three_order pins wheel_turns lugs pin_pieces
      (ranked_lines row_of wheel_pin_lines
      (λ n z. all_are row_of n _ (pin_lines (is_row n) n z (λ l e. same_row n))) 1 7
      (zip (pins_of m.pins) (pins_of s.pins)) (omega arith))
      (λ wheel. pins_ranked wheel 1 (zip (pins_of m.pins) (pins_of s.pins)))
      (ranked_lines row_of bar_moves
      (λ n z. all_are row_of n _ (lug_moves (is_row n) n z (λ lug place. same_row n))) 1 28 bars few_bars)
      (ranked_lines row_of pin_wheel_turn_line
      (λ n z. all_are row_of n _ (wheel_turn_line (is_row n) n z (λ l. same_row n))) 1 7 (zip m.letters s.window)
      few_letters)

  pin_hand_order : IsPinOrder (in_hand_order (planned_lines (Pin m) (Pin s) to))
  pin_hand_order = subst IsPinOrder (sym (three_by_hand pins wheel_turns lugs pin_pieces)) pin_order

-- A planned list in an order for the hand is in the order of the page.
pub page_order : (m : Parts) (s : Day) (to : List ℕ) → IsMachine m → IsLegalDay s → model_of m ≡ day_model s
    → IsPageOrder m (in_hand_order (planned_lines m s to))
page_order (Rotor m) (Rotor s) to legal day same = rotor_hand_order m s to legal day
page_order (Pin m) (Pin s) to legal day same = pin_hand_order m s to legal
page_order (Rotor m) (Pin s) to legal day same = absurd (no_rotors m.model m.reflector same legal.legal.reflector)
page_order (Pin m) (Rotor s) to legal day same =
    record { steps = tt; pins = tt; cells = λ wheel. tt; lugs = tt; turns = tt }

-- The boxes of settings in the order of the page, read from the top, are these settings.
pub page_has_boxes : (m : Parts) → IsMachine m → (settings : List Setting) → IsPageOrder m settings
    → page_boxes (model_of m) settings ≡ settings
page_has_boxes (Rotor m) legal settings order =
    rw (not_converter m.model m.reflector legal.legal.reflector) (rotor_boxes_are settings order)
page_has_boxes (Pin m) legal settings order = pin_boxes_are settings order
