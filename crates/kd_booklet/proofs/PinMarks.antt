-- On a Converter, each setting of a planned list has a mark.
use Rattle.std.proofs.Common.{◌≡◌, ◌<◌, ℕ, suc, Bool, not, List, map, zip, All, arith, sym, ap, subst, ◌∙◌, Some}
use Rattle.std.proofs.Common.{IsPermutation, get_or, nat_eq, length}
use Rattle.std.specs.Prelude.{Option, option_map, slice_get, nat_lt}
use Rattle.std.specs.List.{AllByRecursion, range_with_len}
use Rattle.std.proofs.lemmas.List.{length-map, FromFn.{get_or-range_with_len, length-range_with_len}}
use Rattle.std.proofs.lemmas.List.Elements.{All-append}
use Rattle.std.proofs.lemmas.Option.{slice_get-map, slice_get-get_or, slice_get_within}
use Rattle.std.proofs.lemmas.Slice.Zip.{firsts-zip}
use Rattle.kd_tables.specs.declared.lug.Lug.TheVariants.{Left, Right}
use Rattle.kd_tables.specs.Places.{place_rank}
use Rattle.kd_tables.specs.Rings.{place_on, ring_of}
use Rattle.kd_pins.specs.PinWheels.{pins_of}
use Rattle.kd_pins.specs.declared.pin_set.PinSet.{PinSet}
use Rattle.kd_state.specs.declared.machine.parts.Parts.TheVariants.{Pin}
use Rattle.kd_state.specs.declared.machine.pin_parts.PinParts.{PinParts}
use Rattle.kd_state.specs.declared.setting.Setting.{Setting}
use Rattle.kd_state.specs.declared.setting.Setting.TheVariants.{Turn, PinTo, LugTo}
use Rattle.kd_state.specs.Costs.{exactly_one}
use Rattle.kd_state.specs.Machine.{IsMachine}
use Rattle.kd_state.specs.OnKey.{ReadsAs}
use Rattle.kd_state.specs.Pins.{pin_at}
use Rattle.kd_state.specs.Setting.{Leads, is_same_place}
use Rattle.kd_state.specs.SheetDay.{IsLegalDay, Pin, PinDay}
use Rattle.kd_state.proofs.Carrying.{leads_unique}
use Rattle.kd_state.proofs.Slots.{letters_have_places}
use Rattle.kd_card.specs.Loose.{lines_from, loose_lines, pin_line, pin_wheel_turn_line, setting_unless, wheel_pin_lines}
use Rattle.kd_card.proofs.Leading.{Led, led_append, pins_led}
use Rattle.kd_plan.specs.Moves.{planned_lines}
unfoldable use Rattle.kd_plan.specs.Moves.{bar_moves}
use Rattle.kd_plan.proofs.Planning.FewCables.Sparing.Moving.{BarRow, are_movable, lugs_lead, to_stand, with_bars}
use Rattle.kd_plan.proofs.Planning.FewCables.Sparing.Moving.Cables.{bars_with_rows}
use Rattle.kd_booklet.specs.SettingChanges.{Changes}
use Rattle.kd_booklet.proofs.EachSetting.{All-either_order, All-flat_map, All-lines, All-unless, slice_get-zip}

-- ---- pins and window letters: machine `n` has them as the day says

-- The pin at a letter is the pin at the letter's place on its wheel.
pin_there : (pins : PinSet) (k j letter : ℕ) (list : List Bool) (effective : Bool)
    → slice_get (pins_of pins) k ≡ Some list
    → slice_get (ring_of (suc k)) j ≡ Some letter → slice_get list j ≡ Some effective
    → pin_at pins (suc k) letter ≡ Some effective
pin_there pins k j letter list effective lists letters is =
    let ring = ring_of (suc k) in
    let places = ap (λ (xs : List (Option ℕ)). slice_get xs j) (letters_have_places (suc k)) in
    let lt = slice_get_within ring j letter letters in
    let number = slice_get-get_or (range_with_len 0 (length ring)) j 0
    (omega (arith, lt, length-range_with_len 0 (length ring))) in
    let placed : place_on ring letter ≡ Some j =
    grind (arith, slice_get-map, get_or-range_with_len, letters, places, number, lt) in
    grind (arith, lists, placed, is)

module _ (m n : PinParts) (s : PinDay) (reads : ReadsAs (Pin n) (Pin s)) where
  abbrev P : Setting → Type 0
  P = Changes (Pin m) (Pin n)

  pins_marked : All P (lines_from wheel_pin_lines 1 (zip (pins_of m.pins) (pins_of s.pins)))
  pins_marked = All-lines P wheel_pin_lines (zip (pins_of m.pins) (pins_of s.pins)) (λ k z at.
      let lists = slice_get-zip (pins_of m.pins) (pins_of s.pins) k z at in
      let ring = ring_of (suc k) in
      All-flat_map P (pin_line (suc k)) (zip ring (zip z.0 z.1)) (λ j y is.
      let cell = slice_get-zip ring (zip z.0 z.1) j y is in
      let pins = slice_get-zip z.0 z.1 j y.1 cell.1 in
      let old = pin_there m.pins k j y.0 z.0 y.1.0 lists.0 cell.0 pins.0 in
      let new = pin_there s.pins k j y.0 z.1 y.1.1 lists.1 cell.0 pins.1 in
      All-unless P (not (exactly_one y.1.0 y.1.1)) (PinTo (suc k) y.0 y.1.1) (λ other.
      (λ so. absurd (grind (arith, old, other, so)), ap (λ set. pin_at set (suc k) y.0) reads.key.0 ∙ new))))

  letters_marked : All P (lines_from pin_wheel_turn_line 1 (zip m.letters s.window))
  letters_marked = All-lines P pin_wheel_turn_line (zip m.letters s.window) (λ k z at.
      let parts = slice_get-zip m.letters s.window k z at in
      All-unless P (nat_eq z.0 z.1) (Turn (suc k) z.1) (λ other.
      (λ so. absurd (grind (arith, parts.0, other, so)), ap (λ letters. slice_get letters k) reads.window ∙ parts.1)))

  loose_marked : All P (loose_lines (Pin m) (Pin s))
  loose_marked = All-append P _ _ pins_marked letters_marked

-- ---- lugs: afterwards each bar has its target

module _ (m a : PinParts) (zs : List BarRow) (begins : map (λ (z : BarRow). z.0) zs ≡ m.bars) where
  abbrev Q : Setting → Type 0
  Q = Changes (Pin m) (with_bars a (map to_stand zs))

  lugs_marked : All Q (lines_from bar_moves 1 zs)
  unfolding bar_moves
  lugs_marked = All-lines Q bar_moves zs (λ k z at.
      let was = ap (λ bars. slice_get bars k) (sym begins) ∙ slice_get-map (λ (v : BarRow). v.0) zs k
      ∙ ap (option_map (λ (v : BarRow). v.0)) at in
      let is = slice_get-map to_stand zs k ∙ ap (option_map to_stand) at in
      let left = LugTo (suc k) Left (to_stand z).0 in
      let right = LugTo (suc k) Right (to_stand z).1 in
      All-either_order Q (nat_lt (place_rank (to_stand z).0) (place_rank z.0.1))
      (setting_unless (is_same_place z.0.0 (to_stand z).0) left)
      (setting_unless (is_same_place z.0.1 (to_stand z).1) right)
      (All-unless Q (is_same_place z.0.0 (to_stand z).0) left (λ other.
      (λ so. absurd (grind (arith, was, so, other)), ap (option_map (λ bar. bar.0)) is)))
      (All-unless Q (is_same_place z.0.1 (to_stand z).1) right (λ other.
      (λ so. absurd (grind (arith, was, so, other)), ap (option_map (λ bar. bar.1)) is))))

-- ---- all settings

module _ (m : PinParts) (s : PinDay) (machine : IsMachine (Pin m)) (legal : IsLegalDay (Pin s)) (to : List ℕ)
    (count : length to ≡ 27) (within : AllByRecursion (λ j. j < length s.rows) to)
    (order : IsPermutation s.rows (map (λ j. get_or s.rows j (0, 0)) to)) where
  abbrev zs : List BarRow
  zs = bars_with_rows m.bars s.rows to

  -- the machine before the settings for lugs
  abbrev before : PinParts
  before = record m { pins = s.pins; letters = s.window }

  begins : map (λ (z : BarRow). z.0) zs ≡ m.bars
  begins = firsts-zip m.bars (map (λ j. get_or s.rows j (0, 0)) to)
      (omega (arith, machine.legal.bars, count, length-map to (λ j. get_or s.rows j (0, 0))))

  all_led : Led (Pin m) (planned_lines (Pin m) (Pin s) to) (with_bars before (map to_stand zs))
  all_led =
      led_append _ _ (pins_led m s machine legal)
      (lugs_lead before zs begins (are_movable m s machine legal to count within order))

  pub pin_marked : (n : PinParts) → Leads (Pin m) (planned_lines (Pin m) (Pin s) to) (Pin n)
      → ReadsAs (Pin n) (Pin s) → All (Changes (Pin m) (Pin n)) (planned_lines (Pin m) (Pin s) to)
  pin_marked n leads reads =
      let one = leads_unique (Pin m) (with_bars before (map to_stand zs)) (Pin n)
      (planned_lines (Pin m) (Pin s) to) all_led.leads leads in
      All-append (Changes (Pin m) (Pin n)) _ _ (loose_marked m n s reads)
      (subst (λ p. All (Changes (Pin m) p) (lines_from bar_moves 1 zs)) one (lugs_marked m before zs begins))
