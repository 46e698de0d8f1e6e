-- What holds of each setting of a kind holds of all settings of this kind that the planner gives.
use Rattle.std.proofs.Common.{◌≡◌, ℕ, ◌+◌, Bool, true, false, ◌&&◌, List, [], ◌∷◌, ◌++◌, arith, refl, ap₂, ◌∙◌, map}
use Rattle.std.proofs.Common.{Option, Some, None}
use Rattle.std.specs.List.{list_all, flat_map}
use Rattle.std.specs.Option.{option_map_or}
use Rattle.std.specs.Prelude.{find, zip, unwrap_or, nat_lt, if◌then◌else◌}
use Rattle.std.proofs.lemmas.List.Folds.{list_all-append}
use Rattle.kd_tables.specs.declared.lug.Lug.{Lug}
use Rattle.kd_tables.specs.declared.lug.Lug.TheVariants.{Left, Right}
use Rattle.kd_tables.specs.declared.place.Place.{Place}
use Rattle.kd_tables.specs.declared.wheel.Wheel.{Wheel}
use Rattle.kd_tables.specs.Places.{place_rank}
use Rattle.kd_tables.specs.Rings.{ring_of}
use Rattle.kd_state.specs.declared.machine.parts.Parts.{Parts}
use Rattle.kd_state.specs.declared.setting.Setting.{Setting}
use Rattle.kd_state.specs.declared.setting.Setting.TheVariants.{Pull, Put, Seat, RingTo, Turn, PinTo, LugTo}
use Rattle.kd_state.specs.declared.sheet_day.rotor_entry.SheetWheel.{SheetWheel}
use Rattle.kd_state.specs.Costs.{column_letters, nearest_standing}
use Rattle.kd_state.specs.Machine.{cable_letters}
use Rattle.kd_state.specs.OnKey.{pair_in_order}
use Rattle.kd_state.specs.SameParts.{same_wheel}
use Rattle.kd_state.specs.Setting.{is_same_place}
use Rattle.kd_card.specs.Loose.{setting_unless, lines_from, slot_seat_line, slot_turn_line, wheel_ring_line}
use Rattle.kd_card.specs.Loose.{pin_line, wheel_pin_lines, pin_wheel_turn_line}
unfoldable use Rattle.kd_plan.specs.Moves.{bar_moves}
use Rattle.kd_plan.specs.Moves.{letters_outside}

-- the settings PULL and PUT of a cable, as the planner gives them
abbrev pub pulls : ℕ → (Option ℕ × Option ℕ) × Option (ℕ × ℕ) → List Setting
pulls cable z = map (λ letter. Pull cable letter) (letters_outside (cable_letters z.0) (column_letters z.1))

abbrev pub puts : ℕ → (Option ℕ × Option ℕ) × Option (ℕ × ℕ) → List Setting
puts cable z =
    map (λ letter. Put cable letter) (letters_outside (column_letters (pair_in_order z.1)) (cable_letters z.0))

module _ (p : Setting → Bool) where
  pub all_unless : (so : Bool) (x : Setting) → p x ≡ true → list_all p (setting_unless so x) ≡ true
  all_unless true x passes = refl
  all_unless false x passes = grind (arith)

  all_option : {Z : Type 0} (lines : Z → List Setting) (one : Option Z)
      → ((z : Z) → list_all p (lines z) ≡ true) → list_all p (option_map_or lines one []) ≡ true
  all_option lines None each = refl
  all_option lines (Some z) each = each z

  all_if : (first : Bool) (xs ys : List Setting) → list_all p xs ≡ true → list_all p ys ≡ true
      → list_all p (if first then xs else ys) ≡ true
  all_if true xs ys one two = one
  all_if false xs ys one two = two

  pub all_both : (xs ys : List Setting) → list_all p xs ≡ true → list_all p ys ≡ true → list_all p (xs ++ ys) ≡ true
  all_both xs ys one two = list_all-append p xs ys ∙ ap₂ (λ a b. a && b) one two

  pub all_lines : {Z : Type 0} (lines : ℕ → Z → List Setting) (number : ℕ) (zs : List Z)
      → ((n : ℕ) (z : Z) → list_all p (lines n z) ≡ true) → list_all p (lines_from lines number zs) ≡ true
  all_lines lines number [] each = refl
  all_lines lines number (z ∷ zs) each =
      all_both (lines number z) _ (each number z) (all_lines lines (number + 1) zs each)

  pub all_flat : {Z : Type 0} (lines : Z → List Setting) (zs : List Z)
      → ((z : Z) → list_all p (lines z) ≡ true) → list_all p (flat_map lines zs) ≡ true
  all_flat lines [] each = refl
  all_flat lines (z ∷ zs) each = all_both (lines z) _ (each z) (all_flat lines zs each)

  all_mapped : (f : ℕ → Setting) (letters : List ℕ) → ((letter : ℕ) → p (f letter) ≡ true)
      → list_all p (map f letters) ≡ true
  all_mapped f [] each = refl
  all_mapped f (letter ∷ letters) each = ap₂ (λ a b. a && b) (each letter) (all_mapped f letters each)

  -- ---- a kind of settings each

  pub seat_line : (slot : ℕ) (z : Option Wheel × SheetWheel) → ((wheel : Wheel) → p (Seat slot wheel) ≡ true)
      → list_all p (slot_seat_line slot z) ≡ true
  seat_line slot z each = all_unless _ _ (each z.1.wheel)

  pub ring_line : (m : Parts) (wheels : List SheetWheel) (wheel : Wheel)
      → ((ring : Wheel) (letter : ℕ) → p (RingTo ring letter) ≡ true)
      → list_all p (wheel_ring_line m wheels wheel) ≡ true
  ring_line m wheels wheel each = all_option _ (find (λ (w : SheetWheel). same_wheel wheel w.wheel) wheels)
      (λ w. all_unless _ _ (each w.wheel w.ring))

  pub turn_line : (m : Parts) (slot : ℕ) (w : SheetWheel) → ((letter : ℕ) → p (Turn slot letter) ≡ true)
      → list_all p (slot_turn_line m slot w) ≡ true
  turn_line m slot w each = all_unless _ _ (each w.letter)

  pub out_moves : (cable : ℕ) (z : (Option ℕ × Option ℕ) × Option (ℕ × ℕ))
      → ((letter : ℕ) → p (Pull cable letter) ≡ true) → list_all p (pulls cable z) ≡ true
  out_moves cable z each =
      all_mapped (λ letter. Pull cable letter) (letters_outside (cable_letters z.0) (column_letters z.1)) each

  pub in_moves : (cable : ℕ) (z : (Option ℕ × Option ℕ) × Option (ℕ × ℕ))
      → ((letter : ℕ) → p (Put cable letter) ≡ true) → list_all p (puts cable z) ≡ true
  in_moves cable z each =
      all_mapped (λ letter. Put cable letter)
      (letters_outside (column_letters (pair_in_order z.1)) (cable_letters z.0)) each

  pub pin_lines : (wheel : ℕ) (z : List Bool × List Bool)
      → ((letter : ℕ) (effective : Bool) → p (PinTo wheel letter effective) ≡ true)
      → list_all p (wheel_pin_lines wheel z) ≡ true
  pin_lines wheel z each =
      all_flat (pin_line wheel) (zip (ring_of wheel) (zip z.0 z.1)) (λ y. all_unless _ _ (each y.0 y.1.1))

  pub wheel_turn_line : (wheel : ℕ) (z : ℕ × ℕ) → ((letter : ℕ) → p (Turn wheel letter) ≡ true)
      → list_all p (pin_wheel_turn_line wheel z) ≡ true
  wheel_turn_line wheel z each = all_unless _ _ (each z.1)

  pub lug_moves : (bar : ℕ) (z : (Place × Place) × (ℕ × ℕ))
      → ((lug : Lug) (place : Place) → p (LugTo bar lug place) ≡ true) → list_all p (bar_moves bar z) ≡ true
  unfolding bar_moves
  lug_moves number (bar, row) each =
      let target = unwrap_or (nearest_standing bar row) bar in
      let left : List Setting = setting_unless (is_same_place bar.0 target.0) (LugTo number Left target.0) in
      let right : List Setting = setting_unless (is_same_place bar.1 target.1) (LugTo number Right target.1) in
      let l = all_unless (is_same_place bar.0 target.0) (LugTo number Left target.0) (each Left target.0) in
      let r = all_unless (is_same_place bar.1 target.1) (LugTo number Right target.1) (each Right target.1) in
      all_if (nat_lt (place_rank target.0) (place_rank bar.1)) (left ++ right) (right ++ left)
      (all_both left right l r) (all_both right left r l)
