-- A planned card in an order for the hand leads to the day, and is as short.
use Rattle.std.proofs.Common.{◌≡◌, ℕ, ◌≤◌, Bool, true, not, List, [], ◌∷◌, ◌++◌, append_assoc, length, refl, subst}
use Rattle.std.proofs.Common.{sym}
use Rattle.std.proofs.Common.{None as Nothing}
use Rattle.std.specs.List.{list_all, flat_map}
use Rattle.std.specs.Prelude.{zip}
use Rattle.std.proofs.lemmas.List.Sorted.{length_permutation}
use Rattle.kd_tables.specs.Tables.{box_of}
use Rattle.kd_pins.specs.PinWheels.{pins_of}
use Rattle.kd_state.specs.declared.machine.parts.Parts.{Parts}
use Rattle.kd_state.specs.declared.machine.parts.Parts.TheVariants.{Rotor, Pin}
use Rattle.kd_state.specs.declared.machine.pin_parts.PinParts.{PinParts}
use Rattle.kd_state.specs.declared.machine.rotor_parts.RotorParts.{RotorParts}
use Rattle.kd_state.specs.declared.setting.Setting.{Setting}
use Rattle.kd_state.specs.declared.setting.Setting.TheVariants.{SeatReflector, Turn}
use Rattle.kd_state.specs.Costs.{columns_of}
use Rattle.kd_state.specs.SameParts.{same_reflector}
use Rattle.kd_state.specs.SheetDay.{Day, Rotor, Pin, RotorDay, PinDay}
use Rattle.kd_card.specs.declared.prices.PriceParts.{PriceParts}
use Rattle.kd_card.specs.Loose.{setting_unless, lines_from, slot_seat_line, slot_turn_line, wheel_ring_line}
use Rattle.kd_card.specs.Loose.{wheel_pin_lines, pin_wheel_turn_line}
use Rattle.kd_plan.specs.Moves.{bar_moves, planned_lines, with_columns}
use Rattle.kd_plan.specs.Planned.{IsProvedPlannedCard}
use Rattle.kd_booklet.specs.declared.stages.Stage.TheVariants.{Windows}
use Rattle.kd_booklet.specs.HandOrder.{is_at_stage, in_hand_order, is_seat, seats_before_turning}
use Rattle.kd_booklet.specs.HandList.{IsHandList}
use Rattle.kd_booklet.proofs.HandOrders.{no_seats, hand_order_leads, hand_order_permutes}
use Rattle.kd_booklet.proofs.PlannedPieces.{all_both, all_flat, all_lines, all_unless, in_moves, lug_moves, out_moves}
use Rattle.kd_booklet.proofs.PlannedPieces.{pin_lines, pulls, puts, ring_line, seat_line, turn_line, wheel_turn_line}

abbrev no_turn : Setting → Bool
no_turn x = not (is_at_stage Windows x)

abbrev no_seat : Setting → Bool
no_seat x = not (is_seat x)

skips : (xs ys : List Setting) → list_all no_turn xs ≡ true → seats_before_turning ys ≡ true
    → seats_before_turning (xs ++ ys) ≡ true
skips [] ys none before = before
skips (Turn slot letter ∷ xs) ys none before = absurd (cc)
skips (_ ∷ xs) ys none before = skips xs ys none before

rotor_turns_last : (m : RotorParts) (s : RotorDay) (to : List ℕ)
    → seats_before_turning (planned_lines (Rotor m) (Rotor s) to) ≡ true
rotor_turns_last m s to =
    let cables = with_columns m.cables (columns_of s.pairs) Nothing to in
    let seats = lines_from slot_seat_line 1 (zip m.slots s.wheels) in
    let reflector = setting_unless (same_reflector m.reflector s.reflector) (SeatReflector s.reflector) in
    let rings = flat_map (wheel_ring_line (Rotor m) s.wheels) (box_of m.model) in
    let turns = lines_from (slot_turn_line (Rotor m)) 1 s.wheels in
    let outs = lines_from pulls 1 cables in
    let ins = lines_from puts 1 cables in
    let last : seats_before_turning (turns ++ (outs ++ ins)) ≡ true = no_seats (turns ++ (outs ++ ins))
    (all_both no_seat turns (outs ++ ins)
    (all_lines no_seat (slot_turn_line (Rotor m)) 1 s.wheels (λ n w. turn_line no_seat (Rotor m) n w (λ l. refl)))
    (all_both no_seat outs ins
    (all_lines no_seat pulls 1 cables (λ n z. out_moves no_seat n z (λ l. refl)))
    (all_lines no_seat puts 1 cables (λ n z. in_moves no_seat n z (λ l. refl))))) in
    let first = skips seats (reflector ++ (rings ++ (turns ++ (outs ++ ins))))
    (all_lines no_turn slot_seat_line 1 (zip m.slots s.wheels) (λ n z. seat_line no_turn n z (λ w. refl)))
    (skips reflector (rings ++ (turns ++ (outs ++ ins))) (all_unless no_turn _ _ refl)
    (skips rings (turns ++ (outs ++ ins))
    (all_flat no_turn (wheel_ring_line (Rotor m) s.wheels) (box_of m.model)
    (λ wheel. ring_line no_turn (Rotor m) s.wheels wheel (λ w l. refl)))
    last)) in
    simp append_assoc first

pin_turns_last : (m : PinParts) (s : PinDay) (to : List ℕ)
    → seats_before_turning (planned_lines (Pin m) (Pin s) to) ≡ true
pin_turns_last m s to =
    let bars = with_columns m.bars s.rows (0, 0) to in
    let pins = lines_from wheel_pin_lines 1 (zip (pins_of m.pins) (pins_of s.pins)) in
    let turns = lines_from pin_wheel_turn_line 1 (zip m.letters s.window) in
    let lugs = lines_from bar_moves 1 bars in
    no_seats (pins ++ turns ++ lugs) (all_both no_seat (pins ++ turns) lugs
    (all_both no_seat pins turns
    (all_lines no_seat wheel_pin_lines 1 (zip (pins_of m.pins) (pins_of s.pins))
    (λ n z. pin_lines no_seat n z (λ l e. refl)))
    (all_lines no_seat pin_wheel_turn_line 1 (zip m.letters s.window)
    (λ n z. wheel_turn_line no_seat n z (λ l. refl))))
    (all_lines no_seat bar_moves 1 bars (λ n z. lug_moves no_seat n z (λ lug place. refl))))

pub planned_turns_last : (m : Parts) (s : Day) (to : List ℕ) → seats_before_turning (planned_lines m s to) ≡ true
planned_turns_last (Rotor m) (Rotor s) to = rotor_turns_last m s to
planned_turns_last (Pin m) (Pin s) to = pin_turns_last m s to
planned_turns_last (Rotor m) (Pin s) to = refl
planned_turns_last (Pin m) (Rotor s) to = refl

pub hand_list : (m : Parts) (s : Day) (planned settings : List Setting) (prices : PriceParts)
    → IsProvedPlannedCard m s planned prices → settings ≡ in_hand_order planned → IsHandList m s settings
hand_list m s planned settings prices proved is =
    let before = subst (λ xs. seats_before_turning xs ≡ true) (sym proved.planned.lines)
    (planned_turns_last m s proved.planned.to) in
    let same = hand_order_permutes planned in
    let size = length_permutation planned (in_hand_order planned) same in
    rw is (record {
      planned = planned;
      prices = prices;
      of_planner = proved;
      order = refl;
      same = same;
      leads = (proved.leads.0, hand_order_leads m proved.leads.0 planned before proved.leads.1, proved.leads.2);
      shortest = λ others leads. subst (λ n. n ≤ length others) (sym size) (proved.shortest others leads);
    })
