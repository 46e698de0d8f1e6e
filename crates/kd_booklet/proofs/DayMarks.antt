-- Each setting of a day's list has a mark.
use Rattle.std.proofs.Common.{◌≡◌, List, All, IsPermutation, None as Nothing, ap, subst, sym, ◌∙◌, length}
use Rattle.std.proofs.lemmas.List.{length-map}
use Rattle.std.proofs.lemmas.List.Sorted.{All-permutation}
use Rattle.kd_state.specs.declared.machine.parts.Parts.{Parts}
use Rattle.kd_state.specs.declared.machine.parts.Parts.TheVariants.{Pin, Rotor}
use Rattle.kd_state.specs.declared.setting.Setting.{Setting}
use Rattle.kd_state.specs.Costs.{columns_of}
use Rattle.kd_state.specs.Machine.{IsMachine}
use Rattle.kd_state.specs.OnKey.{ReadsAs}
use Rattle.kd_state.specs.Setting.{Leads}
use Rattle.kd_state.specs.SheetDay.{Day, IsLegalDay, Pin, Rotor}
use Rattle.kd_state.proofs.Carrying.{leads_unique}
use Rattle.kd_state.proofs.CostTable.{thirteen_columns}
use Rattle.kd_card.proofs.Months.Shortest.{no_rotors}
use Rattle.kd_card.specs.declared.prices.PriceParts.{PriceParts}
use Rattle.kd_plan.specs.Moves.{planned_lines}
use Rattle.kd_plan.specs.Planned.{IsPlannedCard}
use Rattle.kd_plan.proofs.Planning.{IsPermutation-assigned, all_within, planned_lines_lead}
use Rattle.kd_booklet.specs.HandOrder.{in_hand_order}
use Rattle.kd_booklet.specs.SettingChanges.{DaySettingsChangeThings, Changes}
use Rattle.kd_booklet.proofs.HandOrders.{hand_order_leads}
use Rattle.kd_booklet.proofs.PinMarks.{pin_marked}
use Rattle.kd_booklet.proofs.PlannedOrder.{planned_turns_last}
use Rattle.kd_booklet.proofs.RotorMarks.{rotor_marked}

-- The settings of a planned card have marks.
planned_marked : (m n : Parts) (s : Day) (settings : List Setting) (prices : PriceParts) → IsMachine m → IsLegalDay s
    → (card : IsPlannedCard m s settings prices) → Leads m (planned_lines m s card.to) n → ReadsAs n s
    → All (Changes m n) (planned_lines m s card.to)
planned_marked (Rotor m) (Rotor n) (Rotor s) settings prices machine legal card leads reads =
    let count : length card.to ≡ 13 = card.all_rows ∙ length-map m.cables _ ∙ machine.legal.cables.count in
    let many = count ∙ sym (thirteen_columns s.pairs legal.pairs.few) in
    rotor_marked m s machine legal card.model card.to count
    (IsPermutation-assigned Nothing (columns_of s.pairs) card.to many card.one_to_one) n leads reads
planned_marked (Pin m) (Pin n) (Pin s) settings prices machine legal card leads reads =
    let count : length card.to ≡ 27 = card.all_rows ∙ length-map m.bars _ ∙ machine.legal.bars in
    let many = count ∙ sym legal.count in
    pin_marked m s machine legal card.to count (all_within card.to (length s.rows) many card.one_to_one)
    (IsPermutation-assigned (0, 0) s.rows card.to many card.one_to_one) n leads reads
planned_marked (Rotor m) n (Pin s) settings prices machine legal card leads reads =
    absurd (no_rotors m.model m.reflector card.model machine.legal.reflector)
planned_marked (Pin m) n (Rotor s) settings prices machine legal card leads reads =
    absurd (no_rotors s.model s.reflector (sym card.model) legal.reflector)
planned_marked (Rotor m) (Pin n) (Rotor s) settings prices machine legal card leads reads = absurd reads.key
planned_marked (Pin m) (Rotor n) (Pin s) settings prices machine legal card leads reads = absurd reads.key

-- In an order for the hand, the planned settings lead to the same machine. So they have the same marks.
pub day_settings_have_marks : DaySettingsChangeThings
day_settings_have_marks m n s plan machine legal day =
    let planned = day.by_hand.of_planner.planned in
    let lines = planned_lines m s planned.to in
    let led = planned_lines_lead m s planned.to machine legal planned.model planned.all_rows planned.one_to_one in
    let by_hand = hand_order_leads m led.0 lines (planned_turns_last m s planned.to) led.1 in
    let settings : plan.settings.items ≡ in_hand_order lines = day.by_hand.order ∙ ap in_hand_order planned.lines in
    let leads : Leads m (in_hand_order lines) n = subst (λ xs. Leads m xs n) settings day.leads in
    let one = leads_unique m led.0 n (in_hand_order lines) by_hand leads in
    let order : IsPermutation lines plan.settings.items =
    subst (λ xs. IsPermutation xs plan.settings.items) planned.lines day.by_hand.same in
    All-permutation (Changes m n) lines plan.settings.items order
    (planned_marked m n s day.by_hand.planned day.by_hand.prices machine legal planned
    (subst (λ p. Leads m lines p) one led.1) day.sheets.reads)
