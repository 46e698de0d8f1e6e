-- An order of a card's settings that suits an operator: rings are set first, while the wheels are out, and windows are
-- turned last.
use Rattle.std.specs.Prelude.{Bool, true, false, not, List, [], ◌∷◌, ◌++◌, filter, if◌then◌else◌, IsTrue}
use Rattle.std.specs.Prelude.{IsPermutation}
use Rattle.std.specs.List.{list_all}
use Rattle.kd_state.specs.declared.machine.parts.Parts.{Parts}
use Rattle.kd_state.specs.declared.setting.Setting.{Setting}
use Rattle.kd_state.specs.declared.setting.Setting.TheVariants.{Seat, RingTo, Turn}
use Rattle.kd_state.specs.Setting.{Leads}
use Rattle.kd_booklet.specs.declared.stages.Stage.{Stage}
use Rattle.kd_booklet.specs.declared.stages.Stage.TheVariants.{Rings, Parts as Others, Windows}

abbrev pub stage_of : Setting → Stage
stage_of (RingTo wheel letter) = Rings
stage_of (Turn slot letter) = Windows
stage_of _ = Others

abbrev pub is_same_stage : Stage → Stage → Bool
is_same_stage Rings Rings = true
is_same_stage Others Others = true
is_same_stage Windows Windows = true
is_same_stage _ _ = false

abbrev pub is_at_stage : Stage → Setting → Bool
is_at_stage stage x = is_same_stage (stage_of x) stage

-- The settings in an order that suits an operator: rings come first, window letters last, and all other settings
-- between them.
abbrev pub in_hand_order : List Setting → List Setting
in_hand_order xs =
    filter (is_at_stage Rings) xs ++ (filter (is_at_stage Others) xs ++ filter (is_at_stage Windows) xs)

abbrev pub is_seat : Setting → Bool
is_seat (Seat slot wheel) = true
is_seat _ = false

-- whether each setting that seats a wheel comes before all settings that turn a window
abbrev pub seats_before_turning : List Setting → Bool
seats_before_turning [] = true
seats_before_turning (x ∷ xs) =
    if is_at_stage Windows x then list_all (λ y. not (is_seat y)) xs else seats_before_turning xs

-- Putting a list of settings in the operator's order adds no setting, and loses none.
abbrev pub HandOrderIsPermutation : Type 0
HandOrderIsPermutation = (xs : List Setting) → IsPermutation xs (in_hand_order xs)

-- Suppose that the settings `xs` seat all their wheels before they turn a window. If `xs` lead to machine `n`, they
-- lead to `n` in the operator's order, too.
abbrev pub HandOrderLeads : Type 0
HandOrderLeads =
    (m n : Parts) (xs : List Setting) → IsTrue (seats_before_turning xs) → Leads m xs n → Leads m (in_hand_order xs) n
