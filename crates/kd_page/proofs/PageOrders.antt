-- The boxes of a page, read from the top, are the settings in their order.
use Rattle.std.proofs.Common.{◌≡◌, ℕ, zero, suc, ◌+◌, ◌≤◌, Bool, ◌&&◌, List, [], ◌∷◌, ◌++◌, filter, flat_map, arith}
use Rattle.std.proofs.Common.{refl, ap₂, sym, ◌∙◌}
use Rattle.std.proofs.Common.{nat_eq, append_assoc, append-nil}
use Rattle.kd_state.specs.declared.setting.Setting.{Setting}
use Rattle.kd_pictures.specs.declared.numbers.TheConstants.{PIN_WHEELS}
use Rattle.kd_page.specs.declared.spots.Step.{Step}
use Rattle.kd_page.specs.declared.spots.Step.TheVariants.{Rings, Seats, PlugsOut, PlugsIn, Pins, Lugs, Turns}
use Rattle.kd_page.specs.PageOrder.{IsRanked, PinBoxesAreTheSettings, RotorBoxesAreTheSettings}
use Rattle.kd_page.specs.PageOrder.{pin_by_pin, row_by_row, settings_at, step_number}
use Rattle.kd_page.specs.Pins.{pin_spot}
use Rattle.kd_page.specs.Spots.{cell_of, is_at, row_of, row_spot, step_rank, step_spot}
use Rattle.kd_page.proofs.Groups.{group, grouped, groups}

-- Items that pass `r`, which is `p` and `q`, are those of the items that pass `p` that pass `q`.
narrowed : {X : Type 0} (p q r : X → Bool) → ((x : X) → r x ≡ (p x && q x)) → (xs : List X)
    → filter r xs ≡ filter q (filter p xs)
narrowed p q r both [] = refl
narrowed p q r both (x ∷ xs) = grind (arith, both x, narrowed p q r both xs)

-- this many numbers, from `from` on
abbrev numbers : ℕ → ℕ → List ℕ
numbers from zero = []
numbers from (suc count) = from ∷ numbers (from + 1) count

-- If the parts that `f` gives are the groups of a ranked list, they are the list.
parts_are : {X : Type 0} (key : X → ℕ) (f : ℕ → List X) (xs : List X) → ((number : ℕ) → f number ≡ group key number xs)
    → (count from : ℕ) → flat_map f (numbers from count) ≡ groups key from count xs
parts_are key f xs are zero from = refl
parts_are key f xs are (suc count) from =
    ap₂ (λ a b. a ++ b) (are from) (parts_are key f xs are count (from + 1))

ranked_parts : {X : Type 0} (key : X → ℕ) (f : ℕ → List X) (xs : List X)
    → ((number : ℕ) → f number ≡ group key number xs) → (from count end : ℕ) → end ≤ from + count → IsRanked key from end xs → flat_map f (numbers from count) ≡ xs
ranked_parts key f xs are from count end within ranked =
    parts_are key f xs are count from ∙ grouped key count from end xs within ranked

step_is : (step : Step) (xs : List Setting) → settings_at (step_spot step) xs ≡ group step_number (step_rank step) xs
step_is step xs =
    let same : (x : Setting) → is_at (step_spot step) x ≡ nat_eq (step_number x) (step_rank step) = λ x. grind arith in
    λ i. filter (λ x. same x i) xs

pub row_is : (step : Step) (xs : List Setting) (row : ℕ)
    → settings_at (row_spot step row) xs ≡ group row_of row (settings_at (step_spot step) xs)
row_is step xs row =
    narrowed (is_at (step_spot step)) (λ x. nat_eq (row_of x) row) (is_at (row_spot step row)) (λ x. grind arith) xs

cell_is : (wheel : ℕ) (xs : List Setting) (letter : ℕ)
    → settings_at (pin_spot wheel letter) xs ≡ group cell_of letter (settings_at (row_spot Pins wheel) xs)
cell_is wheel xs letter =
    narrowed (is_at (row_spot Pins wheel)) (λ x. nat_eq (cell_of x) letter) (is_at (pin_spot wheel letter))
    (λ x. grind arith) xs

-- The rows of a step's table are the settings of the step.
rows_are : (step : Step) (xs : List Setting) (from count end : ℕ) → end ≤ from + count
    → IsRanked row_of from end (settings_at (step_spot step) xs)
    → row_by_row step (numbers from count) xs ≡ settings_at (step_spot step) xs
rows_are step xs from count end within ranked =
    ranked_parts row_of (λ row. settings_at (row_spot step row) xs) (settings_at (step_spot step) xs) (row_is step xs)
    from count end within ranked

pins_are : (xs : List Setting) → ((wheel : ℕ) → IsRanked cell_of 0 26 (settings_at (row_spot Pins wheel) xs))
    → pin_by_pin xs ≡ row_by_row Pins PIN_WHEELS xs
pins_are xs ranked =
    λ i. flat_map (λ wheel. ranked_parts cell_of (λ letter. settings_at (pin_spot wheel letter) xs)
    (settings_at (row_spot Pins wheel) xs) (cell_is wheel xs) 0 26 26 (omega arith) (ranked wheel) i) PIN_WHEELS

five_of_seven : {X : Type 0} (a b c d e f g all : List X) → e ≡ [] → f ≡ []
    → a ++ (b ++ (c ++ (d ++ (e ++ (f ++ (g ++ [])))))) ≡ all → a ++ b ++ c ++ d ++ g ≡ all
five_of_seven a b c d e f g all none nothing is =
    rw (append_assoc, append_assoc, append_assoc) (rw (none, nothing, append-nil) at is)

three_are : {X : Type 0} (a b c all : List X) → a ++ (b ++ (c ++ [])) ≡ all → a ++ b ++ c ≡ all
three_are a b c all is = rw append_assoc (rw append-nil at is)

pub rotor_boxes_are : RotorBoxesAreTheSettings
rotor_boxes_are xs order =
    let all = grouped step_number 7 0 7 xs (omega arith) order.steps in
    let out = rows_are PlugsOut xs 1 13 14 (omega arith) order.out ∙ step_is PlugsOut xs in
    let inside = rows_are PlugsIn xs 1 13 14 (omega arith) order.«in» ∙ step_is PlugsIn xs in
    let turns = rows_are Turns xs 1 4 5 (omega arith) order.turns ∙ step_is Turns xs in
    let pins = sym (step_is Pins xs) ∙ order.no_pins in
    let lugs = sym (step_is Lugs xs) ∙ order.no_lugs in
    let of : Step → List Setting = λ step. group step_number (step_rank step) xs in
    rw (out, inside, turns, step_is Rings xs, step_is Seats xs)
    (five_of_seven (of Rings) (of Seats) (of PlugsOut) (of PlugsIn) (of Pins) (of Lugs) (of Turns) xs pins lugs all)

pub pin_boxes_are : PinBoxesAreTheSettings
pin_boxes_are xs order =
    let all = grouped step_number 3 4 7 xs (omega arith) order.steps in
    let pins = pins_are xs order.cells ∙ rows_are Pins xs 1 6 7 (omega arith) order.pins ∙ step_is Pins xs in
    let lugs = rows_are Lugs xs 1 27 28 (omega arith) order.lugs ∙ step_is Lugs xs in
    let turns = rows_are Turns xs 1 6 7 (omega arith) order.turns ∙ step_is Turns xs in
    let of : Step → List Setting = λ step. group step_number (step_rank step) xs in
    rw (pins, lugs, turns) (three_are (of Pins) (of Lugs) (of Turns) xs all)
