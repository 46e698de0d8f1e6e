-- Typing on the table of a rotor machine.
use Rattle.std.proofs.Common.{◌≡◌, ◌∙◌, ℕ, ◌+◌, ◌*◌, ◌-◌, ◌<◌, ◌≤◌, ◌%◌, ◌/◌, ◌^◌, ◌==◌, Bool, true, false, All, List, [], ◌∷◌}
use Rattle.std.proofs.Common.{ap, arith, drop, length, length-append, length-drop, map, take, refl, slice_index, slice_index_or, subst, sym, if◌then◌else◌}
use Rattle.std.proofs.lemmas.List.{length-map, length-take-le}
use Rattle.std.specs.List.{position_or_len}
use Rattle.std.proofs.lemmas.List.Elements.{All-append, All-head, All-map, All-tail, All-take}
use Rattle.std.proofs.lemmas.List.FromFn.{get_or-map-range_with_len, get_or-range_with_len}
use Rattle.kd_tables.proofs.Products.{place_of_at, inverse_permutes, product_permutes, inverse_by_letter}
use Rattle.kd_tables.specs.{Permutation.{IsPermutation26, alphabet, exchange, followed_by, inverse}}
use Rattle.kd_tables.specs.{Tables.reflector_of, declared.reflector.Reflector.Reflector, declared.wheel.Wheel.Wheel}
use Rattle.kd_step.specs.Stepper.{next_letter, next_window, stands_at_notch, with_last_moved}
use Rattle.kd_enigma.specs.Cipher.{IsPlugboard, RotorKey, key_turned, path, product, rotors}
use Rattle.kd_enigma.specs.Rotor.{rotor}
use Rattle.kd_enigma.proofs.Ways.{Exchanges, core_in_wheel, core_in_wheels, nothing_after, nothing_before, path_is}
use Rattle.kd_enigma.proofs.Ways.{product-at, product-size, reflectors_exchange, rotor_permutes, wheel_exchanges}
use Rattle.kd_enigma.proofs.Cables.{no_cables}
use Rattle.kd_enigma.proofs.Ciphers.{cipher_in_turn, path_turned}
use Rattle.kd_typing.specs.Laws.{TypingOnRotorTable}
use Rattle.kd_typing.specs.RotorTable.{CanShow, all_steps, core_key, core_row, core_rows, core_slots, into_row, into_rows, lamp_by, letter_in}
use Rattle.kd_typing.specs.RotorTable.{letters_with_number, rotor_table, row_number, typed_by, wheels_moved, window_by}

-- ---- one lamp

at_letter : (P : ℕ → Type 0) → All P alphabet → (x : ℕ) → x < 26 → P x
at_letter P h x lt = subst P (get_or-range_with_len 0 26 x 0 lt ∙ omega arith) (h x 0 lt)

-- The current goes in through plugboard and wheel, through a core, and back: the letter that it comes back to is the
-- place in the row of the way in at which the core's letter stands.
lamp_is : (plugs w core : List ℕ) (x : ℕ) → IsPlugboard plugs → IsPermutation26 w → IsPermutation26 core → x < 26
    → position_or_len (λ letter. letter == slice_index core (slice_index (followed_by plugs w) x)) (followed_by plugs w)
    ≡ slice_index (followed_by plugs (followed_by (core_in_wheel core w) plugs)) x
lamp_is plugs w core x board h k lt =
    let into = followed_by plugs w in
    let all = product_permutes plugs w board.permutation h in
    let back = inverse_permutes w h in
    let twice = at_letter (λ y. slice_index plugs (slice_index plugs y) ≡ y) board.own_inverse in
    let y = slice_index core (slice_index into x) in
    let y_lt : y < 26 = k.each_once.within (slice_index into x) (all.each_once.within x lt) in
    let z = slice_index plugs (slice_index (inverse w) y) in
    let z_lt : z < 26 = board.permutation.each_once.within (slice_index (inverse w) y) (back.each_once.within y y_lt) in
    let there : slice_index into z ≡ y =
    product-at plugs w z board.permutation.size z_lt
    ∙ ap (slice_index w) (twice (slice_index (inverse w) y) (back.each_once.within y y_lt))
    ∙ (inverse_by_letter w (slice_index (inverse w) y) y h (back.each_once.within y y_lt) y_lt).1 refl in
    let whole : slice_index (followed_by plugs (followed_by (core_in_wheel core w) plugs)) x ≡ z =
    grind (
      arith,
      product-at,
      product-size,
      board.permutation.size,
      h.size,
      k.size,
      board.permutation.each_once.within,
      h.each_once.within,
    ) in
    ap (λ l. position_or_len (λ letter. letter == l) into) (sym there) ∙ place_of_at into z all z_lt ∙ sym whole

-- ---- the parts of the path

rotors_exchange : (core : List ℕ) (wheels : List Wheel) (rings window : List ℕ) → Exchanges core
    → Exchanges (core_in_wheels core (rotors wheels rings window))
unfolding rotors
rotors_exchange core (wheel ∷ wheels) (ring ∷ rings) (letter ∷ window) k =
    rotors_exchange (core_in_wheel core (rotor wheel ring letter)) wheels rings window
    (wheel_exchanges core wheel ring letter k)
rotors_exchange core [] rings window k = k
rotors_exchange core wheels [] window k = k
rotors_exchange core wheels rings [] k = k

no_exchange : exchange [] ≡ alphabet
unfolding exchange
no_exchange = refl

pub core_is : (key : RotorKey) (window : List ℕ)
    → core_row key window
    ≡ core_in_wheels (reflector_of key.reflector) (rotors (core_slots key.wheels) (core_slots key.rings) window)
unfolding core_row
core_is key window =
    let core = core_in_wheels (reflector_of key.reflector) (rotors (core_slots key.wheels) (core_slots key.rings) window) in
    let permutes = (rotors_exchange (reflector_of key.reflector) (core_slots key.wheels) (core_slots key.rings) window
    (reflectors_exchange key.reflector)).permutes in
    path_is (core_key key) window no_cables
    ∙ ap (λ none. followed_by none (followed_by core none)) no_exchange
    ∙ nothing_before (followed_by core alphabet) (product-size core alphabet ∙ permutes.size)
    ∙ nothing_after core permutes

pub into_is : (plugs w : List ℕ) → IsPermutation26 w → product (plugs ∷ w ∷ []) ≡ followed_by plugs w
unfolding product
into_is plugs w h = ap (followed_by plugs) (nothing_after w h)

-- A lamp by two rows.
abbrev lamp_of_rows : List ℕ → List ℕ → ℕ → ℕ
lamp_of_rows into core x = position_or_len (λ letter. letter == slice_index core (slice_index into x)) into

-- If the right wheel's permutation is `turns`, the rows of the key give the lamp.
lamp_by_parts : (key : RotorKey) (window turns : List ℕ) (x : ℕ) → IsPermutation26 turns
    → into_row key (letter_in window 0) ≡ product (key.plugs ∷ turns ∷ [])
    → core_in_wheels (reflector_of key.reflector) (rotors key.wheels key.rings window)
    ≡ core_in_wheel (core_in_wheels (reflector_of key.reflector)
    (rotors (core_slots key.wheels) (core_slots key.rings) (core_slots window))) turns → IsPlugboard key.plugs → x < 26
    → lamp_of_rows (into_row key (letter_in window 0)) (core_row key (core_slots window)) x
    ≡ slice_index (path key window) x
lamp_by_parts key window turns x h is_into is_path board lt =
    let reflecting = reflector_of key.reflector in
    let core = core_in_wheels reflecting (rotors (core_slots key.wheels) (core_slots key.rings) (core_slots window)) in
    let permutes = (rotors_exchange reflecting (core_slots key.wheels) (core_slots key.rings) (core_slots window)
    (reflectors_exchange key.reflector)).permutes in
    ap (λ into. lamp_of_rows into (core_row key (core_slots window)) x) (is_into ∙ into_is key.plugs turns h)
    ∙ ap (λ row. lamp_of_rows (followed_by key.plugs turns) row x) (core_is key (core_slots window))
    ∙ lamp_is key.plugs turns core x board h permutes lt
    ∙ ap (λ c. slice_index (followed_by key.plugs (followed_by c key.plugs)) x) (sym is_path)
    ∙ ap (λ p. slice_index p x) (sym (path_is key window board))

lamp_of_key : (wheels : List Wheel) (rings shown window plugs : List ℕ) (reflector : Reflector) (x : ℕ)
    → 3 ≤ length wheels → length wheels ≤ 4 → length rings ≡ length wheels → length window ≡ length wheels
    → IsPlugboard plugs → x < 26
    → let key : RotorKey = record { wheels = wheels; rings = rings; window = shown; reflector = reflector; plugs = plugs } in
    lamp_of_rows (into_row key (letter_in window 0)) (core_row key (core_slots window)) x ≡ slice_index (path key window) x
unfolding rotors into_row
lamp_of_key (a ∷ b ∷ c ∷ []) (ra ∷ rb ∷ rc ∷ []) shown (u ∷ v ∷ w ∷ []) plugs reflector x least most slots also board lt =
    lamp_by_parts _ (u ∷ v ∷ w ∷ []) (rotor c rc w) x (rotor_permutes c rc w) refl refl board lt
lamp_of_key (a ∷ b ∷ c ∷ d ∷ []) (ra ∷ rb ∷ rc ∷ rd ∷ []) shown (t ∷ u ∷ v ∷ w ∷ []) plugs reflector x least most slots also board lt =
    lamp_by_parts _ (t ∷ u ∷ v ∷ w ∷ []) (rotor d rd w) x (rotor_permutes d rd w) refl refl board lt
lamp_of_key wheels rings shown window plugs reflector x least most slots also board lt = absurd (omega arith)

-- ---- the rows

-- The row with the number of some letters is the row of these letters.
letters_of_number : (window : List ℕ) → 3 ≤ length window → length window ≤ 4 → All (λ letter. letter < 26) window
    → (row_number (core_slots window) < 26 ^ (length window - 1))
    × (letters_with_number (length window - 1) (row_number (core_slots window)) ≡ core_slots window)
letters_of_number (u ∷ v ∷ w ∷ []) least most letters =
    let u_lt : u < 26 = letters 0 0 (omega arith) in
    let v_lt : v < 26 = letters 1 0 (omega arith) in
    let number = u * 26 + (v * 1 + 0) in
    let first : number / 26 % 26 ≡ u = omega arith in
    let second : number / 1 % 26 ≡ v = omega arith in
    (omega arith, λ i. first i ∷ second i ∷ [])
letters_of_number (t ∷ u ∷ v ∷ w ∷ []) least most letters =
    let t_lt : t < 26 = letters 0 0 (omega arith) in
    let u_lt : u < 26 = letters 1 0 (omega arith) in
    let v_lt : v < 26 = letters 2 0 (omega arith) in
    let number = t * 676 + (u * 26 + (v * 1 + 0)) in
    let first : number / 676 % 26 ≡ t = omega arith in
    let second : number / 26 % 26 ≡ u = omega arith in
    let third : number / 1 % 26 ≡ v = omega arith in
    (omega arith, λ i. first i ∷ second i ∷ third i ∷ [])
letters_of_number window least most letters = absurd (omega arith)

letter_within : (window : List ℕ) (from_right : ℕ) → All (λ letter. letter < 26) window → from_right < length window
    → letter_in window from_right < 26
letter_within window from_right letters lt = letters (length window - (from_right + 1)) 0 (omega arith)

lamp_of_table : (key : RotorKey) (window : List ℕ) (x : ℕ) → CanShow key window → x < 26
    → lamp_by (rotor_table key) window x ≡ slice_index (path key window) x
unfolding into_rows core_rows
lamp_of_table key window x can lt =
    let number = subst (λ n. (row_number (core_slots window) < 26 ^ (n - 1))
    × (letters_with_number (n - 1) (row_number (core_slots window)) ≡ core_slots window)) can.slots
    (letters_of_number window (omega (arith, can.least, can.slots)) (omega (arith, can.most, can.slots)) can.letters) in
    let into : slice_index_or (rotor_table key).into (letter_in window 0) [] ≡ into_row key (letter_in window 0) =
    get_or-map-range_with_len (into_row key) 0 26 (letter_in window 0) (letter_in window 0) []
    (letter_within window 0 can.letters (omega (arith, can.least, can.slots))) (omega arith) in
    let core : slice_index_or (rotor_table key).core (row_number (core_slots window)) [] ≡ core_row key (core_slots window) =
    get_or-map-range_with_len (λ n. core_row key (letters_with_number (length key.wheels - 1) n)) 0
    (26 ^ (length key.wheels - 1)) (row_number (core_slots window)) (row_number (core_slots window)) [] number.0 (omega arith)
    ∙ ap (core_row key) number.1 in
    ap (λ row. lamp_of_rows row (slice_index_or (rotor_table key).core (row_number (core_slots window)) []) x) into
    ∙ ap (λ row. lamp_of_rows (into_row key (letter_in window 0)) row x) core
    ∙ lamp_of_key key.wheels key.rings key.window window key.plugs key.reflector x can.least can.most can.rings can.slots
    can.plugs lt

-- ---- the steps

by_cases : (window : List ℕ) (middle right : Bool)
    → with_last_moved (if middle then 3 else (if right then 2 else 1)) window
    ≡ (if middle then with_last_moved 3 window
    else (if right then with_last_moved 2 window else with_last_moved 1 window))
by_cases window true right = refl
by_cases window false true = refl
by_cases window false false = refl

steps_of_wheels : (wheels : List Wheel) (window : List ℕ) → length window ≡ length wheels
    → with_last_moved (wheels_moved wheels (letter_in window 1) (letter_in window 0)) window ≡ next_window wheels window
unfolding wheels_moved
steps_of_wheels wheels window same = grind (arith, by_cases)

window_of_table : (key : RotorKey) (window : List ℕ) → CanShow key window
    → window_by (rotor_table key) window ≡ next_window key.wheels window
unfolding all_steps
window_of_table key window can =
    let middle = letter_in window 1 in
    let right = letter_in window 0 in
    let middle_lt : middle < 26 = letter_within window 1 can.letters (omega (arith, can.least, can.slots)) in
    let right_lt : right < 26 = letter_within window 0 can.letters (omega (arith, can.least, can.slots)) in
    let number = 26 * middle + right in
    let high : number / 26 ≡ middle = omega arith in
    let low : number % 26 ≡ right = omega arith in
    ap (λ count. with_last_moved count window)
    (get_or-map-range_with_len (λ n. wheels_moved key.wheels (n / 26) (n % 26)) 0 676 number number 0 (omega arith) (omega arith)
    ∙ (λ i. wheels_moved key.wheels (high i) (low i)))
    ∙ steps_of_wheels key.wheels window can.slots

-- After a press, too, the windows show letters.
moved_shows : (key : RotorKey) (count : ℕ) (window : List ℕ) → count ≤ 3 → CanShow key window
    → CanShow key (with_last_moved count window)
moved_shows key count window most can =
    let front = length window - count in
    let rest = drop front window in
    record {
      least = can.least;
      most = can.most;
      rings = can.rings;
      slots = omega (
        arith,
        can.slots,
        can.least,
        length-append (take front window) (map next_letter rest),
        length-take-le front window (omega arith),
        length-map rest next_letter,
        length-drop front window,
      );
      letters = All-append (λ letter. letter < 26) (take front window) (map next_letter rest)
          (All-take (λ letter. letter < 26) front window can.letters)
          (All-map (λ letter. letter < 26) next_letter rest (λ k d lt. omega arith));
      plugs = can.plugs;
    }

next_shows : (key : RotorKey) (window : List ℕ) → CanShow key window → CanShow key (next_window key.wheels window)
next_shows key window can =
    at (stands_at_notch key.wheels window 1) (stands_at_notch key.wheels window 0)
  where
    at : (middle right : Bool)
        → CanShow key (if middle then with_last_moved 3 window
        else (if right then with_last_moved 2 window else with_last_moved 1 window))
    at true right = moved_shows key 3 window (omega arith) can
    at false true = moved_shows key 2 window (omega arith) can
    at false false = moved_shows key 1 window (omega arith) can

-- ---- a text

pub typing_on_rotor_table : TypingOnRotorTable
typing_on_rotor_table key window [] can letters = refl
typing_on_rotor_table key window (x ∷ text) can letters =
    let turned = next_window key.wheels window in
    let shows = next_shows key window can in
    let lt = All-head (λ letter. letter < 26) x text letters in
    ap (λ shown. lamp_by (rotor_table key) shown x ∷ typed_by (rotor_table key) shown text) (window_of_table key window can)
    ∙ (λ i. (lamp_of_table key turned x shows lt ∙ ap (λ p. slice_index p x) (sym (path_turned key window turned))) i
    ∷ typing_on_rotor_table key turned text shows (All-tail (λ letter. letter < 26) x text letters) i)
    ∙ sym (cipher_in_turn (key_turned key window) (x ∷ []) text)
