-- The path around a core, in and back through the wheels in their slots, and the whole path of the current.
use Rattle.kd_enigma.proofs.Ways.{Exchanges, core_in_wheel, followed_by-assoc, core_in_wheels, nothing_after}
use Rattle.kd_enigma.proofs.Ways.{nothing_before, path_is}
use Rattle.std.proofs.Common.{List, [], ap, arith, get_or, if◌then◌else◌, length, ltb, refl, rules, suc, take, zero, ℕ}
use Rattle.kd_enigma.proofs.Ways.{product-size, reflectors_exchange, rotor_permutes, wheel_exchanges}
use Rattle.kd_enigma.specs.{CurrentPath.{SeatedWheel, around_wheels, around_wheel}}
use Rattle.kd_enigma.specs.{Cipher.{IsPlugboard, RotorKey, rotors}, Rotor.rotor}
use Rattle.kd_enigma.specs.KeptMaps.{AreMapsOf, wheels_with_boards, slow_slots}
use Rattle.kd_tables.{proofs.Products.{inverse_permutes, product_permutes, shift_permutes}, specs.Tables.reflector_of}
use Rattle.kd_tables.specs.{Permutation.{IsPermutation26, alphabet, followed_by, shift}, declared.wheel.Wheel.Wheel}
use Rattle.std.proofs.{Common.{◌+◌, ◌-◌, ◌<◌, ◌∙◌, ◌∷◌, ◌≡◌}, lemmas.{Bool.Decides.nat_tests, List.take_all}}

-- One more wheel encloses the path through the wheels before it: `around_wheel`, with this path as its core.
pub around_more : (core : List ℕ) (seated : List SeatedWheel) (window : List ℕ) (slot : ℕ) (s : SeatedWheel)
    (letter : ℕ) → slot < length seated → length seated ≡ length window
    → s ≡ get_or seated slot s → letter ≡ get_or window slot letter
    → around_wheels core (take (slot + 1) seated) (take (slot + 1) window)
    ≡ around_wheel s.board (around_wheels core (take slot seated) (take slot window)) (rotor s.wheel s.ring letter)
around_more core (t ∷ seated) (l ∷ window) zero s letter lt same is_s is_letter = grind arith
around_more core (t ∷ seated) (l ∷ window) (suc slot) s letter lt same is_s is_letter =
    grind (arith, around_more (around_wheel t.board core (rotor t.wheel t.ring l)) seated window slot s letter)
around_more core seated window slot s letter lt same is_s is_letter = absurd (omega arith)

-- The wheel, the ring and the board in `slot` are the key's. If this holds for each slot, the seated wheels are
-- those of the key.
abbrev pub IsSeatedAs : List ℕ → List Wheel → List ℕ → ℕ → SeatedWheel → Type 0
IsSeatedAs plugs wheels rings slot s =
    (s.wheel ≡ get_or wheels slot s.wheel) × (s.ring ≡ get_or rings slot s.ring)
    × (s.board ≡ (if ltb (slot + 1) (length wheels) then alphabet else plugs))

pub are_seats : (plugs : List ℕ) (seated : List SeatedWheel) (wheels : List Wheel) (rings : List ℕ)
    → length seated ≡ length wheels → length rings ≡ length wheels
    → ((slot : ℕ) (s : SeatedWheel) → slot < length wheels → IsSeatedAs plugs wheels rings slot (get_or seated slot s))
    → seated ≡ wheels_with_boards plugs wheels rings
are_seats plugs [] [] [] long slots each = refl
are_seats plugs (s ∷ []) (wheel ∷ []) (ring ∷ []) long slots each = grind (arith, nat_tests, each 0 s)
are_seats plugs (s ∷ t ∷ seated) (wheel ∷ next ∷ wheels) (ring ∷ rings) long slots each =
    let rest = are_seats plugs (t ∷ seated) (next ∷ wheels) rings (omega arith) (omega arith)
    (λ slot d lt. grind (arith, nat_tests, each (suc slot) d)) in
    let first : s ≡ record { wheel = wheel; ring = ring; board = alphabet } = grind (arith, nat_tests, each 0 s) in
    λ i. first i ∷ rest i
are_seats plugs seated wheels rings long slots each = absurd (omega arith)

-- ---- the path: only the right wheel lies beside the plugboard

-- The path around a core through board and wheel is the path through the wheel, with the board before and after.
board_last : (board core : List ℕ) (wheel : Wheel) (ring letter : ℕ) → IsPermutation26 board → Exchanges core
    → around_wheel board core (rotor wheel ring letter)
    ≡ followed_by board (followed_by (core_in_wheel core (rotor wheel ring letter)) board)
board_last board core wheel ring letter h k =
    grind (arith, rotor_permutes, followed_by-assoc, board, product-size, product_permutes, inverse_permutes)

no_board : (core : List ℕ) (wheel : Wheel) (ring letter : ℕ) → Exchanges core
    → around_wheel alphabet core (rotor wheel ring letter) ≡ core_in_wheel core (rotor wheel ring letter)
unfolding shift
no_board core wheel ring letter k =
    let e = core_in_wheel core (rotor wheel ring letter) in
    let slow_map = (wheel_exchanges core wheel ring letter k).permutes in
    board_last alphabet core wheel ring letter (shift_permutes 0) k
    ∙ nothing_before (followed_by e alphabet) (product-size e alphabet ∙ slow_map.size) ∙ nothing_after e slow_map

around_seats : (plugs core : List ℕ) (wheels : List Wheel) (rings window : List ℕ) → IsPermutation26 plugs
    → Exchanges core → 0 < length wheels → length rings ≡ length wheels
    → length window ≡ length wheels
    → around_wheels core (wheels_with_boards plugs wheels rings) window
    ≡ followed_by plugs (followed_by (core_in_wheels core (rotors wheels rings window)) plugs)
unfolding rotors
around_seats plugs core (wheel ∷ []) (ring ∷ []) (letter ∷ []) h k some slots shown =
    board_last plugs core wheel ring letter h k
around_seats plugs core (wheel ∷ next ∷ wheels) (ring ∷ rings) (letter ∷ window) h k some slots shown =
    ap (λ c. around_wheels c (wheels_with_boards plugs (next ∷ wheels) rings) window)
    (no_board core wheel ring letter k)
    ∙ around_seats plugs (core_in_wheel core (rotor wheel ring letter)) (next ∷ wheels) rings window h
    (wheel_exchanges core wheel ring letter k) (omega arith) (omega arith) (omega arith)
around_seats plugs core wheels rings window h k some slots shown = absurd (omega arith)

-- So the whole path is the path through plugboard and right wheel, around the path through the slow wheels.
pub AreMapsOf-path : (key : RotorKey) (seated : List SeatedWheel) (reflecting slow_map path_map : List ℕ)
    (s : SeatedWheel)
    (shown size d : ℕ) → seated ≡ wheels_with_boards key.plugs key.wheels key.rings → IsPlugboard key.plugs
    → reflecting ≡ reflector_of key.reflector
    → slow_map ≡ around_wheels reflecting (slow_slots seated) (slow_slots key.window)
    → length seated ≡ size → length key.wheels ≡ size → length key.rings ≡ size
    → length key.window ≡ size → 0 < size → s ≡ get_or seated (size - 1) s → shown ≡ get_or key.window (size - 1) d
    → path_map ≡ around_wheel s.board slow_map (rotor s.wheel s.ring shown)
    → AreMapsOf key seated reflecting slow_map path_map
AreMapsOf-path key seated reflecting slow_map path_map s shown size d sit board is_reflecting is_inner long wheels
    rings window some
    is_s is_shown made =
    search (rules, around_wheels, take_all, around_more, board, around_seats, reflectors_exchange, path_is, key)
