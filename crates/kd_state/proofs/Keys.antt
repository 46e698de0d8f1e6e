-- Lemmas on machines on a day's key: they are ready, and encipher as the day asks.
use Rattle.kd_state.proofs.Prelude.{AreCables, Bool, CipherOfChunks, Day, EngineEnciphersAsMachine, EngineKey}
use Rattle.kd_state.proofs.Prelude.{EquallySetDecipher, IsLegalDay, IsLegalRotorDay, IsMachine, IsPermutation}
use Rattle.kd_state.proofs.Prelude.{IsRotorOnKey, KeyAfterChunks, List, Pin, Rotor, OnKey}
use Rattle.kd_state.proofs.Prelude.{OnKeyEnciphersByDaysKey, OnKeyIsReady, Parts, Pin, Place, ReadsAsDayEnciphersAsDay}
use Rattle.kd_state.proofs.Prelude.{ReadsAsDayIsReady, Rotor, RotorDay, RotorParts, SheetWheel, Some}
use Rattle.kd_state.proofs.Prelude.{DaysEngineDeciphersItself, TurnedEngineEnciphersAsMachine}
use Rattle.kd_state.proofs.Prelude.{TurningChangesOnlyLetters, TurnedEnciphersByDaysKey, TurnedStaysOnKey, []}
use Rattle.kd_state.proofs.Prelude.{is_acting_after, ap, arith, cipher, common_steps, converter_cipher, count_by}
use Rattle.kd_state.proofs.Prelude.{enumerate_from, filter_map, key_with_window, letter_at, map, physical_cipher}
use Rattle.kd_state.proofs.Prelude.{physical_key, pins_of, place_number, reading_of, recursion_from_All, refl, ring_at}
use Rattle.kd_state.proofs.Prelude.{sheet_key}
use Rattle.kd_enigma.proofs.Cables.{pairs_make_a_plugboard, same_pairs_exchange_alike}
use Rattle.kd_state.proofs.Cables.{no_letter_twice, pairs_of, pairs_joined, whole_cables}
use Rattle.kd_state.proofs.Prelude.{sum_by-IsPermutation, sum_by-cons, sym, window_of, ℕ, ◌+◌, ◌-◌, ◌||◌, ◌∙◌, ◌∷◌, ◌≡◌}
use Rattle.{kd_state.proofs.WheelsInSlots.{all_seated, read_all, wheels_of_slots}, std.proofs.Common.{max, min, ◌%◌}}
use Rattle.std.proofs.Math.{Bool.or_comm, Nat.{max-eq_left, max-eq_right, min-eq_left, min-eq_right}}
use Rattle.kd_enigma.proofs.Ciphers as enigma
use Rattle.kd_drum.proofs.Ciphers as drum
use Rattle.kd_drum.proofs.WheelsAfterLetters as starts

-- ---- the bars that are met are counted alike by lugs and by readings

-- whether one of two wheels meets a bar doesn't depend on their order
or-min_max : (met : ℕ → Bool) (a b : ℕ) → (met a || met b) ≡ (met (min a b) || met (max a b))
or-min_max met a b = grind (arith, min-eq_left, max-eq_right, or_comm, min-eq_right, max-eq_left)

met_by_lugs : (acts : ℕ → Bool) (bars : List (Place × Place))
    → count_by (λ (row : ℕ × ℕ). acts row.0 || acts row.1) (map reading_of bars)
    ≡ count_by (λ (row : ℕ × ℕ). acts row.0 || acts row.1)
    (map (λ (bar : Place × Place). (place_number bar.0, place_number bar.1)) bars)
met_by_lugs acts [] = refl
met_by_lugs acts (bar ∷ bars) = grind (arith, common_steps, sum_by-cons, or-min_max, met_by_lugs acts bars)

pub engine_cipher : EngineEnciphersAsMachine
engine_cipher (Rotor m) text = refl
engine_cipher (Pin m) text =
    let met = λ (count : ℕ). met_by_lugs (is_acting_after (pins_of m.pins) m.letters count) m.bars in
    λ i. map (λ (numbered : ℕ × ℕ). (25 + met numbered.0 i - numbered.1) % 26) (enumerate_from 0 text)

-- machines on the day's key are ready
pub on_key_ready : OnKeyIsReady
on_key_ready (Rotor m) (Rotor s) machine legal h =
    (all_seated m.slots s.wheels h.slots, whole_cables m.cables s.pairs h.cables)
on_key_ready (Pin m) s machine legal h = tt
on_key_ready (Rotor m) (Pin s) machine legal h = absurd h

pub reading_ready : ReadsAsDayIsReady
reading_ready m s machine legal h = on_key_ready m s machine legal h.key

own_window : (m : Parts) → physical_key m ≡ key_with_window (physical_key m) (window_of m)
own_window m = grind arith

-- the key of a machine on the day's key is the day's key, if both keys get the same window letters
rotor_key : (m : RotorParts) (s : RotorDay) (window : List ℕ) → AreCables m.cables → IsLegalRotorDay s
    → IsRotorOnKey m s
    → key_with_window (physical_key (Rotor m)) window ≡ key_with_window (sheet_key (Rotor s)) window
rotor_key m s window cables legal h =
    let wheels = wheels_of_slots m s.wheels h.slots in
    let rings =
    read_all (ring_at m) (λ w. w.ring) s.wheels
    (recursion_from_All (λ (w : SheetWheel). ring_at m w.wheel ≡ Some w.ring) s.wheels h.rings) in
    let whole = whole_cables m.cables s.pairs h.cables in
    let plugs =
    same_pairs_exchange_alike (pairs_of m.cables) s.pairs (no_letter_twice m.cables cables whole) legal.pairs.apart
    (pairs_joined m.cables s.pairs h.cables) in
    grind (arith, wheels, rings, h.reflector, plugs)

-- the order of the bars doesn't matter to the ciphertext
converter_alike : (pins : List (List Bool)) (letters : List ℕ) (bars others : List (ℕ × ℕ)) (text : List ℕ)
    → IsPermutation bars others
    → converter_cipher (record { pins = pins; letters = letters; bars = bars }) text
    ≡ converter_cipher (record { pins = pins; letters = letters; bars = others }) text
converter_alike pins letters bars others text moved = grind (arith, sum_by-IsPermutation, moved)

key_on_key : (m : Parts) (s : Day) (window text : List ℕ) → IsMachine m → IsLegalDay s → OnKey m s
    → cipher (key_with_window (physical_key m) window) text ≡ cipher (key_with_window (sheet_key s) window) text
key_on_key (Rotor m) (Rotor s) window text machine legal h =
    ap (λ key. cipher key text) (rotor_key m s window machine.legal.cables legal h)
key_on_key m s window text machine legal h = grind (arith, converter_alike)

pub on_key_cipher : OnKeyEnciphersByDaysKey
on_key_cipher m s text machine legal h =
    sym (engine_cipher m text) ∙ ap (λ key. cipher key text) (own_window m)
    ∙ key_on_key m s (window_of m) text machine legal h

pub reading_cipher : ReadsAsDayEnciphersAsDay
reading_cipher (Rotor m) (Rotor s) text machine legal h =
    let shows = ap (filter_map (letter_at m)) (wheels_of_slots m s.wheels h.key.slots)
    ∙ read_all (letter_at m) (λ w. w.letter) s.wheels
    (recursion_from_All (λ (w : SheetWheel). letter_at m w.wheel ≡ Some w.letter) s.wheels h.window) in
    on_key_cipher (Rotor m) (Rotor s) text machine legal h.key
    ∙ ap (λ window. cipher (key_with_window (sheet_key (Rotor s)) window) text) shows
reading_cipher (Pin m) (Pin s) text machine legal h =
    on_key_cipher (Pin m) (Pin s) text machine legal h.key
    ∙ ap (λ window. cipher (key_with_window (sheet_key (Pin s)) window) text) h.window
reading_cipher m s text machine legal h = absurd h.key

-- an engine set as the day says that enciphers a text twice, each time from the same letters, gives the text
-- back
pub twice_on_key : DaysEngineDeciphersItself
twice_on_key = grind (arith, pairs_make_a_plugboard, enigma.twice_gives_back, drum.twice_gives_back)

pub equally_set : EquallySetDecipher
equally_set m n s text machine other legal h k same letters =
    let key : List ℕ → EngineKey = key_with_window (sheet_key s) in
    ap (physical_cipher n) (on_key_cipher m s text machine legal h)
    ∙ on_key_cipher n s (cipher (key (window_of m)) text) other legal k
    ∙ ap (λ window. cipher (key window) (cipher (key (window_of m)) text)) (sym same)
    ∙ twice_on_key s (window_of m) text legal letters

-- a machine on the day's key that is turned to other letters stays on the key
pub turned_on_key : TurnedStaysOnKey
turned_on_key m n s window turned h = grind arith

-- if a machine is turned to other letters, its new key is its old key with these letters
pub turned_key : TurningChangesOnlyLetters
turned_key m n window turned = grind (arith, Rotor, Pin)

-- an engine turned to other letters enciphers as its machine does once it is turned to these letters
pub turned_engine : TurnedEngineEnciphersAsMachine
turned_engine m n window text turned =
    ap (λ key. cipher key text) (sym (turned_key m n window turned)) ∙ engine_cipher n text

pub turned_cipher : TurnedEnciphersByDaysKey
turned_cipher m n s window text machine legal h turned =
    sym (turned_engine m n window text turned) ∙ key_on_key m s window text machine legal h

-- a text is enciphered chunk by chunk: the first one, and then the rest with the key that the engine has by
-- then
pub cipher_in_turn : CipherOfChunks
cipher_in_turn = grind (arith, enigma.cipher_in_turn, drum.cipher_in_turn)

pub key_in_turn : KeyAfterChunks
key_in_turn (Rotor key) m n = ap Rotor (enigma.key_in_turn key m n)
key_in_turn (Pin key) m n = ap Pin (starts.key_in_turn key m n)
