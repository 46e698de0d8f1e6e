-- Lemmas on the wheels in the slots: their rings and letters, and turning them to any window.
use Rattle.kd_state.proofs.Prelude.{place_in_box, MachinesCanBeTurned, AreLetters, AreLegalRotorParts, IsSeatedAt, letter_at}
use Rattle.kd_state.proofs.Prelude.{ring_at, seats_of_wheels, IsReady, Rotor, physical_key, seated_wheels, Pin}
use Rattle.kd_state.proofs.Prelude.{Rotor, RotorParts, SheetWheel, exchange, box_of, Model, Wheel, false≢true}
use Rattle.kd_state.proofs.Prelude.{get_or-map, length-map, All-map, recursion_from_All, none-some, slice_get-get_or}
use Rattle.kd_state.proofs.Prelude.{All, AllByRecursion, cons_option, IsSome, Contains, List, None, Option, Some, []}
use Rattle.kd_state.proofs.Prelude.{ap, arith, filter_map, get_or, length, map, refl, set, slice_get, subst, suc, sym}
use Rattle.kd_state.proofs.Prelude.{zero, ℕ, ◌+◌, ◌<◌, ◌∙◌, ◌∷◌, ◌≡◌, ◌≢◌}
use Rattle.kd_state.proofs.{Carrying.{letters_set, with_letters}, Slots.set_here}
use Rattle.kd_state.proofs.{Slots.set_other}
use Rattle.kd_state.proofs.Cables.{pairs_of}
use Rattle.kd_state.proofs.Wheels.{place_within, IsPlaced-from_wheels_for, places_determine_wheels}
use Rattle.kd_state.specs.SeatedWheels.{key_of_wheels, wheel_in_seat, wheel_with_letters}

-- `wheels` are in the slots, with the machine's rings and letters
pub record AreSeats (m : RotorParts) (seated : List (Option Wheel)) (wheels : List SheetWheel) : Type 0 where
  pub slots : seated ≡ seats_of_wheels wheels
  pub rings : AllByRecursion (λ w. ring_at m w.wheel ≡ Some w.ring) wheels
  pub letters : AllByRecursion (λ w. letter_at m w.wheel ≡ Some w.letter) wheels

record IsSeatWith (m : RotorParts) (seat : Option Wheel) (w : SheetWheel) : Type 0 where
  wheel : seat ≡ Some w.wheel
  ring : ring_at m w.wheel ≡ Some w.ring
  letter : letter_at m w.wheel ≡ Some w.letter

with_both : (wheel : Wheel) (ring letter : Option ℕ) (w : SheetWheel) → Some w ≡ wheel_with_letters wheel ring letter
    → (wheel ≡ w.wheel) × (ring ≡ Some w.ring) × (letter ≡ Some w.letter)
with_both wheel ring letter w e = grind arith

is_seat : (m : RotorParts) (seat : Option Wheel) (w : SheetWheel) → Some w ≡ wheel_in_seat m seat → IsSeatWith m seat w
is_seat m None w e = absurd (none-some w (sym e))
is_seat m (Some wheel) w e =
    let both = with_both wheel (ring_at m wheel) (letter_at m wheel) w e in
    record { wheel = ap Some both.0; ring = rw both.0 at both.1; letter = rw both.0 at both.2 }

pub are_seats : (m : RotorParts) (slots : List (Option Wheel)) (wheels : List SheetWheel)
    → map Some wheels ≡ map (wheel_in_seat m) slots → AreSeats m slots wheels
are_seats m [] [] e = record { slots = refl; rings = tt; letters = tt }
are_seats m (seat ∷ slots) (w ∷ wheels) e = grind (arith, is_seat, are_seats m slots wheels)
are_seats m slots wheels e = cc

-- taking the wheels out of filled slots gives the wheels
pub wheels_seated : (wheels : List SheetWheel)
    → filter_map (λ (seated : Option Wheel). seated) (seats_of_wheels wheels) ≡ map (λ w. w.wheel) wheels
wheels_seated [] = refl
wheels_seated (w ∷ wheels) = grind (arith, filter_map, wheels_seated wheels)

pub all_seated : (slots : List (Option Wheel)) (wheels : List SheetWheel) → slots ≡ seats_of_wheels wheels
    → All (λ seated. IsSome seated) slots
all_seated slots wheels e =
    subst (All (λ (seated : Option Wheel). IsSome seated)) (sym e)
    (All-map (λ (seated : Option Wheel). IsSome seated) (λ (w : SheetWheel). Some w.wheel) wheels
    (λ k d below. refl))

-- if `f` gives for each wheel the value that `view` shows, it gives for all wheels the list of these values
pub read_all : (f : Wheel → Option ℕ) (view : SheetWheel → ℕ) (wheels : List SheetWheel)
    → AllByRecursion (λ w. f w.wheel ≡ Some (view w)) wheels
    → filter_map f (map (λ (w : SheetWheel). w.wheel) wheels) ≡ map view wheels
read_all f view [] h = refl
read_all f view (w ∷ wheels) h = grind (arith, filter_map, read_all f view wheels h.1)

pub wheels_of_slots : (m : RotorParts) (wheels : List SheetWheel) → m.slots ≡ seats_of_wheels wheels
    → seated_wheels m ≡ map (λ w. w.wheel) wheels
wheels_of_slots m wheels e = grind (arith, wheels_seated)

pub key_of_seats : (m : RotorParts) (wheels : List SheetWheel) → AreSeats m m.slots wheels
    → physical_key (Rotor m) ≡ Rotor (key_of_wheels wheels m.reflector (exchange (pairs_of m.cables)))
key_of_seats m wheels h = grind (arith, wheels_of_slots, filter_map, read_all)

-- if `wheels` are in the slots with their rings and letters, the machine's key has them, and no slot is empty
pub of_seated : (m : RotorParts) (wheels : List SheetWheel) → map Some wheels ≡ map (wheel_in_seat m) m.slots
    → (physical_key (Rotor m) ≡ Rotor (key_of_wheels wheels m.reflector (exchange (pairs_of m.cables))))
    × All (λ seated. IsSome seated) m.slots
of_seated m wheels e =
    let seats = are_seats m m.slots wheels e in
    (key_of_seats m wheels seats, all_seated m.slots wheels seats.slots)

-- a wheel in a slot of a legal machine has a ring and a letter
filled_seat : (m : RotorParts) → AreLegalRotorParts m → (place : ℕ) (seat : Option Wheel)
    → slice_get m.slots place ≡ Some seat → IsSome seat → wheel_in_seat m seat ≢ None
filled_seat m legal place None at there none = false≢true there
filled_seat m legal place (Some wheel) at there none =
    let box = place_in_box m.model wheel in
    let within = place_within m.model wheel
    (IsPlaced-from_wheels_for m.model (place + 1) wheel (legal.seats.allowed place wheel at)).in_box in
    let ring : ring_at m wheel ≡ Some (get_or m.rings box 0) =
    slice_get-get_or m.rings box 0 (omega (arith, within, legal.rings.count)) in
    let letter : letter_at m wheel ≡ Some (get_or m.letters box 0) =
    slice_get-get_or m.letters box 0 (omega (arith, within, legal.letters.count)) in
    none-some _ (sym (rw (ring, letter) at none))

pub not_ready : (m : RotorParts) → AreLegalRotorParts m → Contains (map (wheel_in_seat m) m.slots) None → IsReady (Rotor m)
    → ⊥
not_ready m legal h ready =
    let k = h.0 in
    let within : k < length m.slots = omega (arith, h.1, length-map m.slots (wheel_in_seat m)) in
    filled_seat m legal k (get_or m.slots k None) (slice_get-get_or m.slots k None within) (ready.0 k None within)
    (sym (get_or-map (wheel_in_seat m) m.slots k None None within) ∙ h.2)

-- writing a letter for each wheel at the wheel's own place
module _ (place : Wheel → ℕ) where
  abbrev put : List Wheel → List ℕ → List ℕ → List ℕ
  put [] window letters = letters
  put (wheel ∷ wheels) [] letters = letters
  put (wheel ∷ wheels) (letter ∷ window) letters = set (put wheels window letters) (place wheel) letter

  -- all wheels have different places
  abbrev HavePlaces : List Wheel → Type 0
  HavePlaces [] = Unit {0}
  HavePlaces (wheel ∷ wheels) = AllByRecursion (λ other. place other ≢ place wheel) wheels × HavePlaces wheels

  still_read : (wheels : List Wheel) (xs : List ℕ) (i x : ℕ) → AllByRecursion (λ other. place other ≢ i) wheels
      → filter_map (λ wheel. slice_get (set xs i x) (place wheel)) wheels
      ≡ filter_map (λ wheel. slice_get xs (place wheel)) wheels
  still_read [] xs i x h = refl
  still_read (wheel ∷ wheels) xs i x h = grind (arith, filter_map, set_other, still_read wheels xs i x h.1)

  module _ (number : ℕ) (letters : List ℕ) (h : AreLetters number letters) where
    put_letters : (wheels : List Wheel) (window : List ℕ) → AllByRecursion (λ letter. letter < 26) window
        → AreLetters number (put wheels window letters)
    put_letters [] window are = h
    put_letters (wheel ∷ wheels) [] are = h
    put_letters (wheel ∷ wheels) (letter ∷ window) are =
        letters_set number (put wheels window letters) (place wheel) letter are.0 (put_letters wheels window are.1)

    read_put : (wheels : List Wheel) (window : List ℕ) → length window ≡ length wheels
        → AllByRecursion (λ letter. letter < 26) window
        → AllByRecursion (λ wheel. place wheel < number) wheels → HavePlaces wheels
        → filter_map (λ wheel. slice_get (put wheels window letters) (place wheel)) wheels ≡ window
    read_put [] [] same are below apart = refl
    read_put (wheel ∷ wheels) (letter ∷ window) same are below apart =
        let rest = put wheels window letters in
        let within : place wheel < length rest = omega (arith, below.0, (put_letters wheels window are.1).count) in
        ap (λ found. cons_option found (filter_map
        (λ other. slice_get (set rest (place wheel) letter) (place other)) wheels))
        (set_here rest (place wheel) letter within)
        ∙ ap (λ read. letter ∷ read) (still_read wheels rest (place wheel) letter apart.0
        ∙ read_put wheels window (omega arith) are.1 below.1 apart.1)
    read_put wheels window same are below apart = absurd (omega arith)

-- if the wheel in each slot that isn't empty satisfies `Q`, each wheel in the list of seated wheels does
each_standing : (Q : Wheel → Type 0) (slots : List (Option Wheel))
    → ((k : ℕ) (wheel : Wheel) → IsSeatedAt slots k wheel → Q wheel)
    → AllByRecursion Q (filter_map (λ seated. seated) slots)
each_standing Q [] h = tt
each_standing Q (seat ∷ slots) h = grind (arith, filter_map, each_standing Q slots (λ k. h (suc k)), h zero)

places_apart : (model : Model) (slots : List (Option Wheel))
    → ((p q : ℕ) (wheel : Wheel) → IsSeatedAt slots p wheel → IsSeatedAt slots q wheel → p ≡ q)
    → ((k : ℕ) (wheel : Wheel) → IsSeatedAt slots k wheel → Contains (box_of model) wheel)
    → HavePlaces (place_in_box model) (filter_map (λ seated. seated) slots)
places_apart model [] apart boxed = tt
places_apart model (None ∷ slots) apart boxed =
    places_apart model slots (λ j k wheel a b. omega (arith, apart (suc j) (suc k) wheel a b)) (λ k. boxed (suc k))
places_apart model (Some wheel ∷ slots) apart boxed = (
  each_standing (λ other. place_in_box model other ≢ place_in_box model wheel) slots
      (λ k other at e. omega (
        arith,
        apart zero (suc k) wheel refl
            (subst (IsSeatedAt slots k) (places_determine_wheels model other wheel (boxed (suc k) other at)
            (boxed zero wheel refl) e) at),
      )),
  places_apart model slots (λ j k other a b. omega (arith, apart (suc j) (suc k) other a b)) (λ k. boxed (suc k)),
)

pub can_be_turned : MachinesCanBeTurned
can_be_turned (Rotor m) window machine ready are =
    let legal = machine.legal in
    let place = place_in_box m.model in
    let wheels = seated_wheels m in
    let letters = put place wheels window m.letters in
    let boxed : (k : ℕ) (wheel : Wheel) → IsSeatedAt m.slots k wheel → Contains (box_of m.model) wheel =
    λ k wheel at. (IsPlaced-from_wheels_for m.model (k + 1) wheel (legal.seats.allowed k wheel at)).in_box in
    let below =
    each_standing (λ wheel. place wheel < length (box_of m.model)) m.slots
    (λ k wheel at. place_within m.model wheel (boxed k wheel at)) in
    let within = recursion_from_All (λ (letter : ℕ). letter < 26) window are.within in (
      Rotor (record m { letters = letters }),
      (
        refl,
        read_put place _ m.letters legal.letters wheels window are.count within below
            (places_apart m.model m.slots legal.seats.apart boxed),
      ),
      with_letters m m.rings letters machine legal.rings
          (put_letters place _ m.letters legal.letters wheels window within),
    )
can_be_turned (Pin m) window machine ready is =
    let l = machine.legal in (
      Pin (record m { letters = window }),
      refl,
      record { legal = record { pins = l.pins; letters = is; bars = l.bars; apart = l.apart }; cables = refl },
    )
