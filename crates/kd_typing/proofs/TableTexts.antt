-- Tables as text, line by line.
use Rattle.std.proofs.Common.{◌≡◌, ◌∙◌, ℕ, ◌%◌, ◌+◌, Bool, List, [], ◌∷◌, ◌++◌, Option, ap, append-nil, arith}
use Rattle.std.proofs.Common.{length, map, sym}
use Rattle.std.specs.List.{flat_map, range_with_len}
use Rattle.std.proofs.lemmas.List.{append_assoc, map_push}
use Rattle.std.proofs.lemmas.List.Concat.{flat_map-append}
use Rattle.std.proofs.lemmas.List.Folds.{flat_map-map}
use Rattle.std.proofs.lemmas.List.FromFn.{map-range_with_len_more}
use Rattle.kd_tables.specs.Text.{letters_text}
use Rattle.kd_pictures.specs.Drawing.{Draws}
use Rattle.kd_pictures.proofs.Drawings.{joined}
use Rattle.std.specs.Int.{from_bool}
use Rattle.kd_tables.specs.Rings.{ring_of}
use Rattle.kd_pins.specs.PinWheel.{is_effective}
use Rattle.kd_pins.specs.PinWheels.{acting_offset, pins_on}
use Rattle.kd_drum.specs.Converter.{PinKey}
use Rattle.kd_typing.specs.PinTable.{acting_pins}
use Rattle.kd_typing.specs.RotorTable.{RotorTable}
use Rattle.kd_typing.specs.TableText.{acting_text, digits_text, pins_text, lines_text, rotor_lines, row_line}

pub rotor_text_is : (table : RotorTable)
    → lines_text (rotor_lines table)
    ≡ digits_text table.steps ++ flat_map row_line table.into ++ flat_map row_line table.core
rotor_text_is table =
    ap (λ rows. digits_text table.steps ++ rows) (flat_map-append (λ line. 10 ∷ line) (map letters_text table.into)
    (map letters_text table.core)
    ∙ (λ i. flat_map-map (λ line. 10 ∷ line) letters_text table.into i
    ++ flat_map-map (λ line. 10 ∷ line) letters_text table.core i))
    ∙ sym (append_assoc (digits_text table.steps) (flat_map row_line table.into) (flat_map row_line table.core))

-- One more row.
pub one_more : {W : Type 0} {taken : W → Option (List ℕ)} {failed : W → Bool} {old mid new : W} (row : ℕ → List ℕ)
    (n : ℕ) → Draws taken failed old mid (flat_map row_line (map row (range_with_len 0 n)))
    → Draws taken failed mid new (row_line (row n))
    → Draws taken failed old new (flat_map row_line (map row (range_with_len 0 (n + 1))))
one_more row n before one =
    joined before one (ap (flat_map row_line) (map-range_with_len_more row 0 n n (omega arith))
    ∙ flat_map-append row_line (map row (range_with_len 0 n)) (row n ∷ [])
    ∙ ap (λ last. flat_map row_line (map row (range_with_len 0 n)) ++ last) (append-nil (row_line (row n))))

pub digits_more : (f : ℕ → ℕ) (n digit : ℕ) → digit ≡ 48 + f n
    → digits_text (map f (range_with_len 0 (n + 1))) ≡ digits_text (map f (range_with_len 0 n)) ++ digit ∷ []
digits_more f n digit is =
    ap digits_text (map-range_with_len_more f 0 n n (omega arith))
    ∙ map_push (λ number. 48 + number) (map f (range_with_len 0 n)) (f n)
    ∙ ap (λ last. digits_text (map f (range_with_len 0 n)) ++ last ∷ []) (sym is)

-- ---- the lines of a Converter

pub pin_text_is : (first : List ℕ) (lines : List (List ℕ)) (rows : List (List ℕ))
    → lines_text (first ∷ lines ++ map letters_text rows) ≡ lines_text (first ∷ lines) ++ flat_map row_line rows
pin_text_is first lines rows =
    ap (λ rest. first ++ rest) (flat_map-append (λ line. 10 ∷ line) lines (map letters_text rows)
    ∙ ap (λ rest. flat_map (λ line. 10 ∷ line) lines ++ rest) (flat_map-map (λ line. 10 ∷ line) letters_text rows))
    ∙ sym (append_assoc first (flat_map (λ line. 10 ∷ line) lines) (flat_map row_line rows))

-- The digits of a wheel, from its pins.
pub acting_line : (key : PinKey) (wheel offset : ℕ) (pins : List Bool) → pins_on key.pins wheel ≡ pins
    → acting_offset wheel ≡ offset → length (ring_of wheel) ≡ length pins
    → pins_text (acting_pins key wheel) ≡ acting_text pins offset
unfolding acting_text acting_pins
acting_line key wheel offset pins is_pins is_offset size = λ i.
    pins_text (map (λ place. is_effective (is_pins i) ((place + is_offset i) % size i)) (range_with_len 0 (size i)))

pub pins_more : (f : ℕ → Bool) (n : ℕ)
    → pins_text (map f (range_with_len 0 (n + 1))) ≡ pins_text (map f (range_with_len 0 n)) ++ pins_text (f n ∷ [])
pins_more f n =
    ap pins_text (map-range_with_len_more f 0 n n (omega arith))
    ∙ ap digits_text (map_push from_bool (map f (range_with_len 0 n)) (f n))
    ∙ map_push (λ number. 48 + number) (map from_bool (map f (range_with_len 0 n))) (from_bool (f n))

-- The line of a wheel is drawn, with an LF before it.
pub wheel_drawn : {W : Type 0} {taken : W → Option (List ℕ)} {failed : W → Bool} {old new : W} (key : PinKey)
    (wheel offset : ℕ) (pins : List Bool) → Draws taken failed old new (10 ∷ acting_text pins offset)
    → pins_on key.pins wheel ≡ pins → acting_offset wheel ≡ offset → length (ring_of wheel) ≡ length pins
    → Draws taken failed old new (10 ∷ pins_text (acting_pins key wheel))
wheel_drawn key wheel offset pins draws is_pins is_offset size =
    rw (acting_line key wheel offset pins is_pins is_offset size) draws
