-- The form of a day's lines of keys, and their pattern: each says what the other says.
use Rattle.std.proofs.Common.{◌≡◌, ◌≢◌, ℕ, zero, suc, ap, arith, codes, get_or, length, refl, sym}
use Rattle.kd_state.specs.SheetDay.{Day, Rotor, Pin}
use Rattle.kd_form.specs.KeyPatterns.{key_pattern, rotor_pattern}
use Rattle.kd_look.specs.Laws.{HasKeyLineForm}
use Rattle.kd_look.specs.OrderHead.{pattern_of}
use Rattle.kd_look.specs.declared.message.order_head.KeyLine.{KeyLine}
use Rattle.kd_look.specs.declared.message.order_head.KeyLine.TheVariants as lines

pub form_pattern : (s : Day) (form : KeyLine) → HasKeyLineForm s form → pattern_of form ≡ key_pattern s
form_pattern (Rotor s) lines.ThreeSlots slots = ap rotor_pattern (sym slots)
form_pattern (Rotor s) lines.FourSlots slots = ap rotor_pattern (sym slots)
form_pattern (Rotor s) lines.Converter none = absurd none
form_pattern (Pin s) lines.ThreeSlots none = absurd none
form_pattern (Pin s) lines.FourSlots none = absurd none
form_pattern (Pin s) lines.Converter is = refl

-- ---- The pattern of a line of keys determines the form, by its places without a letter.

three_slots : (slots : ℕ) → codes "PART ___ ___ __ ___" ≡ rotor_pattern slots → slots ≡ 3
three_slots zero same = absurd (omega (arith, ap (λ l. get_or l 5 0) same))
three_slots (suc zero) same = absurd (omega (arith, ap (λ l. get_or l 6 0) same))
three_slots (suc (suc zero)) same = absurd (omega (arith, ap (λ l. get_or l 7 0) same))
three_slots (suc (suc (suc zero))) same = refl
three_slots (suc (suc (suc (suc more)))) same = absurd (omega (arith, ap (λ l. get_or l 8 0) same))

four_slots : (slots : ℕ) → codes "PART ____ ____ __ ___" ≡ rotor_pattern slots → slots ≡ 4
four_slots zero same = absurd (omega (arith, ap (λ l. get_or l 5 0) same))
four_slots (suc zero) same = absurd (omega (arith, ap (λ l. get_or l 6 0) same))
four_slots (suc (suc zero)) same = absurd (omega (arith, ap (λ l. get_or l 7 0) same))
four_slots (suc (suc (suc zero))) same = absurd (omega (arith, ap (λ l. get_or l 8 0) same))
four_slots (suc (suc (suc (suc zero)))) same = refl
four_slots (suc (suc (suc (suc (suc more))))) same = absurd (omega (arith, ap (λ l. get_or l 9 0) same))

no_slots : (slots : ℕ) → codes "PART _ ______" ≢ rotor_pattern slots
no_slots zero same = omega (arith, ap (λ l. get_or l 5 0) same)
no_slots (suc zero) same = omega (arith, ap (λ l. get_or l 8 0) same)
no_slots (suc (suc more)) same = omega (arith, ap (λ l. get_or l 6 0) same)

pub pattern_form : (s : Day) (form : KeyLine) → pattern_of form ≡ key_pattern s → HasKeyLineForm s form
pattern_form (Rotor s) lines.ThreeSlots same = three_slots (length s.wheels) same
pattern_form (Rotor s) lines.FourSlots same = four_slots (length s.wheels) same
pattern_form (Rotor s) lines.Converter same = no_slots (length s.wheels) same
pattern_form (Pin s) lines.ThreeSlots same = absurd (omega (arith, ap (λ l. get_or l 6 0) same))
pattern_form (Pin s) lines.FourSlots same = absurd (omega (arith, ap (λ l. get_or l 6 0) same))
pattern_form (Pin s) lines.Converter same = tt
