-- Places on a pin wheel: the place after some turns, and the same place after a whole turn.
use Rattle.std.proofs.Common.{ℕ, ◌+◌, ◌-◌, ◌<◌, ◌≡◌, arith, sym, ap, ◌∙◌}
use Rattle.std.proofs.Math.Nat.{add-mod_right, mod-add-mod, mod-eq_of_lt, mod-lt}
use Rattle.kd_pins.specs.PinWheel.{ActsAt, place_past, shown_place_at_acting}

-- Turning by `way` places, and then by `rest` places, ends at the same place if the two add up to a whole turn.
once_round : (size place way rest : ℕ) → place < size → way + rest ≡ size
    → place_past size (place_past size place way) rest ≡ place
once_round size place way rest lt round =
    grind (arith, mod-add-mod (place + way) size rest, add-mod_right place size, mod-eq_of_lt lt)

-- While the letter at `place` shows, the acting pin is `offset` places past it.
pub acts_past : (size place offset acting : ℕ) → place < size → offset < size
    → acting ≡ place_past size place offset
    → ActsAt size acting offset × (shown_place_at_acting size acting offset ≡ place)
acts_past size place offset acting lt inside e =
    let round = once_round size place offset (size - offset) lt (omega arith) in
    let shows = ap (λ p. shown_place_at_acting size p offset) e ∙ round in (
      record {
        inside = inside;
        there = rw e (mod-lt (place + offset) (omega arith));
        past = ap (λ p. place_past size p offset) shows ∙ sym e;
      },
      shows,
    )

-- If the acting pin is the next one, the letter shown is the next one too.
pub acts_next : (size acting offset next : ℕ) → ActsAt size acting offset → next ≡ place_past size acting 1
    → ActsAt size next offset
    × (shown_place_at_acting size next offset ≡ place_past size (shown_place_at_acting size acting offset) 1)
acts_next size acting offset next h e =
    let shown = shown_place_at_acting size acting offset in
    acts_past size (place_past size shown 1) offset next (mod-lt (shown + 1) (omega (arith, h.inside))) h.inside
    (grind (arith, e, h.past, mod-add-mod (shown + offset) size 1, mod-add-mod (shown + 1) size offset))
