-- The head of an order, line by line.
use Rattle.std.proofs.Common.{◌≡◌, ℕ, suc, zero, ◌-◌, ◌<◌, true, false, List, codes, refl, arith}
use Rattle.kd_sheet.specs.Document.{◌>>=◌}
use Rattle.kd_look.specs.OrderHead.{head_end, pattern_of}
use Rattle.kd_look.specs.Signs.{fits_at, line_end}
use Rattle.kd_look.specs.declared.message.order_head.KeyLine.{KeyLine}

-- an order whose next line is a line of keys, if another may come
pub keys_next : (text : List ℕ) (form : KeyLine) (left index : ℕ) → 0 < left → fits_at text 80 index ≡ true
    → head_end text form left index ≡ (line_end text (pattern_of form) index >>= head_end text form (left - 1))
keys_next text form zero index some fits = absurd (omega (arith, some))
keys_next text form (suc left) index some fits =
    let same : suc left - 1 ≡ left = omega arith in rw (fits, same) refl

-- an order whose next line is no line of keys
pub text_next : (text : List ℕ) (form : KeyLine) (left index : ℕ) → fits_at text 80 index ≡ false
    → head_end text form left index ≡ line_end text (codes "TEXT") index
text_next text form zero index other = refl
text_next text form (suc left) index other = rw other refl

-- an order with no further line of keys
pub none_left : (text : List ℕ) (form : KeyLine) (left index : ℕ) → left ≡ 0
    → head_end text form left index ≡ line_end text (codes "TEXT") index
none_left text form left index none = rw none refl
