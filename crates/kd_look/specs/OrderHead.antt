-- How the head of an order is read without a machine: the lines of keys, and the line `TEXT`. Indexes are counted from
-- 0.
-- Test: tests/cases/curator-look.toml
use Rattle.std.specs.Prelude.{codes, ℕ, suc, zero, ◌&&◌, Bool, List, Result, if◌then◌else◌}
use Rattle.kd_sheet.specs.Document.{◌>>=◌}
use Rattle.kd_look.specs.Signs.{fits_at, line_end}
use Rattle.kd_look.specs.declared.message.order_head.KeyLine.{KeyLine}
use Rattle.kd_look.specs.declared.message.order_head.KeyLine.TheVariants as lines
use Rattle.kd_look.specs.declared.message.signs.WrongByte.{WrongByte}

-- the pattern of a line of keys: `_` stands for any capital letter, and each other byte for itself
abbrev pub pattern_of : KeyLine → List ℕ
pattern_of lines.ThreeSlots = codes "PART ___ ___ __ ___"
pattern_of lines.FourSlots = codes "PART ____ ____ __ ___"
pattern_of lines.Converter = codes "PART _ ______"

-- whether the text has four capital letters from index 5 on, after `PART `
unfoldable pub has_four_letters : List ℕ → Bool
has_four_letters text = fits_at text 95 5 && fits_at text 95 6 && (fits_at text 95 7 && fits_at text 95 8)

-- Finds out from the first word of keys which machine an order is for: one letter means a Converter, and four letters
-- mean an M4. Any other word means a machine with three slots.
unfoldable pub key_line_of : List ℕ → KeyLine
key_line_of text =
    if fits_at text 32 6 then lines.Converter else if has_four_letters text then lines.FourSlots else lines.ThreeSlots

-- Reads an order's head from the line at `index` on. The result is the index at which the order's text begins, or the
-- first wrong byte. At most `left` lines of keys may still come, and then the line `TEXT`.
abbrev pub head_end : List ℕ → KeyLine → ℕ → ℕ → Result ℕ WrongByte
head_end text form zero index = line_end text (codes "TEXT") index
head_end text form (suc left) index =
    if fits_at text 80 index then line_end text (pattern_of form) index >>= head_end text form left
    else line_end text (codes "TEXT") index
