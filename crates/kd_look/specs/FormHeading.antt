-- How a heading line of a form is read without a machine. Indexes are counted from 0.
-- Test: tests/cases/curator-look.toml
use Rattle.std.specs.Prelude.{codes, ℕ, ◌+◌, ◌-◌, ◌*◌, ◌%◌, ◌==◌, ◌&&◌, nat_le, Bool, List, [], length, Option}
use Rattle.std.specs.Prelude.{Some, None, Result, Ok, Err, slice_get, if◌then◌else◌}
use Rattle.std.specs.Option.{option_map_or}
use Rattle.kd_sheet.specs.Document.{◌>>=◌, ◌>>◌, demand}
use Rattle.kd_look.specs.Signs.{end_of_line, fits_at, marks_end}
use Rattle.kd_look.specs.declared.message.form_heading.FormHeading.{FormHeading}
use Rattle.kd_look.specs.declared.message.form_heading.Number.{Number}
use Rattle.kd_look.specs.declared.message.order_head.KeyLine.{KeyLine}
use Rattle.kd_look.specs.declared.message.order_head.KeyLine.TheVariants as lines
use Rattle.kd_look.specs.declared.message.signs.WrongByte.{WrongByte}

-- the number with the digit `byte` appended; if the byte is no digit, the number itself
abbrev pub with_byte : Number → ℕ → Number
with_byte number byte = if nat_le 48 byte && nat_le byte 57
    then record { value = number.value * 10 + (byte - 48); end = number.end + 1 } else number

-- the number, extended by the digit that follows it; if no digit follows, the number itself
abbrev pub with_digit : List ℕ → Number → Number
with_digit text number = option_map_or (with_byte number) (slice_get text number.end) number

-- the number at `index`, read up to its third digit, and the index after it; if there is no digit, the number is 0
unfoldable pub digits_at : List ℕ → ℕ → Number
digits_at text index = with_digit text (with_digit text (with_digit text (record { value = 0; end = index })))

-- The number at `index`, of which at most three digits are read. If there is no number, or if it begins with 0, the
-- result is the wrong byte at `index`, with the mark `#`.
unfoldable pub number_at : List ℕ → ℕ → Result Number WrongByte
number_at text index = if (digits_at text index).value == 0 then Err (record { index = index; mark = 35 })
    else if fits_at text 48 index then Err (record { index = index; mark = 35 })
    else Ok (digits_at text index)

-- The machine that a heading is for. What follows the number of letters shows it:
-- - no space: a Converter
-- - a space and four capital letters: an M4
-- - a space and anything else: a machine with three slots
unfoldable pub heading_keys : List ℕ → ℕ → KeyLine
heading_keys text index = if fits_at text 32 index
    then (if fits_at text 95 (index + 1) && fits_at text 95 (index + 2) && (fits_at text 95 (index + 3)
    && fits_at text 95 (index + 4)) then lines.FourSlots else lines.ThreeSlots)
    else lines.Converter

-- The pattern for the end of a heading line, after the number of letters.
abbrev pub keys_pattern : KeyLine → List ℕ
keys_pattern lines.ThreeSlots = codes " ___ ___"
keys_pattern lines.FourSlots = codes " ____ ____"
keys_pattern lines.Converter = []

-- The index after the line end at `index`, or the wrong byte there. If the form ends at `index`, no line end is needed,
-- and the result is `index`.
unfoldable pub heading_end : List ℕ → ℕ → Result ℕ WrongByte
heading_end text index = if index == length text then Ok index else end_of_line text index

-- how the keys of the form's first heading are written: `first`, or `own` if `first` is `None`
abbrev pub keys_or : KeyLine → Option KeyLine → KeyLine
keys_or own None = own
keys_or own (Some first) = first

-- whether a body may have `count` letters
abbrev pub is_letter_count : KeyLine → ℕ → Bool
is_letter_count lines.Converter count = nat_le 25 count && nat_le count 520 && count % 5 == 0
is_letter_count form count = nat_le 6 count && nat_le count 250

-- The heading at `index`, or the byte at which it is wrong. If the part number or the number of parts is out of range,
-- this is the first byte of the part number. If the number of letters is out of range, this is its first byte. `first`
-- says how the keys of the form's first heading are written. For the first heading itself, `first` is `None`.
unfoldable pub heading_at : List ℕ → Option KeyLine → ℕ → Result FormHeading WrongByte
heading_at text first index = do
  start ← marks_end text (codes "PART ") index
  part ← number_at text start
  slash ← marks_end text (codes "/") part.end
  parts ← number_at text slash
  demand (nat_le part.value parts.value && nat_le parts.value 99) (record { index = start; mark = 37 })
  space ← marks_end text (codes " ") parts.end
  count ← number_at text space
  keys ← Ok (keys_or (heading_keys text count.end) first)
  last ← marks_end text (keys_pattern keys) count.end
  end ← heading_end text last
  demand (is_letter_count keys count.value) (record { index = space; mark = 36 })
  Ok (record { part = part.value; parts = parts.value; letters = count.value; keys = keys; body = end })
