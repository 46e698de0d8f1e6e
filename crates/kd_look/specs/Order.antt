-- The first fault of an order that can be found without a machine. Faults are tested in the order of the tests of
-- `desk send`. Two faults that can be found only with the day or the machine are left out: a wrong group, and keys
-- that give no internal key. Indexes are counted from 0.
-- Test: tests/cases/curator-look.toml
use Rattle.std.specs.Prelude.{ℕ, ◌+◌, ◌-◌, ◌==◌, ◌&&◌, ◌||◌, nat_le, nat_lt, not, Bool, false, List}
use Rattle.std.specs.Prelude.{Result, Ok, Err, count_by, drop, find, is_some, length, slice_get, take, if◌then◌else◌}
use Rattle.std.specs.Int.{div_ceil}
use Rattle.std.specs.List.{range_with_len}
use Rattle.std.specs.Option.{option_map_or}
use Rattle.std.specs.Result.{result_map_both}
use Rattle.kd_tables.specs.Rings.{place_on, ring_of}
use Rattle.kd_tables.specs.Text.{is_capital}
use Rattle.kd_form.specs.declared.fault.FormFault.TheVariants.{BadByte, EmptyText, KeyNotOnWheel, PartKeys}
use Rattle.kd_sheet.specs.Document.{◌>>=◌, ◌>>◌}
use Rattle.kd_findings.specs.NotToml.{column_at}
use Rattle.kd_look.specs.OrderHead.{head_end, key_line_of}
use Rattle.kd_look.specs.Signs.{wrong_sign}
use Rattle.kd_look.specs.declared.message.fault.MessageFault.{MessageFault}
use Rattle.kd_look.specs.declared.message.fault.Reason.{Reason}
use Rattle.kd_look.specs.declared.message.fault.Reason.TheVariants as reasons
use Rattle.kd_look.specs.declared.message.order_head.KeyLine.{KeyLine}
use Rattle.kd_look.specs.declared.message.order_head.KeyLine.TheVariants as lines
use Rattle.kd_look.specs.declared.message.signs.WrongByte.{WrongByte}

-- what is wrong at a byte of the head: the order ends too soon, or another byte belongs there
abbrev pub reason_for : List ℕ → KeyLine → WrongByte → Reason
reason_for text form wrong =
    if wrong.index == length text then reasons.OrderEnds
    else if wrong.mark == 95 then reasons.KeyLetter form
    else if wrong.mark == 32 then reasons.KeySpace form
    else if wrong.mark == 10 then reasons.LineGoesOn
    else reasons.LineStart

-- the fault for a wrong byte in the order's head
abbrev pub head_fault : List ℕ → KeyLine → WrongByte → MessageFault
head_fault text form wrong =
    record { index = wrong.index; fault = BadByte (wrong.index + 1); reason = reason_for text form wrong }

-- the index at which the order's text begins, or the fault of the order's head
abbrev pub text_start : List ℕ → KeyLine → Result ℕ MessageFault
text_start text form = result_map_both (λ start. start) (head_fault text form) (head_end text form 99 0)

-- In a Converter's line of keys, whether the byte in column `column` is an external letter that isn't on its pin wheel.
-- The external letters for the wheels 1 to 6 stand in the columns 8 to 13. They are capital letters.
abbrev pub is_off_wheel : ℕ → ℕ → Bool
is_off_wheel column byte = nat_le 8 column && nat_le column 13
    && (is_capital byte && not (is_some (place_on (ring_of (column - 7)) (byte - 65))))

-- whether the byte at `index` is an external letter that isn't on its pin wheel
abbrev pub is_off_wheel_at : List ℕ → ℕ → Bool
is_off_wheel_at text index = option_map_or (is_off_wheel (column_at text index)) (slice_get text index) false

-- Success if each external letter in an order's lines of keys is on its pin wheel; otherwise the fault of the first
-- letter that isn't. Only a Converter's keys have external letters. The lines of keys end before `start`.
abbrev pub wheels_answer : List ℕ → KeyLine → ℕ → Result (Unit {0}) MessageFault
wheels_answer text lines.Converter start = option_map_or
    (λ index. Err (record { index = index; fault = KeyNotOnWheel; reason = reasons.OffWheel }))
    (find (is_off_wheel_at text) (range_with_len 0 start)) (Ok tt)
wheels_answer text form start = Ok tt

-- Success if all bytes of the text are allowed; otherwise the fault of the first byte that isn't. The text begins at
-- `start`.
abbrev pub signs_answer : List ℕ → ℕ → Result (Unit {0}) MessageFault
signs_answer text start = option_map_or
    (λ place. Err (record { index = start + place; fault = BadByte (start + place + 1); reason = reasons.TextSign }))
    (wrong_sign (drop start text)) (Ok tt)

-- Whether a byte of the text counts as a letter. A capital letter does. On the Converter, a space does too.
abbrev pub gives_letter : KeyLine → ℕ → Bool
gives_letter lines.Converter byte = is_capital byte || byte == 32
gives_letter form byte = is_capital byte

-- the number of letters in the text, which begins at `start`
abbrev pub letter_count : List ℕ → KeyLine → ℕ → ℕ
letter_count text form start = count_by (gives_letter form) (drop start text)

-- how many letters of the order's text a part can have at most
abbrev pub part_letters : KeyLine → ℕ
part_letters lines.Converter = 500
part_letters form = 245

-- the number of parts that the text needs
abbrev pub parts_needed : List ℕ → KeyLine → ℕ → ℕ
parts_needed text form start = div_ceil (letter_count text form start) (part_letters form)

-- how many lines of keys stand before `start`: all lines there, except the line `TEXT`
abbrev pub keys_given : List ℕ → ℕ → ℕ
keys_given text start = count_by (λ byte. byte == 10) (take start text) - 1

-- Success if the text has a letter, and needs as many parts as there are lines of keys; otherwise the fault. The text
-- begins at `start`.
unfoldable pub parts_answer : List ℕ → KeyLine → ℕ → Result (Unit {0}) MessageFault
parts_answer text form start =
    if letter_count text form start == 0
    then Err (record { index = start; fault = EmptyText; reason = reasons.NoLetter })
    else if parts_needed text form start == keys_given text start then Ok tt
    else Err (record {
      index = start;
      fault = PartKeys (parts_needed text form start) (keys_given text start);
      reason = if nat_lt (keys_given text start) (parts_needed text form start) then reasons.FewKeys
          else reasons.ManyKeys;
    })

-- The index at which an order's text begins, or the first fault of the order that can be found without a machine.
-- `form` says how the order's keys are written.
unfoldable pub order_answer : List ℕ → KeyLine → Result ℕ MessageFault
order_answer text form = do
  start ← text_start text form
  wheels_answer text form start
  signs_answer text start
  parts_answer text form start
  Ok start

-- the index at which the order's text begins, or the first fault of the order that can be found without a machine
abbrev pub order_start : List ℕ → Result ℕ MessageFault
order_start text = order_answer text (key_line_of text)
