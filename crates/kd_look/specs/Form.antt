-- How a form is tested before its letters are deciphered: its headings, its bytes, and its numbers of letters and
-- parts. Of several faults, the result is the first one in the order of the tests of `desk receive`. Faults that can
-- be found only with the day, the machine or the indicators are left out. Indexes are counted from 0, and parts from
-- 1.
-- Test: tests/cases/curator-look.toml
use Rattle.std.specs.Prelude.{codes, ℕ, suc, zero, ◌+◌, ◌-◌, ◌==◌, ◌&&◌, nat_le, not, Bool, false, List}
use Rattle.std.specs.Prelude.{Option, Some, None, Result, Ok, Err, count_by, find, is_ok, length, option_map}
use Rattle.std.specs.Prelude.{slice_get, if◌then◌else◌}
use Rattle.std.specs.List.{range_with_len, slice_range}
use Rattle.std.specs.Option.{option_map_or}
use Rattle.std.specs.Result.{result_map_both}
use Rattle.kd_tables.specs.Text.{is_capital}
use Rattle.kd_form.specs.declared.fault.FormFault.TheVariants.{BadByte, BadHeading, CountWrong, PartOrder}
use Rattle.kd_sheet.specs.Document.{◌>>=◌, ◌>>◌, demand}
use Rattle.kd_look.specs.FormHeading.{heading_at}
use Rattle.kd_look.specs.Signs.{fits_at, marks_end, wrong_sign}
use Rattle.kd_look.specs.declared.message.fault.MessageFault.{MessageFault}
use Rattle.kd_look.specs.declared.message.fault.Reason.{Reason}
use Rattle.kd_look.specs.declared.message.fault.Reason.TheVariants as reasons
use Rattle.kd_look.specs.declared.message.form.FormPart.{FormPart}
use Rattle.kd_look.specs.declared.message.form_heading.FormHeading.{FormHeading}
use Rattle.kd_look.specs.declared.message.signs.WrongByte.{WrongByte}

-- what is wrong in a heading; `mark` says what belongs there: for example, the mark `/` means that a slash is missing
abbrev pub heading_reason : ℕ → Reason
heading_reason mark = if mark == 35 then reasons.HeadingNumber
    else if mark == 36 then reasons.HeadingCount
    else if mark == 37 then reasons.HeadingParts
    else if mark == 47 then reasons.HeadingSlash
    else if mark == 95 then reasons.HeadingLetter
    else if mark == 32 then reasons.HeadingSpace
    else reasons.LineGoesOn

-- the fault for a wrong byte in the heading of part `number`
abbrev pub heading_fault : ℕ → WrongByte → MessageFault
heading_fault number wrong =
    record { index = wrong.index; fault = BadHeading number; reason = heading_reason wrong.mark }

-- whether there is an LF at `index`, and a heading line follows: `PART `, and then a digit
unfoldable pub heading_follows : List ℕ → ℕ → Bool
heading_follows text index = fits_at text 10 index && is_ok (marks_end text (codes "PART ") (index + 1))
    && option_map_or (λ byte. nat_le 48 byte && nat_le byte 57) (slice_get text (index + 6)) false

-- the end of the body that begins at `body`: the next heading line's index, or the form's length
abbrev pub body_end : List ℕ → ℕ → ℕ
body_end text body = option_map_or (λ index. index + 1)
    (find (heading_follows text) (range_with_len (body - 1) (length text - (body - 1)))) (length text)

-- success if all bytes from `body` to `end` may stand in a body; otherwise the fault of the first byte that may not
abbrev pub body_signs : List ℕ → ℕ → ℕ → Result (Unit {0}) MessageFault
body_signs text body end = option_map_or
    (λ place. Err (record { index = body + place; fault = BadByte (body + place + 1); reason = reasons.BodySign }))
    (wrong_sign (slice_range text body end)) (Ok tt)

-- Whether `heading` gives the part number `number`. If it isn't the form's first heading, it must also give the same
-- number of parts as the first.
abbrev pub has_due_numbers : Option FormHeading → ℕ → FormHeading → Bool
has_due_numbers None number heading = heading.part == number
has_due_numbers (Some first) number heading = heading.part == number && heading.parts == first.parts

-- The heading of part `number`, which begins at `index`, or the heading's first fault. `first` is the form's first
-- heading. For the first part, `first` is `None`.
unfoldable pub due_heading : List ℕ → Option FormHeading → ℕ → ℕ → Result FormHeading MessageFault
due_heading text first number index = do
  heading ← result_map_both (λ heading. heading) (heading_fault number)
      (heading_at text (option_map (λ heading. heading.keys) first) index)
  demand (has_due_numbers first number heading)
      (record { index = index; fault = PartOrder; reason = reasons.PartsMixed })
  Ok heading

-- Part `number` of the form, which begins at `index`, or the part's first fault. `first` is the form's first heading.
-- For the first part, `first` is `None`.
unfoldable pub part_at : List ℕ → Option FormHeading → ℕ → ℕ → Result FormPart MessageFault
part_at text first number index = do
  heading ← due_heading text first number index
  end ← Ok (body_end text heading.body)
  body_signs text heading.body end
  demand (count_by is_capital (slice_range text heading.body end) == heading.letters)
      (record { index = index; fault = CountWrong number; reason = reasons.BodyCount })
  Ok (record { heading = heading; end = end })

-- the form's first heading: `first`, or `own` if `first` is `None`
abbrev pub first_or : FormHeading → Option FormHeading → FormHeading
first_or own None = own
first_or own (Some first) = first

-- Reads the form from part `number` on, which begins at `index`. The result is the form's first heading, or the first
-- fault. `first` is the form's first heading. For the first part, `first` is `None`. At most `left` parts are read.
abbrev pub form_from : List ℕ → ℕ → Option FormHeading → ℕ → ℕ → Result FormHeading MessageFault
form_from text zero first number index =
    Err (record { index = index; fault = PartOrder; reason = reasons.PartsMixed })
form_from text (suc left) first number index = part_at text first number index >>= (λ part.
    if not (part.end == length text)
    then form_from text left (Some (first_or part.heading first)) (number + 1) part.end
    else demand (part.heading.parts == number)
    (record { index = length text; fault = PartOrder; reason = reasons.PartsMissing })
    >> Ok (first_or part.heading first))

-- the first heading of the form, or the form's first fault
abbrev pub form_answer : List ℕ → Result FormHeading MessageFault
form_answer text = form_from text 100 None 1 0
