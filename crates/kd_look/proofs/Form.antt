-- The parts of a form, one after another.
use Rattle.std.proofs.Common.{◌≡◌, ℕ, suc, zero, ◌+◌, ◌-◌, ◌<◌, ◌==◌, Bool, not, List, Option, Some, Result, Ok, Err, length}
use Rattle.std.proofs.Common.{refl, arith, if◌then◌else◌}
use Rattle.kd_form.specs.declared.fault.FormFault.TheVariants.{PartOrder}
use Rattle.kd_sheet.specs.Document.{◌>>=◌, ◌>>◌, demand}
use Rattle.kd_look.specs.Form.{first_or, form_from, part_at}
use Rattle.kd_look.specs.declared.message.fault.MessageFault.{MessageFault}
use Rattle.kd_look.specs.declared.message.fault.Reason.TheVariants as reasons
use Rattle.kd_look.specs.declared.message.form.FormPart.{FormPart}
use Rattle.kd_look.specs.declared.message.form_heading.FormHeading.{FormHeading}

-- the answer after the last part, in a text of `length` bytes; `right` says whether the form has all its parts
abbrev pub end_answer : ℕ → FormHeading → Bool → Result FormHeading MessageFault
end_answer length first right =
    demand right (record { index = length; fault = PartOrder; reason = reasons.PartsMissing }) >> Ok first

-- The answer after the part `part`, if at most `left` parts may still come after it. `last` says whether the form ends.
abbrev pub answer_after : List ℕ → ℕ → Option FormHeading → ℕ → FormPart → Bool → Result FormHeading MessageFault
answer_after text left first number part last =
    if not last then form_from text left (Some (first_or part.heading first)) (number + 1) part.end
    else end_answer (length text) (first_or part.heading first) (part.heading.parts == number)

-- the answer after the part `part`, if at most `left` parts may still come after it
abbrev pub after_part : List ℕ → ℕ → Option FormHeading → ℕ → FormPart → Result FormHeading MessageFault
after_part text left first number part = answer_after text left first number part (part.end == length text)

-- a form in which another part may come
pub part_next : (text : List ℕ) (left : ℕ) (first : Option FormHeading) (number index : ℕ) → 0 < left
    → form_from text left first number index
    ≡ (part_at text first number index >>= after_part text (left - 1) first number)
part_next text zero first number index some = absurd (omega (arith, some))
part_next text (suc left) first number index some = let same : suc left - 1 ≡ left = omega arith in rw same refl

-- a form in which no further part may come
pub no_part_left : (text : List ℕ) (left : ℕ) (first : Option FormHeading) (number index : ℕ) → left ≡ 0
    → form_from text left first number index
    ≡ Err (record { index = index; fault = PartOrder; reason = reasons.PartsMixed })
no_part_left text left first number index none = rw none refl
