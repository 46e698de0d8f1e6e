-- How a form is read without deciphering its letters. The result is success, or the first fault of the form's headings,
-- bytes, numbers of letters, or numbers of parts. Parts are counted from 1.
-- Test: tests/cases/curator-look.toml
use Rattle.std.specs.Prelude.{◌≡◌, ℕ, ◌+◌, List, [], ◌∷◌, length, None, Some}
use Rattle.kd_state.specs.AnswerRules.{AnswerRule, ◌>>=◌, Demands, Yields}
use Rattle.kd_state.specs.SheetDay.{Day}
use Rattle.kd_form.specs.declared.fault.FormFault.{FormFault}
use Rattle.kd_form.specs.declared.fault.FormFault.TheVariants.{CountWrong, PartOrder}
use Rattle.kd_form.specs.FormParts.{parts_of}
use Rattle.kd_form.specs.FormText.{first_part_start, next_part_start}
use Rattle.kd_form.specs.PartReading.{IsContentAnswer, PartStart}
use Rattle.kd_form.specs.Sending.{letters_from}

-- The result of reading a part without deciphering its letters: the number of parts that the heading gives, or the
-- part's first fault. The part starts at `p`. `IsPartAnswer` is the definition with deciphering.
abbrev pub IsShownPartAnswer : Day → PartStart → List ℕ → AnswerRule FormFault ℕ
IsShownPartAnswer s p part = do
  content ← IsContentAnswer s p part
  _ ← Demands (length (letters_from None content.body) ≡ content.heading.letters) (CountWrong p.number)
  Yields content.heading.parts

-- The result of reading a form's unread parts without deciphering their letters: success, or the first fault. The first
-- unread part starts at `p`. In the end, the form must have as many parts as its headings say.
abbrev pub AreShownPartsAnswer : Day → PartStart → List (List ℕ) → AnswerRule FormFault (Unit {0})
AreShownPartsAnswer s p [] answer =
    (count : ℕ) × (p.expected ≡ Some count) × Demands (p.number ≡ count + 1) PartOrder answer
AreShownPartsAnswer s p (part ∷ parts) answer =
    (IsShownPartAnswer s p part >>= (λ count. AreShownPartsAnswer s (next_part_start p count part) parts)) answer

-- The result of reading a whole form without deciphering its letters: success, or the first fault.
abbrev pub IsShownFormAnswer : Day → List ℕ → AnswerRule FormFault (Unit {0})
IsShownFormAnswer s form = AreShownPartsAnswer s first_part_start (parts_of form)
