-- What the command `table` writes, and when the command refuses.
use Rattle.std.specs.Prelude.{ℕ, List, Result}
use Rattle.kd_tables.specs.Ports.{Port}
use Rattle.kd_host.specs.Writing.{WritesText}
use Rattle.kd_language.specs.declared.language.Language.{Language}
use Rattle.kd_printed_sheet.specs.TableFile.{file_text}
use Rattle.kd_options.specs.declared.table_form.TableForm.{TableForm}
use Rattle.kd_curator.specs.MachineAndSheet.{IsAnswerOn, month_in}
use Rattle.kd_curator.specs.Refusals.{refused_device}
use Rattle.kd_curator.specs.declared.fault.Refused.{Refused}

-- One of these cases holds:
-- - The tables of the sheet's month were written in the form `form`, in language `l`. If the sink failed, only a
--   prefix was written.
-- - The answer is the refusal for the sheet's first fault.
-- - The answer is that memory ran out.
abbrev pub WritesTables : Language → TableForm → List ℕ → Port → Result (Unit {0}) Refused → Type 0
WritesTables l form sheet sink answer =
    IsAnswerOn (month_in 0 sheet) (λ month. WritesText refused_device (file_text l form month) sink answer) answer
