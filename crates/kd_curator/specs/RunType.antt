-- What `run_type` writes, and when `run_type` refuses.
-- Test: tests/typing-pages
use Rattle.std.specs.Prelude.{◌≡◌, Bool, if◌then◌else◌, Result, Ok, Err}
use Rattle.kd_tables.specs.Ports.{Port}
use Rattle.kd_state.specs.declared.machine.parts.Parts.{Parts}
use Rattle.kd_state.specs.TwoCiphers.{IsReady}
use Rattle.kd_form.specs.declared.fault.FormFault.TheVariants.{NotReady}
use Rattle.kd_host.specs.Writing.{WritesText}
use Rattle.kd_language.specs.declared.language.Language.{Language}
use Rattle.kd_typing.specs.MachineTable.{TypesAsMachine}
use Rattle.kd_typing_page.specs.TypingPage.{typing_page}
use Rattle.kd_curator.specs.Refusals.{refused_device, refused_message}
use Rattle.kd_curator.specs.declared.fault.Refused.{Refused}

-- The cases of `run_type`:
-- - `NoPage`: the machine isn't ready.
-- - `Page`: the machine's page was written. If the sink failed, only a prefix of the page was written. Typing on the
--   page's table gives the machine's ciphertext.
pub data WritesTypingPage (l : Language) (m : Parts) (sink : Port) (answer : Result (Unit {0}) Refused) : Type 0 where
  NoPage : ¬ (IsReady m) → answer ≡ Err (refused_message NotReady) → WritesTypingPage l m sink answer
  Page : IsReady m → TypesAsMachine m → WritesText refused_device (typing_page l m) sink answer
      → WritesTypingPage l m sink answer

-- ---- The answer of an inner function. No public contract cites this definition.

-- The answer after the program wrote a page: the refusal `Device` if the sink failed, and otherwise success.
abbrev pub answer_after : Bool → Result (Unit {0}) Refused
answer_after failed = if failed then Err refused_device else Ok tt
