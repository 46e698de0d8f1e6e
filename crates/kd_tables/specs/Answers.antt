-- Results of calls that may fail for lack of memory.
-- Test: orders_and_forms_want_memory
use Rattle.std.specs.Prelude.{◌≡◌, ◌⊎◌, Result, Err}

-- `answer` is the expected result `meant`, or the error `no_memory`, whether or not memory has really run out.
abbrev pub AgreesOrNoMemory : {A Fault : Type 0} → Fault → Result A Fault → Result A Fault → Type 0
AgreesOrNoMemory no_memory meant answer = (answer ≡ meant) ⊎ (answer ≡ Err no_memory)
