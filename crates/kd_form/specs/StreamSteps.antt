-- The steps of reading a message. No public contract cites this file.
use Rattle.std.specs.Prelude.{◌≡◌, ℕ, ◌+◌, ◌^◌, ◌<◌, ◌≤◌, Bool, true, false, ◌||◌, List, [], ◌∷◌, ◌++◌, length, Result}
use Rattle.std.specs.Prelude.{Ok, Err, MatchResult, Some}
use Rattle.std.specs.Io.{StartsWith}
use Rattle.std.specs.Io.KnownBytes.{Appends, Consumes, IsAtEnd}
use Rattle.kd_tables.specs.Ports.{read_limit, Port, KeepsFailureFlag, FailsAlone}
use Rattle.kd_form.specs.declared.fault.FormFault.{FormFault}
use Rattle.kd_form.specs.declared.fault.FormFault.TheVariants as faults
use Rattle.kd_form.specs.declared.stream.interruption.Interruption.{Interruption}
use Rattle.kd_form.specs.declared.stream.interruption.Interruption.TheVariants.{Device, Refused}
use Rattle.kd_form.specs.Streams.{Message, IsOpen, IsMessageAnswer, FallsShort}

-- The reader has read `bytes`, and the reader's output is `text`. So far the bytes have no fault, and the reader's
-- state satisfies `holds`.
pub record HasReadSoFar (m : Message) (holds : List ℕ → List ℕ → Type 0) (bytes text : List ℕ) : Type 0 where
  pub is : holds bytes text
  pub open_yet : IsOpen m bytes text

-- The reader has read some bytes. Even with `room` more bytes, their number stays below 2^63.
pub record HasRoom (m : Message) (holds : List ℕ → List ℕ → Type 0) (room : ℕ) : Type 0 where
  pub bytes : List ℕ
  pub text : List ℕ
  pub held : HasReadSoFar m holds bytes text
  pub within : length bytes + room < 2 ^ 63

-- `bytes` have `fault`, whatever bytes follow. Before a call returns this fault, it must have written exactly `text`.
pub record HasFaultForGood (m : Message) (bytes text : List ℕ) (fault : FormFault) : Type 0 where
  pub stands : (more : List ℕ) → m.stands (bytes ++ more) fault
  pub refused : (more : List ℕ) → m.refused (bytes ++ more) fault
  pub written : (more : List ℕ) → m.written_before (Some fault) (bytes ++ more) text

-- The answer of a reader to its next byte, `byte`. Before this byte, the reader's state satisfies `old`. If the byte
-- causes no fault, the reader outputs `made`, and its state then satisfies `new`. Otherwise, the message is refused,
-- whatever bytes follow.
abbrev pub IsFeedAnswer : Message → (List ℕ → List ℕ → Type 0) → (List ℕ → List ℕ → Type 0) → ℕ → List ℕ
    → Result (Unit {0}) FormFault → Type 0
IsFeedAnswer m old new byte made answer =
    (bytes text : List ℕ) → HasReadSoFar m old bytes text
    → MatchResult answer (λ _. HasReadSoFar m new (bytes ++ byte ∷ []) (text ++ made))
    (HasFaultForGood m (bytes ++ byte ∷ []) text)

-- The answer of a reader at the end of a message. Without a fault, the reader outputs `made`, which is the rest of the
-- message's result. With a fault, `made` is the rest of the text that a call must write before it returns the fault.
abbrev pub IsEndAnswer : Message → (List ℕ → List ℕ → Type 0) → List ℕ → Result (Unit {0}) FormFault → Type 0
IsEndAnswer m old made answer = (bytes text : List ℕ) → HasReadSoFar m old bytes text
    → IsMessageAnswer m bytes (text ++ made) answer

-- the fault that a call returns if an interruption ends the call
abbrev pub fault_of_interruption : Interruption → FormFault
fault_of_interruption Device = faults.Device
fault_of_interruption (Refused fault) = fault

-- whether the answer is the error `Device`: a read or a write failed
abbrev pub is_device_interruption : {T : Type 0} → Result T Interruption → Bool
is_device_interruption (Err Device) = true
is_device_interruption _ = false

-- ---- Bytes that a reader is given.

-- After a prefix of `bytes` was read, a call had to write a text. It wrote only `text`, a proper prefix of that text.
pub record IsPrefixOfDue (m : Message) (bytes text : List ℕ) : Type 0 where
  pub front : List ℕ
  pub due : List ℕ
  pub of_bytes : StartsWith bytes front
  pub open_yet : IsOpen m front due
  pub of_due : FallsShort due text

-- What the answer of a call says after the reader was given `bytes`:
-- - success: the reader has read `bytes`, and its output is `text`.
-- - `Refused`: the bytes have a fault, whatever bytes follow.
-- - `Device`: the sink failed, and the written `text` is incomplete.
abbrev pub HasBeenFed : Message → (List ℕ → List ℕ → Type 0) → List ℕ → List ℕ → Result (Unit {0}) Interruption → Type 0
HasBeenFed m new bytes text (Ok _) = HasReadSoFar m new bytes text
HasBeenFed m new bytes text (Err (Refused fault)) = HasFaultForGood m bytes text fault
HasBeenFed m new bytes text (Err Device) = IsPrefixOfDue m bytes text

-- A call gave bytes to the reader, and wrote the reader's output to `sink`. `bytes` are all bytes of the message so
-- far, with this call's bytes. `text` is what had been written before the call.
pub record IsFed (m : Message) (new : List ℕ → List ℕ → Type 0) (bytes text : List ℕ) (sink : Port)
    (answer : Result (Unit {0}) Interruption) : Type 0 where
  pub made : List ℕ
  pub written : Appends sink.had sink.has made
  pub fed : HasBeenFed m new bytes (text ++ made) answer

-- The answer of a call that gives the bytes `more` to the reader, and writes the reader's output to `sink`. Before the
-- call, the reader's state satisfies `old`. After a success, it satisfies `new`.
abbrev pub IsFeedAllAnswer : Message → (List ℕ → List ℕ → Type 0) → (List ℕ → List ℕ → Type 0) → List ℕ → Port
    → Result (Unit {0}) Interruption → Type 0
IsFeedAllAnswer m old new more sink answer =
    (bytes text : List ℕ) → HasReadSoFar m old bytes text → IsFed m new (bytes ++ more) text sink answer

-- ---- The end of a message.

-- The message has ended. Either all text for the message was written, or the sink failed and took only a proper prefix
-- of this text.
abbrev pub HasBeenEnded : Message → List ℕ → List ℕ → Result (Unit {0}) Interruption → Type 0
HasBeenEnded m bytes text (Ok _) = IsMessageAnswer m bytes text (Ok tt)
HasBeenEnded m bytes text (Err (Refused fault)) = IsMessageAnswer m bytes text (Err fault)
HasBeenEnded m bytes text (Err Device) =
    (due : List ℕ) × (answer : Result (Unit {0}) FormFault) × IsMessageAnswer m bytes due answer × FallsShort due text

-- The message has ended after `bytes`, and the rest of the reader's output was written to the sink.
pub record IsClosed (m : Message) (bytes text : List ℕ) (sink : Port) (answer : Result (Unit {0}) Interruption) :
    Type 0 where
  pub made : List ℕ
  pub written : Appends sink.had sink.has made
  pub ended : HasBeenEnded m bytes (text ++ made) answer

-- The answer of a call that ends the message, and writes the rest of the reader's output to `sink`. Before the call,
-- the reader's state satisfies `old`.
abbrev pub IsFinishAnswer : Message → (List ℕ → List ℕ → Type 0) → Port → Result (Unit {0}) Interruption → Type 0
IsFinishAnswer m old sink answer = (bytes text : List ℕ) → HasReadSoFar m old bytes text
    → IsClosed m bytes text sink answer

-- the answer of a call; if it is an interruption, the `FormFault` for this interruption
abbrev pub answer_with_fault : Result (Unit {0}) Interruption → Result (Unit {0}) FormFault
answer_with_fault (Ok _) = Ok tt
answer_with_fault (Err stop) = Err (fault_of_interruption stop)

-- The answer of a call that ends the message. It is `Device` if the sink failed. Otherwise, it is the message's fault,
-- or success if there is no fault.
pub record IsCloseAnswer (m : Message) (old : List ℕ → List ℕ → Type 0) (sink : Port)
    (answer : Result (Unit {0}) FormFault) : Type 0 where
  pub finished : Result (Unit {0}) Interruption
  pub ended : IsFinishAnswer m old sink finished
  pub failed : sink.has_failed ≡ (sink.had_failed || is_device_interruption finished)
  pub answers : answer ≡ answer_with_fault finished

-- ---- One read from the source.

-- Why reading a chunk stopped: the source failed, the bytes were refused, or the sink failed.
pub data IsReadStopped (m : Message) (new : List ℕ → List ℕ → Type 0) (source sink : Port) (read text : List ℕ)
    (stop : Interruption) : Type 0 where
  AtSource : IsOpen m read text → FailsAlone source sink → stop ≡ Device
      → IsReadStopped m new source sink read text stop
  InFeeding : HasBeenFed m new read text (Err stop) → KeepsFailureFlag source
      → sink.has_failed ≡ (sink.had_failed || is_device_interruption {T = Unit {0}} (Err stop))
      → IsReadStopped m new source sink read text stop

-- A call has taken the bytes `more` from the source. With the answer `Ok`, the reader has read them, and the answer is
-- their number; it is 0 only at the source's end. With `Err`, reading was interrupted, as `IsReadStopped` says.
abbrev pub HasBeenRead : Message → (List ℕ → List ℕ → Type 0) → Port → Port → List ℕ → List ℕ → List ℕ
    → Result ℕ Interruption
    → Type 0
HasBeenRead m new source sink bytes more text (Ok count) =
    (count ≡ length more) × HasReadSoFar m new (bytes ++ more) text × (count ≡ 0 → IsAtEnd source.has)
    × KeepsFailureFlag source
    × KeepsFailureFlag sink
HasBeenRead m new source sink bytes more text (Err stop) = IsReadStopped m new source sink (bytes ++ more) text stop

-- A call has taken at most `room` bytes from the source, and given them to the reader. It has written the reader's
-- output to the sink.
pub record IsChunkRead (m : Message) (new : List ℕ → List ℕ → Type 0) (bytes text : List ℕ) (room : ℕ)
    (source sink : Port)
    (answer : Result ℕ Interruption) : Type 0 where
  pub more : List ℕ
  pub made : List ℕ
  pub within : length more ≤ room
  pub given : Consumes source.had source.has more
  pub written : Appends sink.had sink.has made
  pub read : HasBeenRead m new source sink bytes more (text ++ made) answer

-- The answer of a call that reads the source's next bytes, at most `room`, and writes the reader's output to the sink.
-- Before the call, the reader's state satisfies `old`. After a success, it satisfies `new`.
abbrev pub IsReadNextAnswer : Message → (List ℕ → List ℕ → Type 0) → (List ℕ → List ℕ → Type 0) → ℕ → Port → Port
    → Result ℕ Interruption → Type 0
IsReadNextAnswer m old new room source sink answer =
    (bytes text : List ℕ) → HasReadSoFar m old bytes text → length bytes + room ≤ read_limit
    → IsChunkRead m new bytes text room source sink answer

-- ---- A whole message in memory.

-- Either the result of the message was written, or the message has a fault, or the sink failed.
abbrev pub IsWriteMessageAnswer : Message → List ℕ → Port → Result (Unit {0}) Interruption → Type 0
IsWriteMessageAnswer m bytes sink (Ok _) = (text : List ℕ) × m.becomes bytes text × Appends sink.had sink.has text
IsWriteMessageAnswer m bytes sink (Err (Refused fault)) = m.refused bytes fault
IsWriteMessageAnswer m bytes sink (Err Device) = Unit {0}

-- The whole message `bytes` has a result.
abbrev pub HasResult : Message → List ℕ → Type 0
HasResult m bytes = (text : List ℕ) × m.becomes bytes text
