-- Kinds of messages. A kind says which faults and which results messages can have. It also says what is written while a
-- message is read.
use Rattle.std.specs.Prelude.{◌≡◌, ◌≢◌, ℕ, ◌≤◌, Bool, true, false, List, [], ◌∷◌, ◌++◌, length, Option, None, Some}
use Rattle.std.specs.Prelude.{Result, Ok, Err, MatchResult}
use Rattle.std.specs.Io.{StartsWith}
use Rattle.std.specs.Io.KnownBytes.{Appends, Consumes, IsAtEnd}
use Rattle.kd_tables.specs.Ports.{read_limit, Port, KeepsFailureFlag, FailsAlone}
use Rattle.kd_state.specs.declared.machine.parts.Parts.{Parts}
use Rattle.kd_state.specs.SheetDay.{Day}
use Rattle.kd_form.specs.declared.fault.FormFault.{FormFault}
use Rattle.kd_form.specs.declared.fault.FormFault.TheVariants.{NotReady, Device, NotOnKey, ReadTooLong}
use Rattle.kd_form.specs.OnTheKey.{IsReadyOnKey, IsKeyFault}

-- A kind of message, such as orders:
-- - `stands`: the first bytes of a message have a fault that no further bytes can change.
-- - `refused`: a whole message has a fault.
-- - `becomes`: a whole message has a result.
-- - `written_before`: the text that a call must have written. If there is a fault, the call writes this text before
-- returning the fault. Otherwise, the call writes this text before reading more bytes.
pub record Message : Type 1 where
  pub stands : List ℕ → FormFault → Type 0
  pub refused : List ℕ → FormFault → Type 0
  pub becomes : List ℕ → List ℕ → Type 0
  pub written_before : Option FormFault → List ℕ → List ℕ → Type 0

-- The bytes have no fault so far. Before a call reads the next byte, it must have written exactly `text`.
pub record IsOpen (m : Message) (bytes text : List ℕ) : Type 0 where
  pub unrefused : (fault : FormFault) → ¬ (m.stands bytes fault)
  pub written : m.written_before None bytes text

-- The answer of a call that has read the whole message `bytes`. After a success, `text` is the message's result. With
-- a fault, the message has this fault, and `text` is what a call must write before it returns the fault.
abbrev pub IsMessageAnswer : Message → List ℕ → List ℕ → Result (Unit {0}) FormFault → Type 0
IsMessageAnswer m bytes text answer =
    MatchResult answer (λ _. m.becomes bytes text)
    (λ fault. m.refused bytes fault × m.written_before (Some fault) bytes text)

-- ---- What a call answers, reads and writes for a message.
-- Code: `stream_message` reads a message chunk by chunk. The readers of orders and forms take the chunks byte by byte.
-- Test: tests/cases/desk-messages.toml

-- `text` is all that the call must have written at a certain moment:
-- - `ByThen`: when the call has read the bytes `front`, which are a prefix of `read` and have no fault.
-- - `ByTheEnd`: when the call has read the whole message, because the source ends after `read`.
pub data IsDue (m : Message) (source : Port) (read text : List ℕ) : Type 0 where
  ByThen : (front : List ℕ) → StartsWith read front → IsOpen m front text → IsDue m source read text
  ByTheEnd : (answer : Result (Unit {0}) FormFault) → IsAtEnd source.has → IsMessageAnswer m read text answer
      → IsDue m source read text

-- Neither port failed in the call.
abbrev pub KeepFailureFlags : Port → Port → Type 0
KeepFailureFlags source sink = KeepsFailureFlag source × KeepsFailureFlag sink

-- `text` is a proper prefix of the text `due`.
pub record FallsShort (due text : List ℕ) : Type 0 where
  pub missing : List ℕ
  pub some : missing ≢ []
  pub joined : due ≡ text ++ missing

-- How a call that streams a message ends:
-- - `MessageComplete`: the message has ended without a fault.
-- - `FaultForGood`: the bytes have a fault, and no further bytes can change it.
-- - `FaultAtEnd`: the bytes have a fault only because the message ends after them.
-- - `TooLong`: one byte more than the limit was read.
-- - `SourceFails`: the source failed, and all text for the bytes read was written.
-- - `SinkFails`: the sink failed. The call had to write a text, but wrote only a proper prefix of this text.
pub data IsStreamAnswer (m : Message) (source sink : Port) (read text : List ℕ)
    (answer : Result (Unit {0}) FormFault) : Type 0 where
  MessageComplete : length read ≤ read_limit → IsAtEnd source.has → m.becomes read text → KeepFailureFlags source sink
      → answer ≡ Ok tt
      → IsStreamAnswer m source sink read text answer
  FaultForGood : (fault : FormFault) → length read ≤ read_limit → m.stands read fault
      → m.written_before (Some fault) read text → KeepFailureFlags source sink → answer ≡ Err fault
      → IsStreamAnswer m source sink read text answer
  FaultAtEnd : (fault : FormFault) → length read ≤ read_limit → IsAtEnd source.has
      → ((other : FormFault) → ¬ (m.stands read other))
      → m.refused read fault → m.written_before (Some fault) read text → KeepFailureFlags source sink
      → answer ≡ Err fault
      → IsStreamAnswer m source sink read text answer
  TooLong : (front : List ℕ) (byte : ℕ) → read ≡ front ++ byte ∷ [] → length front ≡ read_limit → IsOpen m front text
      → KeepFailureFlags source sink → answer ≡ Err ReadTooLong → IsStreamAnswer m source sink read text answer
  SourceFails : length read ≤ read_limit → IsOpen m read text → FailsAlone source sink → answer ≡ Err Device
      → IsStreamAnswer m source sink read text answer
  SinkFails : (due : List ℕ) → length read ≤ read_limit → IsDue m source read due → FallsShort due text
      → FailsAlone sink source
      → answer ≡ Err Device → IsStreamAnswer m source sink read text answer

-- The call took the bytes `read` from the source, and put the bytes `text` into the sink. It ended as `IsStreamAnswer`
-- says.
pub record IsStreamed (m : Message) (source sink : Port) (answer : Result (Unit {0}) FormFault) : Type 0 where
  pub read : List ℕ
  pub text : List ℕ
  pub given : Consumes source.had source.has read
  pub written : Appends sink.had sink.has text
  pub answers : IsStreamAnswer m source sink read text answer

-- whether the answer is the fault `Device`: a read or a write failed
abbrev pub is_device : Result (Unit {0}) FormFault → Bool
is_device (Err Device) = true
is_device _ = false

-- ---- Calls that need a machine on the day's key.
-- Test: tests/cases/desk-messages.toml

-- whether the answer is the fault `NotReady` or `NotOnKey`
abbrev pub is_off_key : Result (Unit {0}) FormFault → Bool
is_off_key (Err NotReady) = true
is_off_key (Err NotOnKey) = true
is_off_key _ = false

-- The call left the port as it was, and the port didn't fail.
pub record IsUntouched (p : Port) : Type 0 where
  pub has : p.has ≡ p.had
  pub well : KeepsFailureFlag p

-- The answer of a call that either refuses a message at once, or streams it:
-- - `FaultBefore`: the answer is a fault that satisfies `is_fault`. Source and sink are left as they were.
-- - `NoFaultBefore`: the condition `may` is true, and the call streams the message, as `IsStreamed` says.
pub data StreamsUnlessFault (is_fault : FormFault → Type 0) (may : Type 0) (message : Message) (source sink : Port)
    (answer : Result (Unit {0}) FormFault) : Type 0 where
  FaultBefore : (fault : FormFault) → is_fault fault → answer ≡ Err fault → IsUntouched source → IsUntouched sink
      → StreamsUnlessFault is_fault may message source sink answer
  NoFaultBefore : may → IsStreamed message source sink answer
      → StreamsUnlessFault is_fault may message source sink answer

-- If the machine is ready and on the day's key, the message is streamed. Otherwise the answer is `NotReady` or
-- `NotOnKey`.
abbrev pub StreamsOnKey : Parts → Day → Message → Port → Port → Result (Unit {0}) FormFault → Type 0
StreamsOnKey m s message source sink answer = StreamsUnlessFault (IsKeyFault m s) (IsReadyOnKey m s) message source
    sink answer
