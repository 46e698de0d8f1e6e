-- Feeding bytes to a reader one after another and chunk after chunk, and typing a text chunk after chunk.
pub use Rattle.kd_form.proofs.Prelude.{err_is, append-nil, take-append-drop, AtSource, InFeeding, IsReadStopped, []}
pub use Rattle.kd_form.proofs.Prelude.{◌≡◌, ℕ, ◌+◌, ◌-◌, ◌≤◌, ◌<◌, Bool, true, false, ◌||◌, List, ◌++◌, Option, Some}
pub use Rattle.kd_form.proofs.Prelude.{Result, Ok, Err, length, take, drop, IsTrue, refl, sym, ap, subst, ◌∙◌}
pub use Rattle.kd_form.proofs.Prelude.{append_assoc, length-append, length-drop, arith, Appends, Consumes, IsAtEnd}
pub use Rattle.kd_form.proofs.Prelude.{starts_with_of_append, read_limit, Port, KeepsFailureFlag, EndAgrees}
pub use Rattle.kd_form.proofs.Prelude.{TakesPrefix, FormFault, Message, ByThen, ByTheEnd, IsStreamAnswer}
pub use Rattle.kd_form.proofs.Prelude.{MessageComplete, FaultForGood, FaultAtEnd, SinkFails, IsStreamed, FallsShort}
pub use Rattle.kd_form.proofs.Prelude.{HasReadSoFar, IsFed, IsFeedAllAnswer, HasBeenEnded, IsCloseAnswer}
pub use Rattle.kd_form.proofs.Prelude.{IsReadNextAnswer, fault_of_interruption, answer_with_fault}
pub use Rattle.kd_form.proofs.Prelude.{is_device_interruption, length-take-le, ◌∷◌, IsFalse, get_or, suc, drop-cons}
pub use Rattle.kd_form.proofs.Prelude.{map-append, take_all, All-append, filter_map-append, is_text_byte, Parts}
pub use Rattle.kd_form.proofs.Prelude.{cipher_in_turn, engine_cipher, cipher, physical_cipher, BadByte, HasFaultForGood}
pub use Rattle.kd_form.proofs.Prelude.{cipher_text, text_message, IsTextFault, IsTypedChunk, IsAllowedUpTo, HasTyped}
pub use Rattle.kd_form.proofs.Prelude.{take_more, rules, TooLong, port, All-nil, letters_text, typed_letters}
pub use Rattle.kd_form.proofs.Prelude.{false≢true, NotReady, FaultBefore}
pub use Rattle.std.proofs.KnownBytes.{Consumes-nil, Consumes-kept, Consumes-trans, Appends-nil, Appends-trans}
pub use Rattle.std.proofs.KnownBytes.{starts_with_rest}
use Rattle.{kd_form.proofs.{OneOrder.no_bad_byte, Rules.{bad_behind, bytes_allowed}}, std.specs.Io.StartsWith}
use Rattle.kd_form.specs.{StreamSteps.IsEndAnswer as MessageEnds}
use Rattle.kd_form.specs.{declared.{stream.interruption.Interruption.Interruption, typing.Typist.Typist}}
use Rattle.kd_form.specs.declared.stream.interruption.Interruption.TheVariants as stops

-- a port with its bytes and its failure, before and after a call
abbrev pub port_over : Option (List ℕ) → Option (List ℕ) → Bool → Bool → Port
port_over had has before after = record { had = had; has = has; had_failed = before; has_failed = after }

-- after a failed call, the port has failed
pub failed_now : (before after : Bool) → after ≡ (before || true) → IsTrue after
failed_now before after e = grind arith

-- if a call didn't fail, the port has failed exactly if it had failed before the call
pub well_now : (before after : Bool) → after ≡ (before || false) → after ≡ before
well_now before after e = grind arith

all_of_it : (xs : List ℕ) → StartsWith xs xs
all_of_it xs = starts_with_of_append xs xs [] (sym (append-nil xs))

starts_longer : (bytes more front : List ℕ) → StartsWith bytes front → StartsWith (bytes ++ more) front
starts_longer bytes more front starts =
    starts_with_of_append (bytes ++ more) front _
    (ap (λ l. l ++ more) (starts_with_rest bytes front starts) ∙ append_assoc front _ more)

-- if the sink took only a proper prefix of `made`, the bytes put fall short of the bytes due
pub short_of : (text made : List ℕ) (count : ℕ) → count < length made
    → FallsShort (text ++ made) (text ++ take count made)
short_of text made count less = grind (arith, length-drop {A = ℕ}, take-append-drop {A = ℕ}, append_assoc {A = ℕ})

-- ---- byte after byte

-- if the sink took only a prefix of the output for the bytes, feeding stops because a device failed
pub fed_in_part : {m : Message} {new : List ℕ → List ℕ → Type 0} {bytes text : List ℕ} {took wrote : Option (List ℕ)}
    {d f : Bool} (made : List ℕ) → HasReadSoFar m new bytes (text ++ made) → TakesPrefix took wrote made
    → IsFed m new bytes text (port_over took wrote d f) (Err stops.Device)
fed_in_part made held part = grind (arith, all_of_it, short_of)

-- feeding bytes and then the next bytes is feeding all of them
pub fed_next : {m : Message} {old now new : List ℕ → List ℕ → Type 0} {front next : List ℕ}
    {took taken wrote : Option (List ℕ)} {d e f : Bool}
    {answer : Result (Unit {0}) Interruption} → IsFeedAllAnswer m old now front (port_over took taken d e) (Ok tt)
    → IsFeedAllAnswer m now new next (port_over taken wrote e f) answer
    → IsFeedAllAnswer m old new (front ++ next) (port_over took wrote d f) answer
fed_next before after bytes text held = grind (arith, Appends-trans, append_assoc {A = ℕ})

-- bytes are the bytes before a place, the byte there, and the bytes after it
pub up_to : (bytes : List ℕ) (place : ℕ) → place < length bytes
    → take place bytes ++ get_or bytes place 0 ∷ [] ++ drop (suc place) bytes ≡ bytes
up_to bytes place inside = grind (arith, append_assoc, drop-cons, take-append-drop)

-- what holds of feeding bytes holds of feeding equal bytes
pub fed_whole : {m : Message} {old new : List ℕ → List ℕ → Type 0} {front whole : List ℕ} {sink : Port}
    {answer : Result (Unit {0}) Interruption} → front ≡ whole
    → IsFeedAllAnswer m old new front sink answer → IsFeedAllAnswer m old new whole sink answer
fed_whole same fed = rw same at fed

-- if feeding stops within a prefix of the bytes, it stops within all bytes
pub fed_up_to : {m : Message} {old new : List ℕ → List ℕ → Type 0} {front : List ℕ} {sink : Port} {stop : Interruption}
    (more : List ℕ)
    → IsFeedAllAnswer m old new front sink (Err stop) → IsFeedAllAnswer m old new (front ++ more) sink (Err stop)
fed_up_to more fed bytes text held = grind (arith, append_assoc, starts_longer)

-- ---- read after read

-- `count` bytes were read, the reader holds them, and no port has failed
pub record SoFar (m : Message) (holds : List ℕ → List ℕ → Type 0) (source sink : Port) (count : ℕ) : Type 0 where
  pub read : List ℕ
  pub text : List ℕ
  pub counted : length read ≡ count
  pub within : count ≤ read_limit
  pub given : Consumes source.had source.has read
  pub written : Appends sink.had sink.has text
  pub held : HasReadSoFar m holds read text
  pub well : KeepsFailureFlag source × KeepsFailureFlag sink

-- the answer when a read stops, if neither port had failed before this read
IsStreamAnswer-stopped : {m : Message} {new : List ℕ → List ℕ → Type 0} {read text : List ℕ}
    {had has next took taken wrote : Option (List ℕ)} {a b c d e f : Bool} {stop : Interruption}
    → b ≡ a → e ≡ d → length read ≤ read_limit
    → IsReadStopped m new (port_over has next b c) (port_over taken wrote e f) read text stop
    → IsStreamAnswer m (port_over had next a c) (port_over took wrote d f) read text (Err (fault_of_interruption stop))
IsStreamAnswer-stopped p q few (AtSource open' fails is) = grind arith
IsStreamAnswer-stopped {m} {read = read} {text} {stop = stops.Refused fault} p q few (InFeeding is well up) =
    FaultForGood fault few (subst (λ b. m.stands b fault) (append-nil read) (is.stands []))
    (subst (λ b. m.written_before (Some fault) b text) (append-nil read) (is.written []))
    (well ∙ p, well_now _ _ up ∙ q) refl
IsStreamAnswer-stopped {stop = stops.Device} p q few (InFeeding is well up) =
    SinkFails is.due few (ByThen is.front is.of_bytes is.open_yet) is.of_due
    (record { failed = failed_now _ _ up; well = well ∙ p }) refl

-- One more read: the ports at the start, before this read, and after it.
module _ {m : Message} {old new : List ℕ → List ℕ → Type 0} {had has next took taken wrote : Option (List ℕ)}
    {a b c d e f : Bool} {count room : ℕ}
    (before : SoFar m old (port_over had has a b) (port_over took taken d e) count)
    (space : room ≡ read_limit - count) where
  pub SoFar-read : (n : ℕ) → IsReadNextAnswer m old new room (port_over has next b c) (port_over taken wrote e f) (Ok n)
      → SoFar m new (port_over had next a c) (port_over took wrote d f) (count + n) × (n ≡ 0 → IsAtEnd next)
  SoFar-read n reads = grind (arith, length-append {A = ℕ}, Consumes-trans, Appends-trans)

  pub IsStreamed-stopped : (stop : Interruption) (fault : FormFault) → fault ≡ fault_of_interruption stop
      → IsReadNextAnswer m old new room (port_over has next b c) (port_over taken wrote e f) (Err stop)
      → IsStreamed m (port_over had next a c) (port_over took wrote d f) (Err fault)
  IsStreamed-stopped stop fault is reads =
      let step = reads before.read before.text before.held (omega (arith, before.counted, before.within, space)) in
      let few : length (before.read ++ step.more) ≤ read_limit =
      omega (arith, length-append before.read step.more, before.counted, before.within, space, step.within) in
      record {
        read = before.read ++ step.more;
        text = before.text ++ step.made;
        given = Consumes-trans had has next before.read step.more before.given step.given;
        written = Appends-trans took taken wrote before.text step.made before.written step.written;
        answers = rw is (IsStreamAnswer-stopped before.well.0 before.well.1 few step.read);
      }

-- ---- the end

IsStreamAnswer-closed : {m : Message} {holds : List ℕ → List ℕ → Type 0} {read text : List ℕ} {source : Port}
    {took wrote : Option (List ℕ)} {d e f : Bool} (made : List ℕ) (finished : Result (Unit {0}) Interruption)
    → HasReadSoFar m holds read text → length read ≤ read_limit → IsAtEnd source.has → KeepsFailureFlag source → e ≡ d
    → HasBeenEnded m read (text ++ made) finished → f ≡ (e || is_device_interruption finished)
    → IsStreamAnswer m source (port_over took wrote d f) read (text ++ made) (answer_with_fault finished)
IsStreamAnswer-closed made (Ok done) held few ended well same ends up =
    MessageComplete few ended ends (well, well_now _ _ up ∙ same) refl
IsStreamAnswer-closed made (Err (stops.Refused fault)) held few ended well same ends up =
    FaultAtEnd fault few ended held.open_yet.unrefused ends.0 ends.1 (well, well_now _ _ up ∙ same) refl
IsStreamAnswer-closed made (Err stops.Device) held few ended well same ends up =
    SinkFails ends.0 few (ByTheEnd ends.1 ended ends.2) ends.3 (record { failed = failed_now _ _ up; well = well }) refl

pub IsStreamed-closed : {m : Message} {holds : List ℕ → List ℕ → Type 0} {source : Port}
    {took taken wrote : Option (List ℕ)} {d e f : Bool} {count : ℕ} {answer : Result (Unit {0}) FormFault}
    → SoFar m holds source (port_over took taken d e) count × IsAtEnd source.has
    → IsCloseAnswer m holds (port_over taken wrote e f) answer → IsStreamed m source (port_over took wrote d f) answer
IsStreamed-closed {took = took} {taken} {wrote} (before, ended) closes =
    let one = closes.ended before.read before.text before.held in
    let few : length before.read ≤ read_limit = omega (arith, before.counted, before.within) in
    record {
      read = before.read;
      text = before.text ++ one.made;
      given = before.given;
      written = Appends-trans took taken wrote before.text one.made before.written one.written;
      answers = rw closes.answers (IsStreamAnswer-closed one.made closes.finished before.held few ended before.well.0
          before.well.1 one.ended closes.failed);
    }

-- One more byte was asked for, and there is none.
pub SoFar-ended : {m : Message} {holds : List ℕ → List ℕ → Type 0} {had has next : Option (List ℕ)} {sink : Port}
    {a b c end : Bool} {count : ℕ} → SoFar m holds (port_over had has a b) sink count → end ≡ true
    → EndAgrees has next (Ok end) → c ≡ (b || false)
    → SoFar m holds (port_over had next a c) sink count × IsAtEnd next
SoFar-ended before is ends well = grind arith

-- -------- the lamps of a chunk, and what was typed so far

module _ (m : Parts) where
  text_is : (t : Typist) (bytes text : List ℕ) → HasTyped m t bytes text → text ≡ cipher_text (physical_cipher m) bytes
  text_is t bytes text typed = grind (arith, append-nil text, append-nil bytes, bytes)

  pub HasReadSoFar-typed : (t : Typist) (bytes text : List ℕ) → HasTyped m t bytes text
      → HasReadSoFar (text_message (physical_cipher m)) (HasTyped m t) bytes text
  HasReadSoFar-typed t bytes text typed = record {
    is = typed;
    open_yet = record {
      unrefused = λ fault. no_bad_byte 1 bytes fault typed.allowed;
      written = (bytes, grind (arith, append-nil {A = ℕ}), text_is t bytes text typed);
    };
  }

  -- the bytes after the first one that isn't allowed make no difference
  HasFaultForGood-typed : (t : Typist) (front rest text : List ℕ) (byte : ℕ) → HasTyped m t front text
      → IsFalse (is_text_byte byte)
      → HasFaultForGood (text_message (physical_cipher m)) (front ++ byte ∷ rest) text (BadByte (length front + 1))
  HasFaultForGood-typed t front rest text byte typed bad =
      let stands : (more : List ℕ) → IsTextFault ((front ++ byte ∷ rest) ++ more) (BadByte (length front + 1)) = λ more.
      let place : length front + 1 ≡ 1 + length front = omega arith in
      rw (append_assoc, place) (bad_behind 1 front (rest ++ more) byte typed.allowed bad) in
      record {
        stands = stands;
        refused = stands;
        written = λ more. (front, rw append_assoc (grind arith), text_is t front text typed);
      }

  -- ---- one more chunk

  module _ (old new : Typist) (more lamps : List ℕ) (n : ℕ) (front : IsAllowedUpTo more n)
      (lights : IsTypedChunk old.engine new.engine (take n more) lamps) (counted : new.read ≡ old.read + n) where
    HasTyped-append : (bytes text : List ℕ) → HasTyped m old bytes text
        → HasTyped m new (bytes ++ take n more) (text ++ lamps)
    HasTyped-append bytes text typed = record {
      counted =
          omega (arith, counted, typed.counted, length-append bytes (take n more), length-take-le n more front.within);
      allowed = All-append (λ b. IsTrue (is_text_byte b)) bytes (take n more) typed.allowed front.allowed;
      behind = grind (arith, append_assoc, typed.behind, cipher_in_turn, filter_map-append, map-append);
    }

    pub read_whole : (took wrote : Option (List ℕ)) (d f : Bool) → Appends took wrote lamps → length more ≤ n
        → IsFeedAllAnswer (text_message (physical_cipher m)) (HasTyped m old) (HasTyped m new) more
        (port_over took wrote d f) (Ok tt)
    read_whole took wrote d f wrote_all all bytes text held =
        let typed =
        HasReadSoFar-typed new (bytes ++ take n more) (text ++ lamps) (HasTyped-append bytes text held.is) in
        record { made = lamps; written = wrote_all; fed = rw (take_all n more all) at typed }

    pub read_refused : (took wrote : Option (List ℕ)) (d f : Bool) → Appends took wrote lamps → n < length more
        → IsFeedAllAnswer (text_message (physical_cipher m)) (HasTyped m old) (HasTyped m new) more
        (port_over took wrote d f)
        (Err (stops.Refused (BadByte (new.read + 1))))
    read_refused took wrote d f wrote_all inside bytes text held =
        let typed = HasTyped-append bytes text held.is in
        let rest = drop (suc n) more in
        let there = HasFaultForGood-typed new (bytes ++ take n more) rest (text ++ lamps) (get_or more n 0) typed in
        let fed = there (front.next inside) in
        let joined = up_to more n in
        record { made = lamps; written = wrote_all; fed = grind (arith, fed, append_assoc, joined, typed.counted) }

    pub read_in_part : (took wrote : Option (List ℕ)) (d f : Bool) → TakesPrefix took wrote lamps
        → IsFeedAllAnswer (text_message (physical_cipher m)) (HasTyped m old) (HasTyped m new) more
        (port_over took wrote d f)
        (Err stops.Device)
    read_in_part took wrote d f part =
        fed_whole (take-append-drop n more) (fed_up_to _ (λ bytes text held. fed_in_part lamps
        (HasReadSoFar-typed new (bytes ++ take n more) (text ++ lamps) (HasTyped-append bytes text held.is)) part))

pub typed_ends : (m : Parts) (t : Typist)
    → MessageEnds (text_message (physical_cipher m)) (HasTyped m t) (10 ∷ []) (Ok tt)
typed_ends m t bytes text held =
    (bytes_allowed 1 bytes held.is.allowed, ap (λ l. l ++ 10 ∷ []) (text_is m t bytes text held.is))
