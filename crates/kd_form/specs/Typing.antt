-- Typed texts are one kind of message. A text becomes the ciphertext of its letters, and then LF.
-- Code: `type_stream` reads chunks of at most 4,096 bytes, and presses a key for each letter of a chunk.
-- Test: tests/cases/desk-messages.toml, tests/refusals
use Rattle.std.specs.Prelude.{◌≡◌, ℕ, ◌<◌, ◌≤◌, List, [], ◌∷◌, ◌++◌, length, take, slice_index, All, IsTrue}
use Rattle.std.specs.Prelude.{IsFalse, None, Result, Ok, Err}
use Rattle.kd_tables.specs.Text.{is_text_byte, letters_text}
use Rattle.kd_tables.specs.Ports.{Port}
use Rattle.kd_state.specs.declared.machine.parts.Parts.{Parts}
use Rattle.kd_state.specs.EngineKey.{EngineKey, cipher, engine_key_after}
use Rattle.kd_state.specs.TwoCiphers.{IsReady, physical_cipher}
use Rattle.kd_form.specs.declared.fault.FormFault.{FormFault}
use Rattle.kd_form.specs.declared.fault.FormFault.TheVariants.{NotReady}
use Rattle.kd_form.specs.declared.typing.Typist.{Typist}
use Rattle.kd_form.specs.Sending.{letters_from, IsBytesAnswer}
use Rattle.kd_form.specs.SendStream.{IsAllowedPrefix}
use Rattle.kd_form.specs.Streams.{Message, StreamsUnlessFault}

-- the capital letters among `bytes`; other bytes, such as spaces, give no letter
abbrev pub typed_letters : List ℕ → List ℕ
typed_letters bytes = letters_from None bytes

-- the ciphertext that `enciphers` gives for the letters in `bytes`, as capital letters
abbrev pub cipher_text : (List ℕ → List ℕ) → List ℕ → List ℕ
cipher_text enciphers bytes = letters_text (enciphers (typed_letters bytes))

-- The fault is `BadByte` with the position of the first byte that isn't allowed in a text. Positions are counted from
-- 1.
abbrev pub IsTextFault : List ℕ → FormFault → Type 0
IsTextFault bytes fault = IsBytesAnswer 1 bytes (Err fault)

-- the rules for typed texts, as a `Message`. Letters are enciphered up to the first byte that isn't allowed in a text.
abbrev pub text_message : (List ℕ → List ℕ) → Message
text_message enciphers = record {
  stands = IsTextFault;
  refused = IsTextFault;
  becomes = λ bytes text. IsBytesAnswer 1 bytes (Ok tt) × (text ≡ cipher_text enciphers bytes ++ 10 ∷ []);
  written_before = λ reason bytes text. (front : List ℕ) × IsAllowedPrefix bytes front
      × (text ≡ cipher_text enciphers front);
}

-- A machine that isn't ready is refused. On a ready machine, the text is typed.
abbrev pub TypesIfReady : Parts → Port → Port → Result (Unit {0}) FormFault → Type 0
TypesIfReady m source sink answer =
    StreamsUnlessFault (λ fault. ¬ (IsReady m) × (fault ≡ NotReady)) (IsReady m)
    (text_message (physical_cipher m)) source sink answer

-- ---- What the code holds. No public contract cites these definitions.

-- `lamps` is the ciphertext of the letters in `bytes`. The machine's key is `key` before these letters, and `left`
-- after them.
pub record IsTypedChunk (key left : EngineKey) (bytes lamps : List ℕ) : Type 0 where
  pub cipher : lamps ≡ cipher_text (cipher key) bytes
  pub after : left ≡ engine_key_after key (length (typed_letters bytes))

-- The first `front` bytes of `bytes` are allowed in a text. The byte after them, if there is one, isn't allowed.
pub record IsAllowedUpTo (bytes : List ℕ) (front : ℕ) : Type 0 where
  pub within : front ≤ length bytes
  pub allowed : All (λ b. IsTrue (is_text_byte b)) (take front bytes)
  pub next : front < length bytes → IsFalse (is_text_byte (slice_index bytes front))

-- All of `bytes` are allowed and were typed. `text` is their ciphertext. The engine is set to encipher the bytes that
-- follow.
pub record HasTyped (m : Parts) (t : Typist) (bytes text : List ℕ) : Type 0 where
  pub counted : t.read ≡ length bytes
  pub allowed : All (λ b. IsTrue (is_text_byte b)) bytes
  pub behind : (more : List ℕ)
      → cipher_text (physical_cipher m) (bytes ++ more) ≡ text ++ cipher_text (cipher t.engine) more
