-- Which parts of an order's form are written before the end of the order is read. Parts are counted from 1.
-- Test: tests/cases/desk-messages.toml
use Rattle.std.specs.Prelude.{◌≡◌, ◌⊎◌, ℕ, ◌*◌, ◌<◌, ◌≤◌, List, [], ◌∷◌, ◌++◌, length, take, Ok, Err}
use Rattle.std.specs.Prelude.{All, IsTrue, IsFalse}
use Rattle.kd_tables.specs.Text.{is_text_byte}
use Rattle.kd_state.specs.SheetDay.{Day}
use Rattle.kd_form.specs.declared.fault.FormFault.{FormFault}
use Rattle.kd_form.specs.Part.{pieces}
use Rattle.kd_form.specs.PartMaking.{part_size}
use Rattle.kd_form.specs.Sending.{text_letters, OrderParts, IsHeadAnswer, IsOrderFaultForGood, IsSendFault}
use Rattle.kd_form.specs.Sending.{ArePartTextsMade, IsFormOf}
use Rattle.kd_form.specs.Streams.{Message}

-- `front` has the bytes of `text` before the first byte that isn't allowed in a text; all bytes if each is allowed.
pub record IsAllowedPrefix (text front : List ℕ) : Type 0 where
  pub rest : List ℕ
  pub joined : text ≡ front ++ rest
  pub allowed : All (λ b. IsTrue (is_text_byte b)) front
  pub ends : (byte : ℕ) (more : List ℕ) → rest ≡ byte ∷ more → IsFalse (is_text_byte byte)

-- After `letters` letters of the text, `written` of the `parts` parts can be written. A part has at most `size`
-- letters. It can be written as soon as a letter of the next part has been read. For example, if a part has at most
-- five letters, two of three parts can be written after 11 letters.
pub record IsWritableCount (size parts letters written : ℕ) : Type 0 where
  pub writable : (written ≡ 0) ⊎ ((written < parts) × (size * written < letters))
  pub most : (other : ℕ) → other < parts → size * other < letters → other ≤ written

-- `sent` are the bytes that are written before the order's end is read. If the head isn't complete, or the keys don't
-- suit the day, `sent` is empty. Otherwise `sent` has the form's first parts; `IsWritableCount` says how many.
pub data IsSentBeforeEnd (s : Day) (order sent : List ℕ) : Type 0 where
  NothingSent : (fault : FormFault) → IsHeadAnswer s order (Err fault) → sent ≡ [] → IsSentBeforeEnd s order sent
  TextBegun : (parts : OrderParts) (front : List ℕ) (written : ℕ) → IsHeadAnswer s order (Ok parts)
      → IsAllowedPrefix parts.text front
      → IsWritableCount (part_size s) (length parts.keys) (length (text_letters s front)) written
      → ArePartTextsMade s 1 (length parts.keys) (take written parts.keys)
      (pieces (part_size s) (take (part_size s * written) (text_letters s front))) sent
      → IsSentBeforeEnd s order sent

-- the rules for orders, as a `Message`: their faults, their forms, and what is written while an order is read
abbrev pub order_message : Day → Message
order_message s = record {
  stands = IsOrderFaultForGood s;
  refused = IsSendFault s;
  becomes = IsFormOf s;
  written_before = λ reason order sent. IsSentBeforeEnd s order sent;
}
