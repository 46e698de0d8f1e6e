-- The state of `OrderReader` after it has read some bytes of an order.
use Rattle.std.specs.Prelude.{codes, ◌≡◌, ◌⊎◌, Result, Ok, Err, ℕ, ◌*◌, ◌<◌, ◌≤◌, List, [], ◌++◌, length, take}
use Rattle.std.specs.Prelude.{drop, All, IsTrue}
use Rattle.kd_tables.specs.Text.{is_text_byte}
use Rattle.kd_state.specs.SheetDay.{Day}
use Rattle.kd_form.specs.declared.fault.FormFault.{FormFault}
use Rattle.kd_form.specs.declared.keys.Keys.{Keys}
use Rattle.kd_form.specs.declared.sending.order_head.HeadReader.{HeadReader}
use Rattle.kd_form.specs.declared.sending.order_head.HeadStep.{HeadStep}
use Rattle.kd_form.specs.declared.sending.order_head.HeadStep.TheVariants.{Open, Text, Bad}
use Rattle.kd_form.specs.declared.sending.pattern_line.PatternFault.TheVariants as faults
use Rattle.kd_form.specs.declared.sending.part_writer.PartWriter.{PartWriter}
use Rattle.kd_form.specs.declared.sending.order_reader.OrderReader.{OrderReader}
use Rattle.kd_form.specs.declared.sending.order_reader.OrderStage.{OrderStage}
use Rattle.kd_form.specs.declared.sending.order_reader.OrderStage.TheVariants as stages
use Rattle.kd_form.specs.Keys.{AreKeys}
use Rattle.kd_form.specs.Part.{pieces}
use Rattle.kd_form.specs.PartMaking.{IsKeysAnswer, part_size}
use Rattle.kd_form.specs.InTurn.{InTurn}
use Rattle.kd_form.specs.Order.{BeginsWithKeys, IsPatternFault, IsLineWithEnd, IsOrderHeadFault, IsOrder}
use Rattle.kd_form.specs.KeyPatterns.{IsAnyKeyLine}
use Rattle.kd_form.specs.Sending.{text_letters, ArePartTextsMade, IsMadeAnswer}
use Rattle.kd_form.specs.SendStream.{IsWritableCount}

-- `line` may come after `count` lines of keys in an order's head. It is the line TEXT or, if `count` is below 99,
-- another line of keys.
abbrev pub IsHeadLine : Day → ℕ → List ℕ → Type 0
IsHeadLine s count line = (IsAnyKeyLine s line × (count < 99)) ⊎ IsLineWithEnd (codes "TEXT") line

-- `order` has a line for each of `keys`, and then `line`, an incomplete line of the head.
pub record IsHeadBegun (s : Day) (keys : List Keys) (line order : List ℕ) : Type 0 where
  pub lines : BeginsWithKeys s keys (λ rest. rest ≡ line) order
  pub few : length keys ≤ 99
  pub begins : IsPatternFault (IsHeadLine s (length keys)) line faults.Incomplete

-- After one more byte, the head is incomplete (`Open`), complete (`Text`), or wrong at this byte (`Bad`).
abbrev pub IsHeadStep : Day → List Keys → List ℕ → List ℕ → HeadStep → Type 0
IsHeadStep s keys line order Open = IsHeadBegun s keys line order
IsHeadStep s keys line order Text = IsOrder s order keys order []
IsHeadStep s keys line order Bad = IsOrderHeadFault s order (length order)

-- ---- The text after the head. No public contract cites these definitions.

-- There are keys for at most 99 parts. All keys are for the day's model, and suit the day (`IsKeysAnswer`).
pub record AreSuitedKeys (s : Day) (keys : List Keys) : Type 0 where
  pub of_the_day : All (AreKeys s) keys
  pub suited : InTurn (IsKeysAnswer s) 1 keys (Ok tt)
  pub few : length keys ≤ 99

-- The keys suit the day. The writer `w` has received the letters `letters`. It has written `sent`: all parts that can
-- be written so far. It still keeps the letters after these parts, at most as many as fit in one part.
pub record AreLettersTaken (s : Day) (keys : List Keys) (w : PartWriter) (letters sent : List ℕ) : Type 0 where
  pub suited : AreSuitedKeys s keys
  pub counted : w.count ≡ length letters
  pub written : IsWritableCount (part_size s) (length keys) (length letters) w.written
  pub kept : w.letters.items ≡ take (part_size s) (drop (part_size s * w.written) letters)
  pub made : ArePartTextsMade s 1 (length keys) (take w.written keys)
      (pieces (part_size s) (take (part_size s * w.written) letters)) sent

-- The answer at the end of the text. After a success, the parts `sent`, followed by the last part `made`, are the
-- whole form. With a fault, the text is refused, and `made` is empty.
abbrev pub IsTextEndAnswer : Day → List Keys → List ℕ → List ℕ → List ℕ → Result (Unit {0}) FormFault → Type 0
IsTextEndAnswer s keys letters sent made (Ok _) = IsMadeAnswer s keys letters (Ok (sent ++ made))
IsTextEndAnswer s keys letters sent made (Err fault) = IsMadeAnswer s keys letters (Err fault) × (made ≡ [])

-- The writer `w` has received no letter and written no part yet.
pub record IsFreshWriter (w : PartWriter) : Type 0 where
  pub none : w.count ≡ 0
  pub unwritten : w.written ≡ 0
  pub empty : w.letters.items ≡ []

-- The bytes `order` are the head of an order and the beginning of its text. The writer `w` has received all letters of
-- this text.
pub record HoldsOrderText (s : Day) (keys : List Keys) (w : PartWriter) (order sent : List ℕ) : Type 0 where
  pub head : List ℕ
  pub text : List ℕ
  pub is_order : IsOrder s order keys head text
  pub allowed : All (λ b. IsTrue (is_text_byte b)) text
  pub taken : AreLettersTaken s keys w (text_letters s text) sent

-- The state of a reader after it has read the first bytes of an order: the reader is still in the head, or already in
-- the text.
abbrev pub HoldsOrderStage : Day → OrderStage → HeadReader → PartWriter → List ℕ → List ℕ → Type 0
HoldsOrderStage s stages.Head h w order sent = IsHeadBegun s h.keys.items h.line.items order × (sent ≡ [])
    × IsFreshWriter w
HoldsOrderStage s stages.Text h w order sent = HoldsOrderText s h.keys.items w order sent

-- The reader `r` has read the bytes `order`, and the bytes `sent` are the reader's output for these bytes.
pub record HoldsOrder (s : Day) (r : OrderReader) (order sent : List ℕ) : Type 0 where
  pub counted : r.read ≡ length order
  pub stage : HoldsOrderStage s r.stage r.head r.writer order sent
