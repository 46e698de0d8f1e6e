-- What the reader of an order holds after one more byte, and its answer at the end.
pub use Rattle.kd_form.proofs.Prelude.{append-nil, length-take, [], ◌≡◌, ◌≢◌, ℕ, zero, suc, ◌+◌, ◌*◌, ◌<◌, ◌≤◌, inl}
pub use Rattle.kd_form.proofs.Prelude.{inr, List, ◌∷◌, ◌++◌, Some, length, take, drop, refl, sym, ap, ◌∙◌, append_assoc}
pub use Rattle.kd_form.proofs.Prelude.{length-append, length-drop, arith, get_or, Option, Result, Ok, Err, IsTrue}
pub use Rattle.kd_form.proofs.Prelude.{slice_get, codes, MatchResult, div_ceil, take_all, drop_all, drop-take}
pub use Rattle.kd_form.proofs.Prelude.{drop-drop, take-take, take_more, length-take-le, Day, Keys, pieces}
pub use Rattle.kd_form.proofs.Prelude.{IsPartTextMade, part_size, parts_needed, ArePartTextsMade, IsMadeAnswer}
pub use Rattle.kd_form.proofs.Prelude.{letters_from, text_letters, IsOrderFaultForGood, IsWritableCount}
pub use Rattle.kd_form.proofs.Prelude.{IsSentBeforeEnd, InTurn, IsKeysAnswer, OrderParts, IsHeadAnswer, IsReadAnswer}
pub use Rattle.kd_form.proofs.Prelude.{GoesOn, HasFault, IsFalse, subst, Rotor, Pin, order_message, AreLettersTaken}
pub use Rattle.kd_form.proofs.Prelude.{IsHeadBegun, IsHeadLine, HoldsOrderText, IsTextEndAnswer, IsFreshWriter, IsOpen}
pub use Rattle.kd_form.proofs.Prelude.{HoldsOrder, HoldsOrderStage, All-nil, PatternFault, AreKeys, IsPatternLine}
pub use Rattle.kd_form.proofs.Prelude.{IsPatternFault, key_pattern, key_words, line_of, IsLineWithEnd, IsKeyLine}
pub use Rattle.kd_form.proofs.Prelude.{BeginsWithKeys, IsAnyOrderHead, IsOrderHead, IsOrder, IsOrderHeadFault}
pub use Rattle.kd_form.proofs.Prelude.{is_text_byte, FormFault, HasFaultForGood, IsMessageAnswer, HasReadSoFar}
pub use Rattle.kd_form.proofs.Prelude.{IsAnyKeyLine, common_steps, BadByte, All-push, filter_map-append, ◌-◌, cases_lt}
pub use Rattle.kd_form.proofs.Prelude.{drop_at, le_of_mul-le-mul_left, take_at}
use Rattle.std.proofs.lemmas.{Grind.div_ceil_times, Option.slice_get_within, Option.get_or_from_slice_get}
use Rattle.kd_form.specs.declared.sending.{part_writer.PartWriter.PartWriter, order_head.HeadReader.HeadReader}
use Rattle.kd_form.specs.declared.sending.order_reader.{OrderReader.OrderReader, OrderStage.OrderStage}
pub use Rattle.kd_form.proofs.MadeParts.{pieces-next, pieces-none, size_some}
use Rattle.kd_form.proofs.Lines.{length-filled, as_form_line, key_first, lines_more, same_line, text_front, text_line}
use Rattle.kd_form.proofs.Lines.{IsPlain, letters_first, plain_keys, plain_text}
pub use Rattle.kd_form.proofs.OneOrder.{Shorter, Longer, all_of_the_day, prefixes, HasOneAnswer-read}
pub use Rattle.kd_form.proofs.OneOrder.{BeginsWithKeys-append}
use Rattle.kd_form.proofs.Rules.{InTurn-stays, FaultsAre, FaultsAre-InTurn, FaultsAre-Finds, FaultsAre-ThenNext}
use Rattle.kd_form.proofs.Rules.{FaultsAre-Yields, ThenNext-tested, ThenNext-stays, ThenNext-first, bytes_allowed}
use Rattle.kd_form.proofs.Rules.{bad_behind}
use Rattle.kd_form.specs.declared.sending.pattern_line.PatternFault.TheVariants as patterns
use Rattle.kd_form.specs.declared.sending.order_reader.OrderStage.TheVariants as stages
use Rattle.kd_form.specs.SendStream as stream

-- -------- the parts of an order, letter by letter

-- the letters are `k` whole pieces, and the rest is the last piece
pieces_more : (size k : ℕ) (letters : List ℕ) → 0 < size → size * k < length letters → length letters ≤ size * k + size
    → pieces size letters ≡ pieces size (take (size * k) letters) ++ drop (size * k) letters ∷ []
pieces_more size zero letters large some few = grind (arith, pieces-next, take_all, drop_all, pieces-none)
pieces_more size (suc k) letters large some few =
    let rest = pieces_more size k (drop size letters) large in
    grind (arith, rest, pieces-next, take-take, drop-take, drop-drop, length-drop, length-take)

made_more : (s : Day) (part parts : ℕ) (keys : List Keys) (k : Keys) (texts : List (List ℕ)) (piece bytes one : List ℕ)
    → ArePartTextsMade s part parts keys texts bytes → IsPartTextMade s (part + length keys) parts k piece one
    → ArePartTextsMade s part parts (keys ++ k ∷ []) (texts ++ piece ∷ []) (bytes ++ one)
made_more s part parts [] k [] piece bytes one made is = grind (arith, append-nil one)
made_more s part parts (first ∷ keys) k (text ∷ texts) piece bytes one (begun, others, is_first, made, joined) is =
    grind (arith, made_more s (part + 1) parts keys k texts piece others one made, append_assoc)
made_more s part parts _ k _ piece bytes one made is = absurd made

last_number : (size parts letters written : ℕ) → 0 < size → 0 < letters → IsWritableCount size parts letters written
    → div_ceil letters size ≡ parts
    → (written + 1 ≡ parts) × (size * written < letters) × (letters ≤ size * written + size)
last_number size zero letters written large some can needed = grind (arith, div_ceil_times)
last_number size (suc other) letters written large some can needed =
    let (most, least) = rw needed at (div_ceil_times letters size large) in
    let same : other ≡ written = grind (arith, can.most other (omega arith) (omega arith)) in
    grind (arith, ap (λ n. size * n) same)

module _ {s : Day} {keys : List Keys} {w : PartWriter} {k : Keys} {letters sent one : List ℕ}
    (is : AreLettersTaken s keys w letters sent) (found : slice_get keys w.written ≡ Some k)
    (made : IsPartTextMade s (w.written + 1) (length keys) k w.letters.items one) where
  -- the kept letters become the next part
  pub part_more : part_size s * w.written < length letters → length letters ≤ part_size s * w.written + part_size s
      → ArePartTextsMade s 1 (length keys) (take (w.written + 1) keys) (pieces (part_size s) letters) (sent ++ one)
  part_more some few =
      let inside : w.written < length keys = slice_get_within keys w.written k found in
      let own : w.letters.items ≡ drop (part_size s * w.written) letters = grind (arith, take_all, length-drop) in
      rw (take_more keys w.written k inside, get_or_from_slice_get keys w.written k k found)
      (grind (arith, pieces_more (part_size s) w.written letters, size_some s, made_more, is.made, length-take-le))

  -- at the end, the kept letters become the last part
  pub last_written : w.count ≢ 0 → div_ceil w.count (part_size s) ≡ length keys
      → IsMadeAnswer s keys letters (Ok (sent ++ one))
  last_written counted needed =
      let last = last_number (part_size s) (length keys) (length letters) w.written (size_some s) in
      let some : letters ≢ [] = grind arith in
      let enough : parts_needed s (length letters) ≡ length keys = grind arith in
      GoesOn tt some (GoesOn tt enough (grind (arith, last, part_more, take_all)))

-- -------- an order up to its text, byte by byte

module _ (s : Day) (count : ℕ) where
  -- if the first byte is P, only a line of keys can begin with the bytes
  pub next_keys : (line : List ℕ) (why : PatternFault) → get_or line 0 0 ≡ 80 → count < 99
      → IsPatternFault (IsAnyKeyLine s) line why → IsPatternFault (IsHeadLine s count) line why
  next_keys line patterns.Incomplete first room (more, some, key) = (more, some, inl (key, room))
  next_keys [] patterns.Mismatch first room off = absurd (omega (arith, first))
  next_keys (byte ∷ line) patterns.Mismatch first room off = grind (arith, off, text_front)

  pub next_text : (line : List ℕ) (why : PatternFault) → (get_or line 0 0 ≡ 80 → 99 ≤ count)
      → IsPatternFault (IsPatternLine (codes "TEXT")) line why → IsPatternFault (IsHeadLine s count) line why
  next_text line patterns.Incomplete full (more, some, (letters, text)) = (more, some, inr text.ended)
  next_text [] patterns.Mismatch full off = absurd (off (codes "TEXT\n") (text_line (codes "TEXT\n") (inl refl)))
  next_text (byte ∷ line) patterns.Mismatch full off = λ more next. elim next [
    | inl key ↦ omega (arith, key.1, full (key_first key.0.keys (byte ∷ line ++ more) [] key.0.keyed))
    | inr text ↦ off more (text_line (byte ∷ line ++ more) text)
  ]

  next_plain : {line : List ℕ} → IsHeadLine s count line → (text : List ℕ) × IsPlain text × IsLineWithEnd text line
  next_plain (inl key) = (line_of (key_words key.0.keys), plain_keys key.0.keys, key.0.keyed)
  next_plain (inr text) = (codes "TEXT", plain_text (codes "TEXT") refl, text)

  -- no line of a head is a proper prefix of another one
  next_whole : {line : List ℕ} (more : List ℕ) → IsHeadLine s count line → IsHeadLine s count (line ++ more) → more ≡ []
  next_whole {line} more one other =
      let (text, plain, ended) = next_plain one in
      let (longer, also, end) = next_plain other in
      (same_line text longer line (line ++ more) more [] plain also ended end (sym (append-nil (line ++ more)))).2

  -- if bytes are a proper prefix of a line of a head, but no such line begins with them and `byte`, then
  -- nothing that begins with them and `byte` begins with such a line
  pub no_next : (line other one left : List ℕ) (byte : ℕ) → IsPatternFault (IsHeadLine s count) line patterns.Incomplete
      → IsPatternFault (IsHeadLine s count) (line ++ byte ∷ []) patterns.Mismatch → IsHeadLine s count one
      → ¬ (line ++ byte ∷ other ≡ one ++ left)
  no_next line other one left byte (more, some, next) off is same = elim (prefixes line (byte ∷ other) one left same) [
    | Shorter [] longer left ↦ some (next_whole more is (rw (longer, append-nil line) next))
    | Shorter (x ∷ beyond) longer left ↦ off beyond (let first : byte ≡ x = cc in rw (append_assoc, first, ← longer) is)
    | Longer x beyond longer left ↦
        let whole : line ++ more ≡ one ++ (x ∷ beyond ++ more) = cc (longer, append_assoc one (x ∷ beyond) more) in
        let none : x ∷ beyond ++ more ≡ [] = next_whole (x ∷ beyond ++ more) is (rw whole at next) in
        cc
  ]

-- after some lines of a head, the rest of the head begins with a line of a head
pub head_next : (s : Day) (count : ℕ) (keys : List Keys) (bytes : List ℕ) → count + length keys ≤ 99
    → BeginsWithKeys s keys (IsLineWithEnd (codes "TEXT")) bytes
    → (line rest : List ℕ) × IsHeadLine s count line × (bytes ≡ line ++ rest)
head_next s count [] bytes few ended = (bytes, [], inr ended, sym (append-nil bytes))
head_next s count (k ∷ keys) bytes few (line, rest, are, is, later, joined) = grind arith

module _ {s : Day} {keys : List Keys} {line order : List ℕ} (is : IsHeadBegun s keys line order) where
  pub line_short : length (key_pattern s) ≤ 21 → length line < 25
  line_short few = grind (arith, common_steps, as_form_line, length-filled, length-append {A = ℕ})

  pub text_head : (more : List ℕ) → IsLineWithEnd (codes "TEXT") (line ++ more) → IsOrderHead s keys (order ++ more)
  text_head more ended = grind (arith, append-nil keys, lines_more)

  -- an order that begins with lines of keys and then with one more begins with all of them
  pub one_more : (Q : List ℕ → Type 0) (k : Keys) (more end : List ℕ) → AreKeys s k → IsKeyLine k (line ++ more) → Q end
      → BeginsWithKeys s (keys ++ k ∷ []) Q (order ++ (more ++ end))
  one_more Q k more end are keyed holds = grind (arith, lines_more, append_assoc)

  pub goes_on : IsPatternFault (IsAnyOrderHead s) order patterns.Incomplete
  goes_on = let (more, some, next) = is.begins in elim next [
    | inl (key, room) ↦
        let text : List ℕ = codes "TEXT\n" in
        let lines = one_more (IsLineWithEnd (codes "TEXT")) key.keys more text key.of_the_day key.keyed (inl refl) in
        let few : length (keys ++ key.keys ∷ []) ≤ 99 = omega (arith, length-append keys (key.keys ∷ [])) in
        (more ++ text, grind (arith, length-append more), (keys ++ key.keys ∷ [], record { lines = lines; few = few }))
    | inr text ↦ (more, some, (keys, text_head more text))
  ]

  pub head_cut : IsOrderHeadFault s order (length order + 1)
  head_cut = grind (arith, append-nil, goes_on)

  -- a byte with which the line can go on leaves the head open
  pub head_open : (byte : ℕ) → IsPatternFault (IsHeadLine s (length keys)) (line ++ byte ∷ []) patterns.Incomplete
      → IsHeadBegun s keys (line ++ byte ∷ []) (order ++ byte ∷ [])
  head_open byte begins = grind (arith, append-nil keys, lines_more)

-- -------- the faults that the reader of an order has found, and what is sent by then

-- a fault of keys isn't `BadByte`
keys_faults : (s : Day) (position part : ℕ) (k : Keys) → FaultsAre (λ f. f ≢ BadByte position) (IsKeysAnswer s part k)
keys_faults s position part (Rotor k) = FaultsAre-Finds (λ same. cc)
keys_faults s position part (Pin k) = FaultsAre-ThenNext (FaultsAre-Finds (λ same. cc)) (λ _.
    FaultsAre-ThenNext (FaultsAre-Finds (λ same. cc)) (λ _. FaultsAre-Yields))

pub letters_few : (for_space : Option ℕ) (text : List ℕ) → length (letters_from for_space text) ≤ length text
letters_few for_space [] = omega arith
letters_few for_space (byte ∷ text) = grind (arith, letters_first, letters_few for_space text, length-append)

-- the same parts, but more text
abbrev longer : List ℕ → OrderParts → OrderParts
longer more parts = record parts { text = parts.text ++ more }

module _ {s : Day} where
  pub IsOrder-append : {order head text : List ℕ} {keys : List Keys} (more : List ℕ) → IsOrder s order keys head text
      → IsOrder s (order ++ more) keys head (text ++ more)
  IsOrder-append more is = grind (arith, append_assoc {A = ℕ})

  pub IsOrderHeadFault-append : {order : List ℕ} {position : ℕ} (more : List ℕ) → IsOrderHeadFault s order position
      → position ≤ length order → IsOrderHeadFault s (order ++ more) position
  IsOrderHeadFault-append {order} {position} more fault inside = record {
    before = fault.before;
    rest = fault.rest ++ more;
    joined = ap (λ o. o ++ more) fault.joined ∙ append_assoc fault.before fault.rest more;
    size = fault.size;
    begins = fault.begins;
    stops = λ byte after beyond next.
        let some : 0 < length fault.rest =
        omega (arith, fault.size, inside, ap length fault.joined, length-append fault.before fault.rest) in
        fault.stops byte (drop 1 fault.rest) beyond (grind arith);
  }

  -- ---- a fault stays

  head_right : {order : List ℕ} {parts : OrderParts} → IsOrder s order parts.keys parts.head parts.text
      → InTurn (IsKeysAnswer s) 1 parts.keys (Ok tt) → IsHeadAnswer s order (Ok parts)
  head_right {parts = parts} is suited = GoesOn parts is (GoesOn tt suited refl)

  head_stays : {order : List ℕ} {fault : FormFault} (more : List ℕ)
      → ((position : ℕ) → fault ≡ BadByte position → position ≤ length order) → IsHeadAnswer s order (Err fault)
      → IsHeadAnswer s (order ++ more) (Err fault)
  head_stays more inside = ThenNext-stays (longer more)
      (λ (position, at, is). (position, IsOrderHeadFault-append more at (inside position is), is))
      (λ parts is found. (IsOrder-append more is, ThenNext-first (λ unsuited. unsuited) found))

  read_stays : {order : List ℕ} {fault : FormFault} (more : List ℕ)
      → ((position : ℕ) → fault ≡ BadByte position → position ≤ length order) → IsReadAnswer s order (Err fault)
      → IsReadAnswer s (order ++ more) (Err fault)
  read_stays more inside = ThenNext-stays (longer more) (head_stays more inside) (λ parts head found.
      let (is, suited) = ThenNext-tested head in
      (head_right (IsOrder-append more is) suited, ThenNext-first (InTurn-stays _ _ parts.text more _) found))

  pub IsOrderFaultForGood-append : {order : List ℕ} {fault : FormFault} (more : List ℕ)
      → IsOrderFaultForGood s order fault → IsOrderFaultForGood s (order ++ more) fault
  IsOrderFaultForGood-append {order} more good = record {
    found = read_stays more good.inside good.found;
    inside = λ position is. omega (arith, good.inside position is, length-append order more);
  }

  pub HasFaultForGood-order : {order sent : List ℕ} {fault : FormFault} → IsOrderFaultForGood s order fault
      → ((more : List ℕ) → IsSentBeforeEnd s (order ++ more) sent) → HasFaultForGood (order_message s) order sent fault
  HasFaultForGood-order {fault} good written = record {
    stands = λ more. IsOrderFaultForGood-append more good;
    refused = λ more. HasFault fault (IsOrderFaultForGood-append more good).found refl;
    written = written;
  }

  -- a fault of the head: nothing is sent
  pub HasFaultForGood-head : {order sent : List ℕ} {fault : FormFault} → IsHeadAnswer s order (Err fault)
      → ((position : ℕ) → fault ≡ BadByte position → position ≤ length order) → sent ≡ []
      → HasFaultForGood (order_message s) order sent fault
  HasFaultForGood-head {fault} head inside nothing =
      HasFaultForGood-order (record { found = HasFault fault head refl; inside = inside })
      (λ more. stream.NothingSent fault (head_stays more inside head) nothing)

  -- ---- how far the reader has read

  module _ {keys : List Keys} {w : PartWriter} {order sent : List ℕ} (text : HoldsOrderText s keys w order sent) where
    -- the order with more bytes has the same keys, and its text goes on with these bytes
    head_held : (more : List ℕ)
        → IsHeadAnswer s (order ++ more) (Ok (record { keys = keys; head = text.head; text = text.text ++ more }))
    head_held more = head_right (IsOrder-append more text.is_order) text.taken.suited.suited

    read_held : IsReadAnswer s order (Ok (record { keys = keys; head = text.head; text = text.text }))
    read_held =
        GoesOn _ (head_right text.is_order text.taken.suited.suited)
        (GoesOn tt (bytes_allowed _ text.text text.allowed) refl)

    text_sent : (more : List ℕ) → ((byte : ℕ) (after : List ℕ) → more ≡ byte ∷ after → IsFalse (is_text_byte byte))
        → IsSentBeforeEnd s (order ++ more) sent
    text_sent more bad =
        stream.TextBegun _ text.text _ (head_held more)
        (record { rest = more; joined = refl; allowed = text.allowed; ends = bad }) text.taken.written text.taken.made

    text_sent_yet : IsSentBeforeEnd s order sent
    text_sent_yet =
        subst (λ o. IsSentBeforeEnd s o sent) (append-nil order) (text_sent [] (λ byte after none. absurd (cc)))

    -- a byte that isn't allowed refuses the order for good
    pub HasFaultForGood-text : (byte : ℕ) → IsFalse (is_text_byte byte)
        → HasFaultForGood (order_message s) (order ++ byte ∷ []) sent (BadByte (length order + 1))
    HasFaultForGood-text byte bad =
        let place : length order + 1 ≡ length text.head + 1 + length text.text =
        omega (arith, ap length text.is_order.joined, length-append text.head text.text) in
        let fault = rw (← place) at (bad_behind (length text.head + 1) text.text [] byte text.allowed bad) in
        HasFaultForGood-order (record {
          found = GoesOn _ (head_held (byte ∷ [])) (HasFault _ fault refl);
          inside = λ position is.
              let same : length order + 1 ≡ position = cc in omega (arith, length-append order (byte ∷ []));
        })
        (λ more. subst (λ o. IsSentBeforeEnd s o sent) (sym (append_assoc order (byte ∷ []) more))
        (text_sent (byte ∷ more) (λ other after same. grind arith)))

  open_yet : (stage : OrderStage) (h : HeadReader) (w : PartWriter) (order sent : List ℕ)
      → HoldsOrderStage s stage h w order sent → IsOpen (order_message s) order sent
  open_yet stages.Head h w order sent (head, nothing, fresh) =
      let cut : IsHeadAnswer s order (Err (BadByte (length order + 1))) = HasFault _ (_, head_cut head, refl) refl in
      record {
        unrefused = λ fault good.
            let same = HasOneAnswer-read s order (Err fault) (Err _) good.found (HasFault _ cut refl) in
            omega (arith, good.inside (length order + 1) (cc));
        written = stream.NothingSent _ cut nothing;
      }
  open_yet stages.Text h w order sent text = record {
    unrefused = λ fault good. let clash = HasOneAnswer-read s order (Ok _) (Err fault) (read_held text) good.found in cc;
    written = text_sent_yet text;
  }

  pub HasReadSoFar-order : {r : OrderReader} {order sent : List ℕ} → HoldsOrder s r order sent
      → HasReadSoFar (order_message s) (HoldsOrder s r) order sent
  HasReadSoFar-order {r} {order} {sent} is =
      record { is = is; open_yet = open_yet r.stage r.head r.writer order sent is.stage }

  -- ---- in the text

  -- after a complete head, the reader holds the order if the keys suit the day, and refuses it otherwise
  pub text_begins : (r : OrderReader) {order text sent : List ℕ} (answer : Result (Unit {0}) FormFault)
      → r.stage ≡ stages.Text → r.read ≡ length order → IsOrder s order r.head.keys.items order []
      → IsFreshWriter r.writer → text ≡ [] → sent ≡ [] → InTurn (IsKeysAnswer s) 1 r.head.keys.items answer
      → MatchResult answer (λ _. HasReadSoFar (order_message s) (HoldsOrder s r) order sent)
      (HasFaultForGood (order_message s) order text)
  text_begins r {order} (Ok done) here size is fresh none nil suited =
      let first = take_all {A = ℕ} (part_size s * 0) [] (omega arith) in
      HasReadSoFar-order (record {
        counted = size;
        stage = rw here (record {
          head = order;
          text = [];
          is_order = is;
          allowed = All-nil (λ b. IsTrue (is_text_byte b));
          taken = record {
            suited = record {
              of_the_day = all_of_the_day _ s _ order is.is_head.lines;
              suited = suited;
              few = is.is_head.few;
            };
            counted = fresh.none;
            written = grind (arith, fresh.unwritten);
            kept = grind (arith, drop_all {X = ℕ}, take_all {A = ℕ});
            made = rw (fresh.unwritten, first, pieces-none (part_size s) (size_some s)) nil;
          };
        });
      })
  text_begins r {order} (Err fault) here size is fresh none nil found =
      HasFaultForGood-head (GoesOn _ is (HasFault fault found refl))
      (λ position same. absurd ((FaultsAre-InTurn (keys_faults s position) 1 r.head.keys.items).are fault found same)) none

  -- an order that ends within its head
  pub IsMessageAnswer-head_cut : {keys : List Keys} {line order sent made : List ℕ} {read : ℕ}
      → IsHeadBegun s keys line order → sent ≡ [] → made ≡ [] → read ≡ length order
      → IsMessageAnswer (order_message s) order (sent ++ made) (Err (BadByte (read + 1)))
  IsMessageAnswer-head_cut {order = order} begun nothing none counted =
      let cut : IsHeadAnswer s order (Err (BadByte (length order + 1))) = HasFault _ (_, head_cut begun, refl) refl in
      rw (counted, nothing, none) (HasFault _ (HasFault _ cut refl) refl, stream.NothingSent _ cut refl)

  -- at the end of the text, the reader outputs the last part, or finds the fault
  pub IsMessageAnswer-order : {keys : List Keys} {w : PartWriter} {order sent : List ℕ}
      (text : HoldsOrderText s keys w order sent) (made : List ℕ) (answer : Result (Unit {0}) FormFault)
      → IsTextEndAnswer s keys (text_letters s text.text) sent made answer
      → IsMessageAnswer (order_message s) order (sent ++ made) answer
  IsMessageAnswer-order text made (Ok done) told = GoesOn _ (read_held text) told
  IsMessageAnswer-order {sent = sent} text made (Err fault) (told, nothing) =
      (GoesOn _ (read_held text) told, rw (nothing, append-nil sent) (text_sent_yet text))

pub counted_on : {read : ℕ} (order : List ℕ) (byte : ℕ) → read ≡ length order → read + 1 ≡ length (order ++ byte ∷ [])
counted_on order byte is = ap (λ n. n + 1) is ∙ sym (length-append order (byte ∷ []))
