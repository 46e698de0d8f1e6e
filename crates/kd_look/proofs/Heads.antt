-- The head of an order, line by line: where it ends, or its first wrong byte.
use Rattle.kd_look.proofs.LineEnds.{IsLineAnswer, IsLineTo, IsLineWrongAt, IsOff, MayGoOn, line_answer, fits_next}
use Rattle.kd_look.proofs.LineEnds.{unfit_next}
use Rattle.std.proofs.Common.{◌≡◌, ◌∙◌, ℕ, zero, suc, ◌+◌, ◌<◌, ◌≤◌, ◌⊎◌, Bool, true, false, List, [], ◌∷◌, ◌++◌}
use Rattle.std.proofs.Common.{Result, Ok, Err, append_assoc, ap, arith, codes, cond, drop, get_or, inl, inr, length}
use Rattle.std.proofs.Common.{length-append, refl, subst, sym, take, ◌==◌}
use Rattle.std.proofs.lemmas.Bool.{Decides.nat_tests, false≢true}
use Rattle.std.proofs.lemmas.List.{append-nil, take_at, Sums.sum_by-append}
use Rattle.std.proofs.lemmas.List.Elements.{All-head, All-tail}
use Rattle.std.specs.List.{count_by}
use Rattle.std.specs.Result.{result_map_both}
use Rattle.kd_state.specs.SheetDay.{Day}
use Rattle.kd_form.specs.declared.fault.FormFault.TheVariants.{BadByte}
use Rattle.kd_form.specs.declared.keys.Keys.{Keys}
use Rattle.kd_form.specs.KeyPatterns.{key_pattern}
use Rattle.kd_form.specs.Order.{BeginsWithKeys, IsAnyOrderHead, IsLineWithEnd, IsOrder, IsOrderHead, IsOrderHeadFault}
use Rattle.kd_form.specs.OrderSteps.{IsHeadBegun, IsHeadLine}
use Rattle.kd_form.specs.Patterns.{IsPatternLine}
use Rattle.kd_form.proofs.Lines.{IsPlain, as_form_line, as_key_line, key_first, lines_more, plain_keys, plain_text}
use Rattle.kd_form.proofs.Lines.{text_front, text_line}
use Rattle.kd_form.proofs.OneOrder.{BeginsWithKeys-append}
use Rattle.kd_form.proofs.OrderSteps.{goes_on, head_next, no_next, one_more, text_head}
use Rattle.kd_sheet.specs.Document.{◌>>=◌}
use Rattle.kd_look.proofs.KeyForms.{form_pattern}
use Rattle.kd_look.specs.Laws.{HasHeadTo, HeadFaultsAreThoseOfSend, HeadsEndWhereSendEndsThem}
use Rattle.kd_look.specs.Order.{head_fault}
use Rattle.kd_look.specs.OrderHead.{head_end, pattern_of}
use Rattle.kd_look.specs.Signs.{fits_at, fits_mark, line_end}
use Rattle.kd_look.specs.declared.message.fault.MessageFault.{MessageFault}
use Rattle.kd_look.specs.declared.message.order_head.KeyLine.{KeyLine}
use Rattle.kd_look.specs.declared.message.signs.WrongByte.{WrongByte}

-- the number of line feeds
abbrev feeds : List ℕ → ℕ
feeds bytes = count_by (λ byte. byte == 10) bytes

-- if no line of a head can go on with a byte, no head can
pub head_stops : {s : Day} {keys : List Keys} {line order : List ℕ} → IsHeadBegun s keys line order
    → (byte : ℕ) → IsOff (IsHeadLine s (length keys)) (line ++ byte ∷ [])
    → (other : List ℕ) → ¬ (IsAnyOrderHead s (order ++ byte ∷ other))
head_stops {s} {keys} {line} {order} is byte off other (others, head) =
    let all : List ℕ = order ++ byte ∷ other in
    let whole : order ++ byte ∷ other ≡ all ++ [] = sym (append-nil all) in
    let (after, rest, last, are, mine, ended, alike) =
    BeginsWithKeys-append s keys others order all (byte ∷ other) [] is.lines head.lines whole in
    let few : length keys + length after ≤ 99 = omega (arith, head.few, ap length are, length-append keys after) in
    let (one, left, next, split) = head_next s (length keys) after last few ended in
    no_next s (length keys) line other one left byte is.begins off next (cc (mine, alike, split, append-nil last))

-- bytes that follow don't change the first byte
same_first : (part : List ℕ) (byte : ℕ) (more : List ℕ)
    → get_or ((part ++ byte ∷ []) ++ more) 0 0 ≡ get_or (part ++ byte ∷ []) 0 0
same_first [] byte more = refl
same_first (x ∷ part) byte more = refl

-- after P, a byte that fits no line of keys fits no line of a head
off_keys : (s : Day) (count : ℕ) (part : List ℕ) (byte : ℕ) → get_or (part ++ byte ∷ []) 0 0 ≡ 80
    → IsOff (IsPatternLine (key_pattern s)) (part ++ byte ∷ []) → IsOff (IsHeadLine s count) (part ++ byte ∷ [])
off_keys s count part byte first off = λ more next. elim next [
  | inl key ↦ off more (as_form_line s ((part ++ byte ∷ []) ++ more) key.0)
  | inr text ↦
      let same = same_first part byte more in
      let front = text_front ((part ++ byte ∷ []) ++ more) [] text in
      let whole = ap (λ l. get_or l 0 0) (append-nil ((part ++ byte ∷ []) ++ more)) in
      omega (arith, first, same, front, whole)
]

-- if no line of keys may come, a byte that doesn't fit the line TEXT fits no line of a head
off_text : (s : Day) (count : ℕ) (part : List ℕ) (byte : ℕ) → (get_or (part ++ byte ∷ []) 0 0 ≡ 80 → 99 ≤ count)
    → IsOff (IsPatternLine (codes "TEXT")) (part ++ byte ∷ []) → IsOff (IsHeadLine s count) (part ++ byte ∷ [])
off_text s count part byte full off = λ more next. elim next [
  | inl key ↦
      let same = same_first part byte more in
      let front = key_first key.0.keys ((part ++ byte ∷ []) ++ more) [] key.0.keyed in
      let whole = ap (λ l. get_or l 0 0) (append-nil ((part ++ byte ∷ []) ++ more)) in
      omega (arith, key.1, full (sym same ∙ sym whole ∙ front))
  | inr text ↦ off more (text_line ((part ++ byte ∷ []) ++ more) text)
]

-- The bytes of `order` before `index` are the lines of `keys`.
pub record HasKeyLines (s : Day) (order : List ℕ) (keys : List Keys) (index : ℕ) : Type 0 where
  pub before : List ℕ
  pub lines : BeginsWithKeys s keys (λ rest. rest ≡ []) before
  pub joined : order ≡ before ++ drop index order
  pub size : index ≡ length before
  pub few : length keys ≤ 99

-- `order` is a whole head up to `start`, or its head has a fault.
abbrev pub IsHeadEndAnswer : Day → List ℕ → Result ℕ WrongByte → Type 0
IsHeadEndAnswer s order (Ok start) =
    (keys : List Keys) × (start ≤ length order) × IsOrder s order keys (take start order) (drop start order)
IsHeadEndAnswer s order (Err wrong) = IsOrderHeadFault s order (wrong.index + 1)

-- ---- the first byte of a line that has a wrong byte

first_byte : (part after : List ℕ) (byte : ℕ)
    → (rest : List ℕ) × (part ++ byte ∷ after ≡ get_or (part ++ byte ∷ []) 0 0 ∷ rest)
first_byte [] after byte = (after, refl)
first_byte (x ∷ part) after byte = (part ++ byte ∷ after, refl)

is_first : (order part after : List ℕ) (index byte : ℕ) → fits_at order 80 index ≡ true
    → drop index order ≡ part ++ byte ∷ after → get_or (part ++ byte ∷ []) 0 0 ≡ 80
is_first order part after index byte fits joined =
    let (found, next, fit) = fits_next order 80 index fits in
    let (rest, first) = first_byte part after byte in
    let same : get_or (part ++ byte ∷ []) 0 0 ≡ found = cc in
    grind (arith, nat_tests)

not_first : (order part after : List ℕ) (index byte : ℕ) → fits_at order 80 index ≡ false
    → drop index order ≡ part ++ byte ∷ after → ¬ (get_or (part ++ byte ∷ []) 0 0 ≡ 80)
not_first order part after index byte unfit joined =
    let (rest, first) = first_byte part after byte in
    let off : fits_mark 80 (get_or (part ++ byte ∷ []) 0 0) ≡ false =
    unfit_next order rest 80 index (get_or (part ++ byte ∷ []) 0 0) unfit (joined ∙ first) in
    λ same. false≢true (sym (subst (λ b. fits_mark 80 b ≡ false) same off))

module _ {s : Day} {order : List ℕ} {keys : List Keys} {index : ℕ} (is : HasKeyLines s order keys index) where
  -- the first bytes of a line may follow lines of keys
  part_begun : (part : List ℕ) → MayGoOn (IsHeadLine s (length keys)) part
      → IsHeadBegun s keys part (is.before ++ part)
  part_begun part begins = record {
    lines = subst (λ l. BeginsWithKeys s l (λ rest. rest ≡ part) (is.before ++ part)) (append-nil keys)
        (lines_more (λ rest. rest ≡ part) s part keys [] is.before (λ rest nil. ap (λ l. l ++ part) nil) is.lines);
    few = is.few;
    begins = begins;
  }

  none_begun : IsHeadBegun s keys [] is.before
  none_begun = record { lines = is.lines; few = is.few; begins = (codes "TEXT\n", (λ none. cc), inr (inl refl)) }

  -- the first wrong byte of a line is the head's
  pub fault_of_line : (wrong : ℕ) → IsLineWrongAt (IsHeadLine s (length keys)) order index wrong
      → IsOrderHeadFault s order (wrong + 1)
  fault_of_line wrong line =
      let begun = part_begun line.part line.begins in
      record {
        before = is.before ++ line.part;
        rest = drop wrong order;
        joined = cc (is.joined, line.joined, append_assoc is.before line.part (drop wrong order));
        size = omega (arith, line.size, is.size, length-append is.before line.part);
        begins = goes_on begun;
        stops = λ byte after more next. head_stops begun byte (line.stops byte after next) more;
      }

  joined_to : (end : ℕ) (line : List ℕ) → drop index order ≡ line ++ drop end order → end ≡ index + length line
      → (order ≡ (is.before ++ line) ++ drop end order) × (end ≡ length (is.before ++ line))
  joined_to end line next size = (
    cc (is.joined, next, append_assoc is.before line (drop end order)),
    omega (arith, size, is.size, length-append is.before line),
  )

  -- the line TEXT ends the head
  text_read : (end : ℕ) → IsLineTo (IsPatternLine (codes "TEXT")) order index end → IsHeadEndAnswer s order (Ok end)
  text_read end text =
      let (joined, size) = joined_to end text.line text.joined text.size in
      let front : take end order ≡ is.before ++ text.line =
      ap (take end) joined ∙ take_at (is.before ++ text.line) (drop end order) end (sym size) in (
        keys,
        omega (arith, size, ap length joined, length-append (is.before ++ text.line) (drop end order)),
        record {
          joined = joined ∙ ap (λ l. l ++ drop end order) (sym front);
          is_head = subst (λ l. IsOrderHead s keys l) (sym front) (text_head none_begun text.line text.is.1.ended);
        },
      )

  pub text_answer : (answer : Result ℕ WrongByte) → IsLineAnswer (IsPatternLine (codes "TEXT")) order index answer
      → ((fits_at order 80 index ≡ false) ⊎ (99 ≤ length keys)) → IsHeadEndAnswer s order answer
  text_answer (Ok end) line other = text_read end line
  text_answer (Err wrong) line other = fault_of_line wrong.index (record {
    part = line.part;
    joined = line.joined;
    size = line.size;
    begins = let (more, some, (letters, text)) = line.begins in (more, some, inr text.ended);
    stops = λ byte after next. off_text s (length keys) line.part byte
        (λ first. elim other [
          | inl unfit ↦ absurd (not_first order line.part after index byte unfit
              (line.joined ∙ ap (λ l. line.part ++ l) next) first)
          | inr full ↦ full
        ]) (line.stops byte after next);
  })

  -- one more line of keys
  key_read : (end : ℕ) → length keys < 99 → IsLineTo (IsPatternLine (key_pattern s)) order index end
      → (k : Keys) × HasKeyLines s order (keys ++ k ∷ []) end
  key_read end room line =
      let key = as_key_line s line.line line.is in
      let (joined, size) = joined_to end line.line line.joined line.size in (
        key.keys,
        record {
          before = is.before ++ line.line;
          lines = subst (λ l. BeginsWithKeys s (keys ++ key.keys ∷ []) (λ rest. rest ≡ []) (is.before ++ l))
              (append-nil line.line)
              (one_more none_begun (λ rest. rest ≡ []) key.keys line.line [] key.of_the_day key.keyed refl);
          joined = joined;
          size = size;
          few = omega (arith, room, length-append keys (key.keys ∷ []));
        },
      )

  -- after a wrong byte in a line of keys, or after the line, comes the answer for the rest
  key_answer : (answer : Result ℕ WrongByte) (next : ℕ → Result ℕ WrongByte) → fits_at order 80 index ≡ true
      → length keys < 99 → IsLineAnswer (IsPatternLine (key_pattern s)) order index answer
      → ((end : ℕ) (k : Keys) → HasKeyLines s order (keys ++ k ∷ []) end → IsHeadEndAnswer s order (next end))
      → IsHeadEndAnswer s order (answer >>= next)
  key_answer (Ok end) next fits room line on = let (k, more) = key_read end room line in on end k more
  key_answer (Err wrong) next fits room line on = fault_of_line wrong.index (record {
    part = line.part;
    joined = line.joined;
    size = line.size;
    begins = let (more, some, key) = line.begins in (more, some, inl (as_key_line s (line.part ++ more) key, room));
    stops = λ byte after then. off_keys s (length keys) line.part byte
        (is_first order line.part after index byte fits (line.joined ∙ ap (λ l. line.part ++ l) then))
        (line.stops byte after then);
  })

module _ (s : Day) (form : KeyLine) (order : List ℕ) (same : pattern_of form ≡ key_pattern s) where
  line_step : (left index : ℕ) (keys : List Keys) (more : Bool) → fits_at order 80 index ≡ more
      → suc left + length keys ≡ 99 → HasKeyLines s order keys index
      → ((end : ℕ) (k : Keys) → HasKeyLines s order (keys ++ k ∷ []) end
      → IsHeadEndAnswer s order (head_end order form left end))
      → IsHeadEndAnswer s order (cond more (line_end order (pattern_of form) index >>= head_end order form left)
      (line_end order (codes "TEXT") index))
  line_step left index keys true fits count is on =
      rw same (key_answer is (line_end order (key_pattern s) index) (head_end order form left) fits
      (omega (arith, count))
      (line_answer order (key_pattern s) index) on)
  line_step left index keys false fits count is on =
      text_answer is (line_end order (codes "TEXT") index) (line_answer order (codes "TEXT") index) (inl fits)

  pub head_answer : (left index : ℕ) (keys : List Keys) → left + length keys ≡ 99 → HasKeyLines s order keys index
      → IsHeadEndAnswer s order (head_end order form left index)
  head_answer zero index keys count is =
      text_answer is (line_end order (codes "TEXT") index) (line_answer order (codes "TEXT") index)
      (inr (omega (arith, count)))
  head_answer (suc left) index keys count is =
      line_step left index keys (fits_at order 80 index) refl count is
      (λ end k more. head_answer left end (keys ++ k ∷ []) (omega (arith, count, length-append keys (k ∷ []))) more)

  pub whole_answer : IsHeadEndAnswer s order (head_end order form 99 0)
  whole_answer = head_answer 99 0 [] (omega arith) (record {
    before = [];
    lines = refl;
    joined = refl;
    size = refl;
    few = omega arith;
  })

-- -------- the laws about heads

feeds_plain : (text : List ℕ) → IsPlain text → feeds text ≡ 0
feeds_plain [] plain = refl
feeds_plain (byte ∷ text) plain =
    let high : 32 ≤ byte = All-head (λ byte. 32 ≤ byte) byte text plain in
    let off : (byte == 10) ≡ false = grind (arith, nat_tests) in
    let rest = feeds_plain text (All-tail (λ byte. 32 ≤ byte) byte text plain) in
    rw off (omega (arith, rest))

feeds_line : (text line : List ℕ) → IsPlain text → IsLineWithEnd text line → feeds line ≡ 1
feeds_line text line plain (inl ended) = grind (arith, feeds_plain, sum_by-append)
feeds_line text line plain (inr ended) = grind (arith, feeds_plain, sum_by-append)

feeds_head : (s : Day) (keys : List Keys) (head : List ℕ) → BeginsWithKeys s keys (IsLineWithEnd (codes "TEXT")) head
    → feeds head ≡ length keys + 1
feeds_head s [] head ended = feeds_line (codes "TEXT") head (plain_text (codes "TEXT") refl) ended
feeds_head s (k ∷ keys) head (line, rest, are, keyed, more, joined) =
    ap feeds joined ∙ sum_by-append _ line rest
    ∙ omega (arith, feeds_line _ line (plain_keys k) keyed, feeds_head s keys rest more)

module _ (s : Day) (form : KeyLine) (order : List ℕ) where
  fault_agrees : (answer : Result ℕ WrongByte) (found : MessageFault) → IsHeadEndAnswer s order answer
      → result_map_both (λ start. start) (head_fault order form) answer ≡ Err found
      → IsOrderHeadFault s order (found.index + 1) × (found.fault ≡ BadByte (found.index + 1))
  fault_agrees (Ok end) found is same = absurd (cc)
  fault_agrees (Err wrong) found is same =
      let fault : head_fault order form wrong ≡ found = cc in
      subst (λ f. IsOrderHeadFault s order (f.index + 1) × (f.fault ≡ BadByte (f.index + 1))) fault (is, refl)

  end_agrees : (answer : Result ℕ WrongByte) (start : ℕ) → IsHeadEndAnswer s order answer
      → result_map_both (λ start. start) (head_fault order form) answer ≡ Ok start → HasHeadTo s order start
  end_agrees (Err wrong) start is same = absurd (cc)
  end_agrees (Ok end) start (keys, inside, is) same =
      let ends : end ≡ start = cc in
      let counted = feeds_head s keys (take end order) is.is_head.lines in
      subst (HasHeadTo s order) ends (record {
        keys = keys;
        inside = inside;
        is_order = is;
        counted = omega (arith, counted);
      })

pub head_faults_agree : HeadFaultsAreThoseOfSend
head_faults_agree s form order found same =
    fault_agrees s form order (head_end order form 99 0) found (whole_answer s form order (form_pattern s form same))

pub head_ends_agree : HeadsEndWhereSendEndsThem
head_ends_agree s form order start same =
    end_agrees s form order (head_end order form 99 0) start (whole_answer s form order (form_pattern s form same))
