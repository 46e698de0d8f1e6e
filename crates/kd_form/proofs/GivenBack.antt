-- A part as it is written gives back its letters, and an order's form the letters of the order.
pub use Rattle.kd_form.proofs.Prelude.{OrdersGiveLetters, append-nil, take-append-drop, IsWithout, ◌≡◌, ℕ, zero, suc}
pub use Rattle.kd_form.proofs.Prelude.{◌+◌, ◌<◌, ◌≤◌, List, [], ◌∷◌, ◌++◌, length, take, drop, refl, sym, ap, subst}
pub use Rattle.kd_form.proofs.Prelude.{◌∙◌, append_assoc, length-drop, arith, map, All, IsTrue, Some, None, flat_map}
pub use Rattle.kd_form.proofs.Prelude.{cons_option, nat_tests, All-nil, All-cons, All-head, All-tail, All-append}
pub use Rattle.kd_form.proofs.Prelude.{All-take, All-drop, filter_map-append, is_text_byte, letters_text, line_of}
pub use Rattle.kd_form.proofs.Prelude.{pieces, letter_groups, line_then, body_text, Part, heading_words, part_text}
pub use Rattle.kd_form.proofs.Prelude.{letter_of_byte, letters_from, Day, IsHeading, BeginsHeading, HasHeading}
pub use Rattle.kd_form.proofs.Prelude.{WithoutReturn, cut_at_headings, parts_of, common_steps, ◌≢◌, ◌%◌, inl, inr}
pub use Rattle.kd_form.proofs.Prelude.{length-append, Option, IfSome, cases_lt, take_all, drop_all, length-take}
pub use Rattle.kd_form.proofs.Prelude.{length-take-le, IsLegalDay, Keys, plaintext_with_end, sent_letters, AreKeys}
pub use Rattle.kd_form.proofs.Prelude.{FormsGiveTheirOrders, InTurn, IsKeysAnswer, ThenNext-Ok, part_size}
pub use Rattle.kd_form.proofs.Prelude.{fill_last_group, IsBodyAnswer, Ok, IsPartAnswer, HasDueNumbers, space_letter}
pub use Rattle.kd_form.proofs.Prelude.{text_letters, ArePartTextsMade, ReadsPartsTo, plaintext_bytes, first_part_start}
pub use Rattle.kd_form.proofs.Prelude.{IsAnswerAt, IsExpectedCount, take-append_seam, All-more, GoesOn}
use Rattle.kd_form.proofs.Headings.{allowed_one, at_cut, cut_behind, ended_heading, has_byte, plain_heading}
use Rattle.kd_form.proofs.Headings.{words_begin, one_byte}
use Rattle.kd_form.proofs.MadeParts.{pieces-next, pieces-none, more_pieces, IsPiece, GivesBack, part_gives_back}
use Rattle.kd_form.proofs.{MadeParts.size_some, OneText.right_content}
use Rattle.kd_form.proofs.{Lines.{AreAllowed, IsWithout-plain}, OneOrder.{all_of_the_day, one_order}}
use Rattle.kd_form.proofs.Rules.{ThenNext-tested}

-- -------- the body of a part as it is written: the letters that it gives, its bytes, and its lines

abbrev pub AreOfTheAlphabet : List ℕ → Type 0
AreOfTheAlphabet letters = All (λ letter. letter < 26) letters

-- induction by pieces of `size` letters: `P` holds of each list of letters if it holds of the empty list, and of
-- any letters whenever it holds of the letters after their first piece
by_length : (size : ℕ) (P : List ℕ → Type 0) → 0 < size → P []
    → ((letters : List ℕ) → 0 < length letters → P (drop size letters) → P letters)
    → (most : ℕ) (letters : List ℕ) → length letters ≤ most → P letters
by_length size P large none more most [] few = none
by_length size P large none more zero (l ∷ letters) few = absurd (omega arith)
by_length size P large none more (suc most) (l ∷ letters) few =
    grind (arith, length-drop, by_length size P large none more most (drop size (l ∷ letters)))

-- ---- the letters that a body gives, and its bytes

-- each byte of the text is allowed, and the text gives these letters
pub record Gives (text letters : List ℕ) : Type 0 where
  pub allowed : AreAllowed text
  pub gives : letters_from None text ≡ letters

gives_both : (one other letters more : List ℕ) → Gives one letters → Gives other more
    → Gives (one ++ other) (letters ++ more)
gives_both one other letters more a b = grind (arith, common_steps, All-append, filter_map-append)

gives_none : Gives [] []
gives_none = record { allowed = All-nil (λ b. IsTrue (is_text_byte b)); gives = refl }

letter_is_allowed : (letter : ℕ) → letter < 26
    → IsTrue (is_text_byte (letter + 65)) × (letter_of_byte None (letter + 65) ≡ Some letter)
letter_is_allowed letter less = grind (arith, nat_tests)

pub gives_word : (letters : List ℕ) → AreOfTheAlphabet letters → Gives (letters_text letters) letters
gives_word [] are = gives_none
gives_word (l ∷ letters) are =
    let told = letter_is_allowed l (All-head (λ x. x < 26) l letters are) in
    gives_both ((l + 65) ∷ []) (letters_text letters) (l ∷ []) letters (record {
      allowed = All-cons (λ b. IsTrue (is_text_byte b)) (l + 65) [] told.0 (All-nil (λ b. IsTrue (is_text_byte b)));
      gives = ap (λ found. cons_option found []) told.1;
    }) (gives_word letters (All-tail (λ x. x < 26) l letters are))

-- a word, then a byte that gives no letter, then a rest: together they give the letters of the word and of
-- the rest
gives_after : (byte : ℕ) (word letters rest more : List ℕ) → IsTrue (is_text_byte byte)
    → letters_from None (byte ∷ []) ≡ [] → Gives word letters
    → Gives rest more → Gives (word ++ byte ∷ rest) (letters ++ more)
gives_after byte word letters rest more allowed none a b =
    gives_both word (byte ∷ rest) letters more a (grind (arith, common_steps, All-cons))

gives_words : (word letters : List ℕ) (words : List (List ℕ)) (more : List ℕ) → Gives word letters
    → Gives (line_of words) more → Gives (line_of (word ∷ words)) (letters ++ more)
gives_words word letters [] more a b = grind (arith, append-nil)
gives_words word letters (next ∷ words) more a b =
    gives_after 32 word letters (line_of (next ∷ words)) more refl refl a b

-- if writing a piece before other pieces adds just its letters, the pieces written together give all letters
gives_pieces : (size : ℕ) (whole : List (List ℕ) → List ℕ) → 0 < size → whole [] ≡ []
    → ((piece : List ℕ) (others : List (List ℕ)) (more : List ℕ) → AreOfTheAlphabet piece → Gives (whole others) more
    → Gives (whole (piece ∷ others)) (piece ++ more))
    → (letters : List ℕ) → AreOfTheAlphabet letters → Gives (whole (pieces size letters)) letters
gives_pieces size whole large none step letters =
    by_length size (λ letters. AreOfTheAlphabet letters → Gives (whole (pieces size letters)) letters) large
    (λ are. rw (pieces-none size large, none) gives_none) (λ letters some rest are.
    rw (pieces-next size letters large some)
    (subst (Gives (whole (take size letters ∷ pieces size (drop size letters)))) (take-append-drop size letters)
    (step (take size letters) (pieces size (drop size letters)) (drop size letters)
    (All-take (λ l. l < 26) size letters are)
    (rest (All-drop (λ l. l < 26) size letters are))))) (length letters) letters (omega arith)

gives_line : (line : List ℕ) → AreOfTheAlphabet line → Gives (line_of (letter_groups line)) line
gives_line = gives_pieces 5 (λ groups. line_of (map letters_text groups)) (omega arith) refl
    (λ group groups more are. gives_words (letters_text group) group (map letters_text groups) _ (gives_word group are))

pub gives_body : (letters : List ℕ) → AreOfTheAlphabet letters → Gives (body_text letters) letters
gives_body = gives_pieces 50 (flat_map (λ line. line_then (letter_groups line) [])) (omega arith) refl
    (λ line lines more are rest. rw append_assoc (gives_after 10 _ line _ more refl refl (gives_line line are) rest))

-- ---- the lines of a body

-- an LF and then the lines of a body end in LF, even if there are no lines
lines_end : (items : List (List ℕ))
    → (front : List ℕ) × (10 ∷ flat_map (λ line. line_then (letter_groups line) []) items ≡ front ++ 10 ∷ [])
lines_end [] = ([], refl)
lines_end (item ∷ items) =
    let (front, is) = lines_end items in
    (10 ∷ (line_of (letter_groups item) ++ front), grind (arith, append_assoc, is))

-- -------- a part as it is written: its heading, and where it ends in a form that begins with it

-- a written part has its heading and its body
pub part_has_heading : (s : Day) (made : Part) → IsHeading s made.heading
    → HasHeading s (part_text made) made.heading (body_text made.body)
part_has_heading s made is =
    let plain = plain_heading s made.heading is in
    let line : List ℕ = line_of (heading_words made.heading) in
    ended_heading s line (body_text made.body) made.heading (IsWithout-plain 10 line (omega arith) plain) is
    (WithoutReturn refl (λ front same. has_byte 13 front []
    (subst (IsWithout 13) same (IsWithout-plain 13 line (omega arith) plain))))

-- a written part begins with a heading
pub part_begins_heading : (s : Day) (made : Part) (more : List ℕ) → IsHeading s made.heading
    → BeginsHeading (part_text made ++ more)
part_begins_heading s made more is = grind (arith, append_assoc, words_begin)

-- a written part after an LF is one part of the form, if another part or nothing follows
pub part_is_first : (s : Day) (made : Part) (rest : List ℕ) (others : List (List ℕ)) → IsHeading s made.heading
    → All (λ letter. letter < 26) made.body → cut_at_headings (10 ∷ rest) ≡ (10 ∷ [], others)
    → cut_at_headings (10 ∷ (part_text made ++ rest)) ≡ (10 ∷ [], part_text made ∷ others)
part_is_first s made rest others is are follows =
    let line : List ℕ = line_of (heading_words made.heading) in
    let (front, ends) = lines_end (pieces 50 made.body) in
    let allowed =
    All-cons (λ b. IsTrue (is_text_byte b)) 10 (body_text made.body) refl (gives_body made.body are).allowed in
    let tail : cut_at_headings (front ++ 10 ∷ rest) ≡ (front ++ 10 ∷ [], others) =
    allowed_one front rest others (subst AreAllowed ends allowed) follows in
    let joined : part_text made ++ rest ≡ line ++ (front ++ 10 ∷ rest) =
    append_assoc line (10 ∷ body_text made.body) rest ∙ ap (λ t. line ++ (t ++ rest)) ends
    ∙ ap (λ t. line ++ t) (append_assoc front (10 ∷ []) rest) in
    let whole : cut_at_headings (part_text made ++ rest) ≡ (part_text made, others) =
    ap cut_at_headings joined ∙ cut_behind line (front ++ 10 ∷ rest)
    (IsWithout-plain 10 line (omega arith) (plain_heading s made.heading is))
    ∙ ap (λ (c : List ℕ × List (List ℕ)). (line ++ c.0, c.1)) tail ∙ ap (λ t. (line ++ t, others)) (sym ends) in
    at_cut (part_text made ++ rest) (part_begins_heading s made rest is)
    ∙ ap (λ (c : List ℕ × List (List ℕ)). (10 ∷ [], c.0 ∷ c.1)) whole

-- -------- the form that an order becomes gives the order's letters back

letters_from-within : (for_space : Option ℕ) (text : List ℕ) → IfSome for_space (λ letter. letter < 26)
    → All (λ letter. letter < 26) (letters_from for_space text)
letters_from-within for_space [] less = All-nil (λ letter. letter < 26)
letters_from-within for_space (byte ∷ text) less = grind
    (arith, All-cons {X = ℕ}, letters_from, letters_from-within for_space text less)

-- after whole groups, filling the rest fills the whole text
filled_behind : (front rest : List ℕ) → length front % 5 ≡ 0
    → fill_last_group front ++ fill_last_group rest ≡ fill_last_group (front ++ rest)
filled_behind front rest whole = grind (arith, length-append {A = ℕ}, append_assoc {A = ℕ}, append-nil {A = ℕ})

filled_pieces : (letters : List ℕ) → fill_last_group (take 500 letters) ++ fill_last_group (drop 500 letters)
    ≡ fill_last_group letters
filled_pieces letters =
    let both = filled_behind (take 500 letters) (drop 500 letters) in
    let size = length-take-le 500 letters in
    let all = take-append-drop 500 letters in elim (cases_lt (length letters) 500) [
      | inl short ↦ grind (arith, take_all 500 letters, drop_all 500 letters, append-nil (fill_last_group letters))
      | inr long ↦ grind (arith, both, size, all)
    ]

-- the letters sent for the pieces, joined, are the letters sent for the whole text
sent_pieces : (s : Day) (letters : List ℕ)
    → flat_map (sent_letters s) (pieces (part_size s) letters) ≡ sent_letters s letters
sent_pieces s letters =
    by_length (part_size s) (λ letters. flat_map (sent_letters s) (pieces (part_size s) letters)
    ≡ sent_letters s letters) (size_some s)
    (rw (pieces-none (part_size s) (size_some s)) (grind arith))
    (λ letters some rest. rw (pieces-next (part_size s) letters (size_some s) some)
    (ap (λ t. sent_letters s (take (part_size s) letters) ++ t) rest
    ∙ grind (arith, take-append-drop {A = ℕ}, filled_pieces)))
    (length letters) letters (omega arith)

are_pieces : (s : Day) (letters : List ℕ) → All (λ letter. letter < 26) letters
    → All (IsPiece s) (pieces (part_size s) letters)
are_pieces s letters =
    by_length (part_size s) (λ letters. All (λ letter. letter < 26) letters
    → All (IsPiece s) (pieces (part_size s) letters)) (size_some s)
    (λ within. rw (pieces-none (part_size s) (size_some s)) (All-nil (IsPiece s)))
    (λ letters some rest within. rw (pieces-next (part_size s) letters (size_some s) some)
    (All-cons (IsPiece s) (take (part_size s) letters) _
    (grind (arith, size_some s, length-take (part_size s) letters, All-take (λ l. l < 26) (part_size s) letters))
    (rest (All-drop (λ letter. letter < 26) (part_size s) letters within)))) (length letters) letters (omega arith)

-- after an LF, the form is divided into parts that are read as the letters of the pieces
record AreGivenBack (s : Day) (part parts count : ℕ) (pieces : List (List ℕ)) (form : List ℕ) : Type 0 where
  texts : List (List ℕ)
  counted : length texts ≡ count
  begins : texts ≢ [] → BeginsHeading form
  cut_so : cut_at_headings (10 ∷ form) ≡ (10 ∷ [], texts)
  read : (expected : Option ℕ) (start : ℕ) → IsExpectedCount expected parts → (texts ≡ [] → expected ≡ Some parts)
      → ReadsPartsTo s (IsAnswerAt s (Ok tt)) (record { number = part; expected = expected; bytes_before = start })
      texts (flat_map (sent_letters s) pieces)

parts_are_given_back : (s : Day) (part parts : ℕ) (keys : List Keys) (pieces : List (List ℕ)) (form : List ℕ)
    → IsLegalDay s → All (AreKeys s) keys → InTurn (IsKeysAnswer s) part keys (Ok tt) → All (IsPiece s) pieces
    → 1 ≤ part → part + length keys ≡ parts + 1
    → parts ≤ 99 → ArePartTextsMade s part parts keys pieces form → AreGivenBack s part parts (length keys) pieces form
parts_are_given_back s part parts [] [] form legal are suited all first last few made = rw made (record {
  texts = [];
  counted = refl;
  begins = λ some. absurd (some refl);
  cut_so = one_byte 10;
  read = λ expected start due known. ((parts, known refl, omega arith), refl);
})
parts_are_given_back s part parts (k ∷ keys) (piece ∷ pieces) form legal are suited all first last few
    (one, more, (made, makes, written), others, joined) =
    let rest : AreGivenBack s (part + 1) parts (length keys) pieces more =
    parts_are_given_back s (part + 1) parts keys pieces more legal (All-tail (AreKeys s) k keys are)
    (ThenNext-Ok suited).next (All-tail (IsPiece s) piece pieces all) (omega arith) (omega arith) few others in
    let back : GivesBack s part parts (sent_letters s piece) made =
    part_gives_back s part parts k piece made legal (All-head (AreKeys s) k keys are)
    (ThenNext-Ok suited).says (record { first = first; in_order = omega arith; few = few })
    (All-head (IsPiece s) piece pieces all) makes in
    let given = gives_body made.body back.within in
    let is_read : (expected : Option ℕ) (start : ℕ) → IsExpectedCount expected parts
    → IsPartAnswer s (record { number = part; expected = expected; bytes_before = start }) (part_text made)
    (Ok (record { parts = parts; letters = sent_letters s piece })) = λ expected start due.
    let numbers : HasDueNumbers part expected made.heading = record {
      numbered = back.numbered;
      as_expected = subst (λ n. IsExpectedCount expected n) (sym back.same_parts) due;
    } in
    rw (← back.same_parts) (GoesOn _
    (right_content start (part_has_heading s made back.is_heading) numbers given.allowed)
    (GoesOn (sent_letters s piece)
    (subst (λ ls. IsBodyAnswer s part made.heading ls (Ok (sent_letters s piece))) (sym given.gives)
    (GoesOn tt back.counted back.read)) refl)) in
    rw (joined, written) (record {
      texts = part_text made ∷ rest.texts;
      counted = omega (arith, rest.counted);
      begins = λ some. part_begins_heading s made more back.is_heading;
      cut_so = part_is_first s made more rest.texts back.is_heading back.within rest.cut_so;
      read = λ expected start due known. inr (
        record { parts = parts; letters = sent_letters s piece },
        flat_map (sent_letters s) pieces,
        is_read expected start due,
        rest.read (Some parts) (start + length (part_text made)) refl (λ none. refl),
        refl,
      );
    })
parts_are_given_back s part parts _ _ form legal are suited all first last few made = absurd made

pub forms_give_their_orders : FormsGiveTheirOrders
forms_give_their_orders s order form given legal is due =
    let read = ThenNext-Ok is in
    let (keys, head, text) : List Keys × List ℕ × List ℕ = (read.found.keys, read.found.head, read.found.text) in
    let (order_is, suited) = ThenNext-tested (ThenNext-tested read.says).0 in
    let some = ThenNext-Ok read.next in
    let counted = ThenNext-Ok some.next in
    let letters : List ℕ = text_letters s text in
    let same = one_order s order keys due.keys head due.head text due.text order_is due.is_order in
    let back : AreGivenBack s 1 (length keys) (length keys) (pieces (part_size s) letters) form =
    parts_are_given_back s 1 (length keys) keys (pieces (part_size s) letters) form legal
    (all_of_the_day _ s keys head order_is.is_head.lines) suited
    (are_pieces s letters (letters_from-within (space_letter s) text (grind arith))) (omega arith)
    (omega arith) order_is.is_head.few counted.next in
    let some : back.texts ≢ [] =
    grind (arith, common_steps, more_pieces, size_some, some.says, back.counted, counted.says) in
    let read = back.read None 0 tt (λ none. absurd (some none)) in
    let texts : back.texts ≡ parts_of form = ap (λ c. c.1) (sym back.cut_so ∙ at_cut form (back.begins some)) in
    let given_letters
    : ReadsPartsTo s (IsAnswerAt s (Ok tt)) first_part_start (parts_of form) (sent_letters s letters) =
    subst (λ ps. ReadsPartsTo s (IsAnswerAt s (Ok tt)) first_part_start ps (sent_letters s letters)) texts
    (subst (ReadsPartsTo s (IsAnswerAt s (Ok tt)) first_part_start back.texts) (sent_pieces s letters) read) in (
      plaintext_bytes s (sent_letters s letters),
      (sent_letters s letters, given_letters, refl),
      due.is ∙ ap (λ t. plaintext_with_end s (sent_letters s (text_letters s t))) (sym same.2),
    )

pub orders_give_letters : OrdersGiveLetters
orders_give_letters s order form is =
    let parts = (ThenNext-Ok is).found in (
      plaintext_with_end s (sent_letters s (text_letters s parts.text)),
      record {
        keys = parts.keys;
        head = parts.head;
        text = parts.text;
        is_order = (ThenNext-tested (ThenNext-tested (ThenNext-Ok is).says).0).0;
        is = refl;
      },
    )
