-- An order is read in one way, and becomes one form or has one fault.
pub use Rattle.kd_form.proofs.Prelude.{◌≡◌, ℕ, ◌+◌, List, [], ◌∷◌, ◌++◌, length, refl, sym, ap, subst, ◌∙◌}
pub use Rattle.kd_form.proofs.Prelude.{append_assoc, arith, Err, Ok, drop, ◌≤◌, codes, All, IsTrue, append_cancel_right}
pub use Rattle.kd_form.proofs.Prelude.{append-nil, All-cons, All-nil, All-map, letters_text, is_text_byte, line_of, Day}
pub use Rattle.kd_form.proofs.Prelude.{Rotor, Pin, Keys, PrecedesOrEquals, IsInternalKey, key_words}
pub use Rattle.kd_form.proofs.Prelude.{AreKeys, IsLineWithEnd, BeginsWithKeys, IsOrder, IsOrderHead, IsOrderHeadFault}
pub use Rattle.kd_form.proofs.Prelude.{IsPartTextMade, enciphered_choice, ArePartTextsMade, FormFault, nil_from_length}
pub use Rattle.kd_form.proofs.Prelude.{length-append, IsKeysAnswer, IsBytesAnswer, IsDividedAnswer, IsHeadAnswer}
pub use Rattle.kd_form.proofs.Prelude.{IsReadAnswer, OrdersHaveOneAnswer}
use Rattle.kd_form.proofs.Rules.{one_answers, bytes_allowed}
use Rattle.kd_state.specs.AnswerRules.{HasOneAnswer}
use Rattle.kd_form.proofs.Lines.{same_front, plain_keys, key_first, text_front, same_line, plain_text}

-- at most one value has the property
abbrev pub IsUnique : {V : Type 0} → (V → Type 0) → Type 0
IsUnique {V} Has = (v w : V) → Has v → Has w → v ≡ w

-- -------- an order is read in one way

same_places : (places others : List ℕ) → PrecedesOrEquals places others → PrecedesOrEquals others places
    → places ≡ others
same_places [] [] one other = refl
same_places (x ∷ places) (y ∷ others) one other = grind (arith, same_places places others)
same_places _ _ one other = search

pub one_internal_key : (letters : List ℕ) → IsUnique (IsInternalKey letters)
one_internal_key letters key other a b = grind (arith, same_places a.places b.places)

one_part : (s : Day) (part parts : ℕ) (k : Keys) (text : List ℕ) → IsUnique (IsPartTextMade s part parts k text)
one_part s part parts (Rotor k) text one other (made, is, bytes) (again, also, written) = cc
one_part s part parts (Pin k) text one other (made, (internal, first, is), bytes) (again, (key, best, also), written) =
    let same = one_internal_key (enciphered_choice s k) internal key first best in cc

one_form : (s : Day) (part parts : ℕ) (keys : List Keys) (texts : List (List ℕ))
    → IsUnique (ArePartTextsMade s part parts keys texts)
one_form s part parts [] [] form other a b = a ∙ sym b
one_form s part parts (k ∷ keys) (text ∷ texts) form other (one, more, made, mades, joined)
    (two, rest, again, agains, linked) =
    let first = one_part s part parts k text one two made again in
    cc (first, one_form s (part + 1) parts keys texts more rest mades agains, joined, linked)
one_form s part parts _ _ form other a b = absurd a

-- ---- one line of keys

pub same_letters : (letters others : List ℕ) → letters_text letters ≡ letters_text others → letters ≡ others
same_letters [] [] same = refl
same_letters (x ∷ letters) (y ∷ others) same = grind (arith, same_letters letters others)
same_letters _ _ same = cc

-- equal texts have the same word before the first space, and the same rest
pub same_word : (letters others rest more : List ℕ)
    → letters_text letters ++ 32 ∷ rest ≡ letters_text others ++ 32 ∷ more → (letters ≡ others) × (rest ≡ more)
same_word letters others rest more same =
    let both =
    same_front (λ b. 65 ≤ b) _ _ (32 ∷ rest) (32 ∷ more)
    (All-map (λ b. 65 ≤ b) (λ l. l + 65) letters (λ k d inside. omega arith))
    (All-map (λ b. 65 ≤ b) (λ l. l + 65) others (λ k d inside. omega arith)) (omega arith) (omega arith) same in
    (same_letters letters others both.0, ap (drop 1) both.1)

same_keys : (s : Day) (k other : Keys) → AreKeys s k → AreKeys s other
    → line_of (key_words k) ≡ line_of (key_words other) → k ≡ other
same_keys s (Rotor k) (Rotor other) are also same =
    grind (arith, same_word k.ground_setting, same_word k.message_key, same_word k.fillers, same_letters k.group)
same_keys s (Pin k) (Pin other) are also same =
    grind (arith, same_word (k.chosen ∷ []) (other.chosen ∷ []), same_letters k.external)
same_keys (Rotor s) _ _ are also same = search
same_keys (Pin s) _ _ are also same = search

-- ---- one order

pub all_of_the_day : (P : List ℕ → Type 0) (s : Day) (keys : List Keys) (bytes : List ℕ) → BeginsWithKeys s keys P bytes
    → All (AreKeys s) keys
all_of_the_day P s [] bytes lines = All-nil (AreKeys s)
all_of_the_day P s (k ∷ keys) bytes lines = grind (arith, All-cons, all_of_the_day P s keys)

-- if bytes begin with lines of keys and with a head, these lines are the head's first lines
pub BeginsWithKeys-append : {P : List ℕ → Type 0} (s : Day) (keys others : List Keys) (bytes head text more : List ℕ)
    → BeginsWithKeys s keys P bytes → BeginsWithKeys s others (IsLineWithEnd (codes "TEXT")) head
    → bytes ++ text ≡ head ++ more → (after : List Keys) × (rest last : List ℕ) × (others ≡ keys ++ after) × P rest
    × BeginsWithKeys s after (IsLineWithEnd (codes "TEXT")) last × (rest ++ text ≡ last ++ more)
BeginsWithKeys-append s [] others bytes head text more mine yours same = (others, bytes, head, refl, mine, yours, same)
BeginsWithKeys-append s (k ∷ keys) [] bytes head text more all ended same = absurd
    (grind (arith, text_front, key_first, append_assoc))
BeginsWithKeys-append s (k ∷ keys) (j ∷ others) bytes head text more (line, rest, are, is, mine, e)
    (end, left, all, so, its, d) same =
    let whole : line ++ (rest ++ text) ≡ end ++ (left ++ more) =
    cc (same, append_assoc line rest text, append_assoc end left more) in
    let (words, lines, rests) = same_line _ _ line end _ _ (plain_keys k) (plain_keys j) is so whole in
    let (after, beyond, last, they, holds, ended, alike) = BeginsWithKeys-append s keys others rest left text more
    mine its rests in
    (after, beyond, last, cc (same_keys s k j are all words, they), holds, ended, alike)

only_text : (s : Day) (keys : List Keys) (line last text more : List ℕ) → IsLineWithEnd (codes "TEXT") line
    → BeginsWithKeys s keys (IsLineWithEnd (codes "TEXT")) last → line ++ text ≡ last ++ more → (keys ≡ [])
    × (text ≡ more)
only_text s [] line last text more ended end same = grind (arith, plain_text, same_line)
only_text s (k ∷ keys) line last text more ended end same = grind (arith, text_front, key_first, append_assoc)

pub one_order : (s : Day) (order : List ℕ) (keys others : List Keys) (head other text more : List ℕ)
    → IsOrder s order keys head text → IsOrder s order others other more
    → (keys ≡ others) × (head ≡ other) × (text ≡ more)
one_order s order keys others head other text more a b =
    let (after, rest, last, are, ended, end, same) =
    BeginsWithKeys-append s keys others head other text more a.is_head.lines b.is_head.lines
    (sym a.joined ∙ b.joined) in
    grind (arith, only_text, append-nil, append_cancel_right)

-- -------- an order has a form, or one fault

pub data AreFronts (xs ys zs ws : List ℕ) : Type 0 where
  Shorter : (more : List ℕ) → zs ≡ xs ++ more → ys ≡ more ++ ws → AreFronts xs ys zs ws
  Longer : (x : ℕ) (more : List ℕ) → xs ≡ zs ++ x ∷ more → ws ≡ x ∷ (more ++ ys) → AreFronts xs ys zs ws

pub prefixes : (xs ys zs ws : List ℕ) → xs ++ ys ≡ zs ++ ws → AreFronts xs ys zs ws
prefixes [] ys zs ws same = Shorter zs refl same
prefixes (x ∷ xs) ys [] ws same = Longer x xs refl (sym same)
prefixes (x ∷ xs) ys (z ∷ zs) ws same = elim (prefixes xs ys zs ws (cc)) [
  | Shorter more is rest ↦ Shorter more (cc) rest
  | Longer y more is rest ↦ Longer y more (cc) rest
]

-- ---- faults in the head

pub no_head_fault : (s : Day) (order : List ℕ) (keys : List Keys) (head text : List ℕ) (position : ℕ)
    → IsOrder s order keys head text → ¬ (IsOrderHeadFault s order position)
no_head_fault s order keys head text position is fault =
    let (ahead, some, (all, begun)) = fault.begins in
    elim (prefixes head text fault.before fault.rest (sym is.joined ∙ fault.joined)) [
      | Shorter more longer rest ↦
          let whole : List ℕ = fault.before ++ ahead in
          let same = one_order s whole keys all head whole (more ++ ahead) []
          (record { joined = cc (longer, append_assoc head more ahead); is_head = is.is_head })
          (record { joined = sym (append-nil whole); is_head = begun }) in
          some (nil_from_length ahead (omega (arith, ap length same.2, length-append more ahead)))
      | Longer byte more longer rest ↦
          fault.stops byte (more ++ text) more rest (keys, subst (IsOrderHead s keys) longer is.is_head)
    ]

-- of two faults in a head, neither is at a later position
not_later : (s : Day) (order : List ℕ) (one other byte : ℕ) (more : List ℕ) (a : IsOrderHeadFault s order one)
    (b : IsOrderHeadFault s order other) → b.before ≡ a.before ++ byte ∷ more → ¬ (a.rest ≡ byte ∷ (more ++ b.rest))
not_later s order one other byte more a b longer rest =
    let (ahead, some, head) = b.begins in
    a.stops byte (more ++ b.rest) (more ++ ahead) rest (rw (longer, append_assoc a.before (byte ∷ more) ahead) at head)

IsOrderHeadFault-one : (s : Day) (order : List ℕ) → IsUnique (IsOrderHeadFault s order)
IsOrderHeadFault-one s order one other a b = elim (prefixes a.before a.rest b.before b.rest (sym a.joined ∙ b.joined)) [
  | Shorter [] longer rest ↦ cc (a.size, b.size, longer, append-nil a.before)
  | Shorter (byte ∷ more) longer rest ↦ absurd (not_later s order one other byte more a b longer rest)
  | Longer byte more longer rest ↦ absurd (not_later s order other one byte more b a longer rest)
]

-- -------- the answer for an order

HasOneAnswer-divided : (s : Day) (order : List ℕ) → HasOneAnswer (IsDividedAnswer s order)
HasOneAnswer-divided s order (Ok x) (Ok y) a b =
    grind (arith, one_order s order x.keys y.keys x.head y.head x.text y.text a b)
HasOneAnswer-divided s order (Ok x) (Err fault) a (position, is, e) = absurd
    (no_head_fault s order x.keys x.head x.text position a is)
HasOneAnswer-divided s order (Err fault) (Ok y) (position, is, e) b = absurd
    (no_head_fault s order y.keys y.head y.text position b is)
HasOneAnswer-divided s order (Err fault) (Err other) (one, a, e) (two, b, d) =
    cc (IsOrderHeadFault-one s order one two a b)

HasOneAnswer-keys : (s : Day) (part : ℕ) (k : Keys) → HasOneAnswer (IsKeysAnswer s part k)
HasOneAnswer-keys s part (Rotor k) = search one_answers
HasOneAnswer-keys s part (Pin k) = search (one_answers, one_internal_key)

pub HasOneAnswer-bytes : (position : ℕ) (text : List ℕ) → HasOneAnswer (IsBytesAnswer position text)
HasOneAnswer-bytes position text = search one_answers

pub HasOneAnswer-head : (s : Day) (order : List ℕ) → HasOneAnswer (IsHeadAnswer s order)
HasOneAnswer-head s order = search (one_answers, HasOneAnswer-divided, HasOneAnswer-keys)

pub HasOneAnswer-read : (s : Day) (order : List ℕ) → HasOneAnswer (IsReadAnswer s order)
HasOneAnswer-read s order = search (one_answers, HasOneAnswer-head)

pub orders_have_one_answer : OrdersHaveOneAnswer
orders_have_one_answer s order = search (one_answers, HasOneAnswer-read, one_form) depth 9

pub no_bad_byte : (position : ℕ) (text : List ℕ) (fault : FormFault) → All (λ b. IsTrue (is_text_byte b)) text
    → ¬ (IsBytesAnswer position text (Err fault))
no_bad_byte position text fault allowed found =
    let clash = HasOneAnswer-bytes position text (Ok tt) (Err fault) (bytes_allowed position text allowed) found in cc
