-- The Converter's key letters, from their copies.
use Rattle.std.proofs.Common.{◌≡◌, ◌∙◌, ℕ, ◌+◌, ◌<◌, List, [], ◌∷◌, length, All, Any, Contains, refl, sym, ap, subst}
use Rattle.std.proofs.Common.{arith}
use Rattle.std.proofs.Common.{Option, Some, None, Result, Ok, Err, suc, ◌++◌, ◌≤◌, ◌-◌, take, drop, get_or}
use Rattle.std.proofs.Common.{append_assoc}
use Rattle.std.proofs.Common.{MatchResult, length-drop, Bool, true, false, IsTrue, ◌≢◌, ◌↔◌}
use Rattle.std.specs.Bool.{OnTrue, OnFalse}
use Rattle.std.proofs.lemmas.Bool.{false≢true}
use Rattle.std.proofs.lemmas.List.{drop-drop, get_or_default, take_all}
use Rattle.std.proofs.lemmas.List.Elements.{All-contains, All-cons, All-head, All-nil, All-tail, All-weaker}
use Rattle.kd_state.specs.AnswerRules.{GoesOn, HasFault}
use Rattle.kd_state.proofs.OneAnswer.{ThenNext-Ok, Yields-Ok}
use Rattle.kd_lost.specs.declared.damage.PartDamage.{PartDamage}
use Rattle.kd_lost.specs.declared.damage.PartDamage.TheVariants.{CopiesDiffer, KeyLetterLost}
use Rattle.kd_lost.specs.Lost.{IsLetterFor, Completes}
use Rattle.kd_lost.specs.Copies.{IsKeyLetterAnswer, AreKeyLettersAnswer, chosen_copies}

lost_is_any : (got : Option ℕ) → got ≡ None → IsLetterFor got 0
lost_is_any got none = subst (λ o. IsLetterFor o 0) (sym none) (omega arith)

pub lost_everywhere : (number : ℕ) (copies : List (Option ℕ)) → All (λ got. got ≡ None) copies
    → IsKeyLetterAnswer number copies (Err (KeyLetterLost number))
lost_everywhere number copies none =
    GoesOn tt (0, All-weaker (λ got. got ≡ None) (λ got. IsLetterFor got 0) lost_is_any copies none) (
      (λ letter found. let is = All-contains (λ got. got ≡ None) copies (Some letter) none found in absurd (cc)),
      refl,
    )

pub two_letters : (number : ℕ) (copies : List (Option ℕ)) (letter : ℕ) → Contains copies (Some letter)
    → Any (λ got. ¬ (IsLetterFor got letter)) copies → IsKeyLetterAnswer number copies (Err (CopiesDiffer number))
two_letters number copies letter found (k, got, inside, is, bad) = HasFault _ (
  (λ _ (x, all).
      let same : x ≡ letter = All-contains (λ got. IsLetterFor got x) copies (Some letter) all found in
      bad (subst (IsLetterFor got) same (subst (λ o. IsLetterFor o x) is (all k got inside)))),
  refl,
) refl

pub one_letter : (number : ℕ) (copies : List (Option ℕ)) (letter : ℕ) → Contains copies (Some letter)
    → All (λ got. IsLetterFor got letter) copies → IsKeyLetterAnswer number copies (Ok letter)
one_letter number copies letter found all = GoesOn tt (letter, all) found

-- the letter that is found is the letter of each copy
pub letter_of_each : (number : ℕ) (copies : List (Option ℕ)) (letter : ℕ) → IsKeyLetterAnswer number copies (Ok letter)
    → All (λ got. IsLetterFor got letter) copies
letter_of_each number copies letter read =
    let (x, all) = (ThenNext-Ok read).says in
    let same : x ≡ letter = All-contains (λ got. IsLetterFor got x) copies (Some letter) all (ThenNext-Ok read).next in
    subst (λ l. All (λ got. IsLetterFor got l) copies) same all

-- a letter that may be each copy is the one that is found
pub only_letter : (number : ℕ) (copies : List (Option ℕ)) (letter x : ℕ) → IsKeyLetterAnswer number copies (Ok letter)
    → All (λ got. IsLetterFor got x) copies → x ≡ letter
only_letter number copies letter x read all =
    All-contains (λ got. IsLetterFor got x) copies (Some letter) all (ThenNext-Ok read).next

pub key_letters_length : (number : ℕ) (start end : List (Option ℕ)) (letters : List ℕ) → length start ≡ length end
    → AreKeyLettersAnswer number start end (Ok letters) → length letters ≡ length start
key_letters_length number [] end letters same read = ap length (Yields-Ok read)
key_letters_length number (one ∷ start) [] letters same read = absurd (omega (arith, same))
key_letters_length number (one ∷ start) (other ∷ end) letters same read =
    let first = ThenNext-Ok read in
    let rest = ThenNext-Ok first.next in
    ap length (Yields-Ok rest.next)
    ∙ ap suc (key_letters_length (number + 1) start end rest.found (omega (arith, same)) rest.says)

-- the letters that are found complete both copies
pub key_letters_complete : (number : ℕ) (start end : List (Option ℕ)) (letters : List ℕ) → length start ≡ length end
    → AreKeyLettersAnswer number start end (Ok letters) → Completes start letters × Completes end letters
key_letters_complete number [] [] letters same read =
    subst (λ l. Completes [] l × Completes [] l) (sym (Yields-Ok read)) (tt, tt)
key_letters_complete number [] (other ∷ end) letters same read = absurd (omega (arith, same))
key_letters_complete number (one ∷ start) [] letters same read = absurd (omega (arith, same))
key_letters_complete number (one ∷ start) (other ∷ end) letters same read =
    let first = ThenNext-Ok read in
    let rest = ThenNext-Ok first.next in
    let each = letter_of_each number (one ∷ other ∷ []) first.found first.says in
    let is = All-head (λ got. IsLetterFor got first.found) one (other ∷ []) each in
    let also = All-head (λ got. IsLetterFor got first.found) other []
    (All-tail (λ got. IsLetterFor got first.found) one (other ∷ []) each) in
    let more = key_letters_complete (number + 1) start end rest.found (omega (arith, same)) rest.says in
    subst (λ l. Completes (one ∷ start) l × Completes (other ∷ end) l) (sym (Yields-Ok rest.next))
    ((is, more.0), (also, more.1))

-- letters that complete both copies are those that are found
pub only_letters : (number : ℕ) (start end : List (Option ℕ)) (letters whole : List ℕ)
    → AreKeyLettersAnswer number start end (Ok letters) → Completes start whole → Completes end whole → whole ≡ letters
only_letters number [] end letters [] read a b = sym (Yields-Ok read)
only_letters number [] end letters (x ∷ whole) read a b = absurd a
only_letters number (one ∷ start) end letters [] read a b = absurd a
only_letters number (one ∷ start) [] letters (x ∷ whole) read a b = absurd b
only_letters number (one ∷ start) (other ∷ end) letters (x ∷ whole) read a b =
    let first = ThenNext-Ok read in
    let rest = ThenNext-Ok first.next in
    let each = All-cons (λ got. IsLetterFor got x) one (other ∷ []) a.0
    (All-cons (λ got. IsLetterFor got x) other [] b.0 (All-nil (λ got. IsLetterFor got x))) in
    let here = only_letter number (one ∷ other ∷ []) first.found x first.says each in
    let more = only_letters (number + 1) start end rest.found whole rest.says a.1 b.1 in
    (λ i. here i ∷ more i) ∙ sym (Yields-Ok rest.next)

-- ---- what the code of `push_key_letters` finds at one place

pub step_fails : (number : ℕ) (start end : List (Option ℕ)) (one other : Option ℕ) (damage : PartDamage)
    → 1 ≤ length start → one ≡ get_or start 0 one → 1 ≤ length end → other ≡ get_or end 0 other
    → IsKeyLetterAnswer number (one ∷ other ∷ []) (Err damage) → AreKeyLettersAnswer number start end (Err damage)
step_fails number [] end one other damage some is more also failed = absurd (omega (arith, some))
step_fails number (x ∷ start) [] one other damage some is more also failed = absurd (omega (arith, more))
step_fails number (x ∷ start) (y ∷ end) one other damage some is more also failed =
    HasFault damage (subst (λ l. IsKeyLetterAnswer number l (Err damage)) (λ i. is i ∷ also i ∷ []) failed) refl

abbrev pub HasPushed : ℕ → List (Option ℕ) → List (Option ℕ) → List ℕ → List ℕ → Result (Unit {0}) PartDamage → Type 0
HasPushed number start end old new answer =
    MatchResult answer (λ _. (more : List ℕ) × AreKeyLettersAnswer number start end (Ok more) × (new ≡ old ++ more))
    (λ damage. AreKeyLettersAnswer number start end (Err damage))

pub step_goes : (number : ℕ) (start end : List (Option ℕ)) (one other : Option ℕ) (letter : ℕ) (old pushed new : List ℕ)
    (answer : Result (Unit {0}) PartDamage)
    → 1 ≤ length start → one ≡ get_or start 0 one → 1 ≤ length end → other ≡ get_or end 0 other
    → IsKeyLetterAnswer number (one ∷ other ∷ []) (Ok letter) → pushed ≡ old ++ letter ∷ []
    → HasPushed (number + 1) (drop 1 start) (drop 1 end) pushed new answer → HasPushed number start end old new answer
step_goes number [] end one other letter old pushed new answer some is more also read joined next =
    absurd (omega (arith, some))
step_goes number (x ∷ start) [] one other letter old pushed new answer some is more also read joined next =
    absurd (omega (arith, more))
step_goes number (x ∷ start) (y ∷ end) one other letter old pushed new (Ok done) some is more also read joined next =
    let first = subst (λ l. IsKeyLetterAnswer number l (Ok letter)) (λ i. is i ∷ also i ∷ []) read in (
      letter ∷ next.0,
      GoesOn letter first (GoesOn next.0 next.1 refl),
      next.2 ∙ ap (λ l. l ++ next.0) joined ∙ append_assoc old (letter ∷ []) next.0,
    )
step_goes number (x ∷ start) (y ∷ end) one other letter old pushed new (Err damage) some is more also read joined next =
    let first = subst (λ l. IsKeyLetterAnswer number l (Ok letter)) (λ i. is i ∷ also i ∷ []) read in
    GoesOn letter first (HasFault damage next refl)

-- ---- the keys

item_there : (xs : List (Option ℕ)) (i : ℕ) (x : Option ℕ) → i < length xs → x ≡ get_or xs i x → x ≡ get_or xs i None
item_there xs i x inside is = is ∙ get_or_default xs i x None inside

pub chosen_there : (start end : List (Option ℕ)) (a b c d : Option ℕ) → 2 ≤ length start → 2 ≤ length end
    → a ≡ get_or start 0 a → b ≡ get_or start 1 b → c ≡ get_or end 0 c → d ≡ get_or end 1 d
    → a ∷ b ∷ c ∷ d ∷ [] ≡ chosen_copies start end
chosen_there start end a b c d some more one two three four =
    let first = item_there start 0 a (omega (arith, some)) one in
    let second = item_there start 1 b (omega (arith, some)) two in
    let third = item_there end 0 c (omega (arith, more)) three in
    let fourth = item_there end 1 d (omega (arith, more)) four in
    λ i. first i ∷ second i ∷ third i ∷ fourth i ∷ []

pub all_but : (xs : List (Option ℕ)) (n : ℕ) → take (length xs - n) (drop n xs) ≡ drop n xs
all_but xs n = take_all (length xs - n) (drop n xs) (omega (arith, length-drop {A = Option ℕ}))

pub four_hold : (P : Option ℕ → Type 0) (a b c d : Option ℕ) → P a → P b → P c → P d → All P (a ∷ b ∷ c ∷ d ∷ [])
four_hold P a b c d one two three four =
    All-cons P a (b ∷ c ∷ d ∷ []) one (All-cons P b (c ∷ d ∷ []) two
    (All-cons P c (d ∷ []) three (All-cons P d [] four (All-nil P))))

pub each_of_four : (P : Option ℕ → Type 0) (a b c d : Option ℕ) → All P (a ∷ b ∷ c ∷ d ∷ []) → P a × P b × P c × P d
each_of_four P a b c d all =
    let more = All-tail P a (b ∷ c ∷ d ∷ []) all in
    let rest = All-tail P b (c ∷ d ∷ []) more in
    let last = All-tail P c (d ∷ []) rest in (
      All-head P a (b ∷ c ∷ d ∷ []) all,
      All-head P b (c ∷ d ∷ []) more,
      All-head P c
          (d ∷ []) rest,
      All-head P d [] last,
    )

-- ---- what `decipher_pin` says of the copies

pub list_there : (received : List (Option ℕ)) → 10 ≤ length received
    → drop 8 (drop (length received - 10) received) ≡ drop (length received - 2) received
list_there received some =
    let place : length received - 10 + 8 ≡ length received - 2 = omega (arith, some) in
    drop-drop 8 (length received - 10) received ∙ ap (λ n. drop n received) (omega (arith, some))

pub lost_or_not : (lost : Bool) (xs : List (Option ℕ)) → OnTrue lost (Any (λ got. got ≡ None) xs)
    → OnFalse lost (All (λ got. got ≢ None) xs) → IsTrue lost ↔ Any (λ got. got ≡ None) xs
lost_or_not true xs some none = (λ _. some, λ _. refl)
lost_or_not false xs some none = (
  λ is. absurd (false≢true is),
  λ (k, got, inside, is, gone).
      absurd (none k got inside (is ∙ gone)),
)
