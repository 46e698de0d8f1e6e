-- The numbers in a form's headings, and other bytes of headings.
use Rattle.std.proofs.Common.{◌≡◌, ◌∙◌, ℕ, ◌+◌, ◌-◌, ◌*◌, ◌/◌, ◌%◌, ◌<◌, ◌≤◌, ◌==◌, ◌&&◌, Bool, true, false, List, []}
use Rattle.std.proofs.Common.{◌∷◌, ◌++◌, Option, Some, None, Ok, Err, ap, arith, cond, decimal, drop, get_or, inl}
use Rattle.std.proofs.Common.{inr, length, nat_le, refl, slice_get, subst, sym}
use Rattle.std.proofs.lemmas.Bool.{Decides.nat_tests, cases_Bool, cases_lt}
use Rattle.std.proofs.lemmas.Fmt.{decimal_digit, decimal_step}
use Rattle.std.proofs.lemmas.List.{drop_more, drop-drop, get_or-drop}
use Rattle.std.proofs.lemmas.Option.{get_or_from_slice_get, slice_get_within}
use Rattle.std.specs.Option.{option_map_or}
use Rattle.kd_look.specs.FormHeading.{digits_at, number_at, with_byte, with_digit}
use Rattle.kd_look.specs.Signs.{fits_at, fits_mark}
use Rattle.kd_look.specs.declared.message.form_heading.Number.{Number}
use Rattle.kd_look.specs.declared.message.signs.WrongByte.{WrongByte}
use Rattle.kd_look.proofs.LineEnds.{slice_get-next, unfit_next}

abbrev pub number_to : ℕ → ℕ → Number
number_to value end = record { value = value; end = end }

-- -------- one digit

-- `next` is the number `value`, read to `end`, with the digit at `end` appended if there is one
pub data IsDigitRead (text : List ℕ) (value end : ℕ) (next : Number) : Type 0 where
  Digit : (digit : ℕ) → digit < 10 → drop end text ≡ (48 + digit) ∷ drop (end + 1) text
      → next ≡ number_to (value * 10 + digit) (end + 1) → IsDigitRead text value end next
  NoDigit : next ≡ number_to value end → IsDigitRead text value end next

byte_read : (text : List ℕ) (value end byte : ℕ) (fits : Bool) → slice_get text end ≡ Some byte
    → (nat_le 48 byte && nat_le byte 57) ≡ fits
    → IsDigitRead text value end (cond fits (number_to (value * 10 + (byte - 48)) (end + 1)) (number_to value end))
byte_read text value end byte false there fits = NoDigit refl
byte_read text value end byte true there fits =
    let low : 48 ≤ byte = grind (arith, nat_tests, cases_Bool (nat_le 48 byte)) in
    let high : byte ≤ 57 = grind (arith, nat_tests, cases_Bool (nat_le 48 byte)) in
    let same : 48 + (byte - 48) ≡ byte = omega (arith, low) in
    let inside : end < length text = slice_get_within text end byte there in
    Digit (byte - 48) (omega (arith, low, high))
    (drop_more text end byte inside
    ∙ ap (λ b. b ∷ drop (end + 1) text) (get_or_from_slice_get text end byte byte there ∙ sym same)) refl

there_read : (text : List ℕ) (value end : ℕ) (there : Option ℕ) → slice_get text end ≡ there
    → IsDigitRead text value end (option_map_or (with_byte (number_to value end)) there (number_to value end))
there_read text value end None there = NoDigit refl
there_read text value end (Some byte) there = byte_read text value end byte _ there refl

digit_read : (text : List ℕ) (value end : ℕ)
    → IsDigitRead text value end (with_digit text (number_to value end))
digit_read text value end = there_read text value end (slice_get text end) refl

-- ---- a digit that is there, or isn't

digit_next : (text more : List ℕ) (value end digit : ℕ) → drop end text ≡ (48 + digit) ∷ more → digit < 10
    → with_digit text (number_to value end) ≡ number_to (value * 10 + digit) (end + 1)
digit_next text more value end digit next small =
    let there = slice_get-next text more end (48 + digit) next in
    let low : nat_le 48 (48 + digit) ≡ true = grind (arith, nat_tests) in
    let high : nat_le (48 + digit) 57 ≡ true = grind (arith, nat_tests) in
    let same : 48 + digit - 48 ≡ digit = omega arith in
    rw (there, low, high, same) refl

no_digit_there : (value end : ℕ) (there : Option ℕ) → ((byte : ℕ) → there ≡ Some byte → byte < 48)
    → option_map_or (with_byte (number_to value end)) there (number_to value end) ≡ number_to value end
no_digit_there value end None low = refl
no_digit_there value end (Some byte) low =
    let below = low byte refl in
    let off : nat_le 48 byte ≡ false = grind (arith, nat_tests) in
    rw off refl

digit_none : (text : List ℕ) (value end : ℕ) → get_or (drop end text) 0 0 < 48
    → with_digit text (number_to value end) ≡ number_to value end
digit_none text value end low = no_digit_there value end (slice_get text end) (λ byte there.
    let same : get_or (drop end text) 0 0 ≡ byte =
    get_or-drop end text 0 0 ∙ ap (λ n. get_or text n 0) (omega arith) ∙ get_or_from_slice_get text end byte 0 there in
    omega (arith, same, low))

-- -------- numbers with few digits

decimal_two : (a b : ℕ) → 1 ≤ a → a < 10 → b < 10 → decimal (a * 10 + b) ≡ (48 + a) ∷ (48 + b) ∷ []
decimal_two a b some one two =
    let front : (a * 10 + b) / 10 ≡ a = omega arith in
    let last : (a * 10 + b) % 10 ≡ b = omega arith in
    decimal_step (a * 10 + b) (omega arith) (omega arith)
    ∙ rw (front, last, decimal_digit a one) refl

decimal_three : (a b c : ℕ) → 1 ≤ a → a < 10 → b < 10 → c < 10
    → decimal ((a * 10 + b) * 10 + c) ≡ (48 + a) ∷ (48 + b) ∷ (48 + c) ∷ []
decimal_three a b c some one two three =
    let front : ((a * 10 + b) * 10 + c) / 10 ≡ a * 10 + b = omega arith in
    let last : ((a * 10 + b) * 10 + c) % 10 ≡ c = omega arith in
    decimal_step ((a * 10 + b) * 10 + c) (omega arith) (omega arith)
    ∙ rw (front, last, decimal_two a b some one two) refl

-- `digits` are the digits of a number from 1 to 999
data AreDigits (number : ℕ) (digits : List ℕ) : Type 0 where
  One : (a : ℕ) → 1 ≤ a → a < 10 → number ≡ a → digits ≡ (48 + a) ∷ [] → AreDigits number digits
  Two : (a b : ℕ) → 1 ≤ a → a < 10 → b < 10 → number ≡ a * 10 + b → digits ≡ (48 + a) ∷ (48 + b) ∷ []
      → AreDigits number digits
  Three : (a b c : ℕ) → 1 ≤ a → a < 10 → b < 10 → c < 10 → number ≡ (a * 10 + b) * 10 + c
      → digits ≡ (48 + a) ∷ (48 + b) ∷ (48 + c) ∷ [] → AreDigits number digits

are_digits : (number : ℕ) → 1 ≤ number → number < 1000 → AreDigits number (decimal number)
are_digits number some few = elim (cases_lt number 10) [
  | inl one ↦ One number some one refl (decimal_digit number one)
  | inr more ↦ elim (cases_lt number 100) [
    | inl two ↦
        let is : number ≡ number / 10 * 10 + number % 10 = omega arith in
        Two (number / 10) (number % 10) (omega arith) (omega arith) (omega arith) is
        (ap decimal is ∙ decimal_two (number / 10) (number % 10) (omega arith) (omega arith) (omega arith))
    | inr three ↦
        let is : number ≡ (number / 100 * 10 + number / 10 % 10) * 10 + number % 10 = omega arith in
        Three (number / 100) (number / 10 % 10) (number % 10) (omega arith) (omega arith) (omega arith) (omega arith) is
        (ap decimal is
        ∙ decimal_three (number / 100) (number / 10 % 10) (number % 10) (omega arith) (omega arith) (omega arith)
        (omega arith))
  ]
]

-- -------- a number that is there is read

pub drop_next : (text more : List ℕ) (index byte : ℕ) → drop index text ≡ byte ∷ more → drop (index + 1) text ≡ more
drop_next text more index byte next = sym (drop-drop 1 index text) ∙ ap (drop 1) next

module _ (text rest : List ℕ) (index : ℕ) (low : get_or rest 0 0 < 48) where
  none_after : (value end : ℕ) → drop end text ≡ rest → with_digit text (number_to value end) ≡ number_to value end
  none_after value end there = digit_none text value end (omega (arith, low, ap (λ l. get_or l 0 0) there))

  digits_there : (number : ℕ) (digits : List ℕ) → AreDigits number digits → drop index text ≡ digits ++ rest
      → with_digit text (with_digit text (with_digit text (number_to 0 index)))
      ≡ number_to number (index + length digits)
  digits_there number digits (One a some one is are) there =
      let next : drop index text ≡ (48 + a) ∷ rest = there ∙ ap (λ l. l ++ rest) are in
      let first = digit_next text rest 0 index a next one in
      let stop = none_after (0 * 10 + a) (index + 1) (drop_next text rest index (48 + a) next) in
      let value : 0 * 10 + a ≡ a = omega arith in
      rw (first, stop, stop, are, is, value) refl
  digits_there number digits (Two a b some one two is are) there =
      let next : drop index text ≡ (48 + a) ∷ (48 + b) ∷ rest = there ∙ ap (λ l. l ++ rest) are in
      let then = drop_next text ((48 + b) ∷ rest) index (48 + a) next in
      let first = digit_next text ((48 + b) ∷ rest) 0 index a next one in
      let second = digit_next text rest (0 * 10 + a) (index + 1) b then two in
      let stop = none_after ((0 * 10 + a) * 10 + b) (index + 1 + 1) (drop_next text rest (index + 1) (48 + b) then) in
      let place : index + 1 + 1 ≡ index + 2 = omega arith in
      let value : 0 * 10 + a ≡ a = omega arith in
      rw (first, second, stop, are, is, place, value) refl
  digits_there number digits (Three a b c some one two three is are) there =
      let next : drop index text ≡ (48 + a) ∷ (48 + b) ∷ (48 + c) ∷ rest = there ∙ ap (λ l. l ++ rest) are in
      let then = drop_next text ((48 + b) ∷ (48 + c) ∷ rest) index (48 + a) next in
      let last = drop_next text ((48 + c) ∷ rest) (index + 1) (48 + b) then in
      let first = digit_next text ((48 + b) ∷ (48 + c) ∷ rest) 0 index a next one in
      let second = digit_next text ((48 + c) ∷ rest) (0 * 10 + a) (index + 1) b then two in
      let third = digit_next text rest ((0 * 10 + a) * 10 + b) (index + 1 + 1) c last three in
      let place : index + 1 + 1 + 1 ≡ index + 3 = omega arith in
      let value : 0 * 10 + a ≡ a = omega arith in
      rw (first, second, third, are, is, place, value) refl

zero_off : (text rest : List ℕ) (index a : ℕ) → 1 ≤ a → drop index text ≡ (48 + a) ∷ rest
    → fits_at text 48 index ≡ false
zero_off text rest index a some next =
    let there = slice_get-next text rest index (48 + a) next in
    let other : (48 + a == 48) ≡ false = grind (arith, nat_tests) in
    rw (there, other) refl

not_zero : (text rest : List ℕ) (index a : ℕ) → fits_at text 48 index ≡ false → drop index text ≡ (48 + a) ∷ rest
    → 1 ≤ a
not_zero text rest index a other next =
    let off : fits_mark 48 (48 + a) ≡ false = unfit_next text rest 48 index (48 + a) other next in
    grind (arith, nat_tests)

-- the first digit is no zero
no_zero : (text rest digits : List ℕ) (number index : ℕ) → AreDigits number digits → drop index text ≡ digits ++ rest
    → fits_at text 48 index ≡ false
no_zero text rest digits number index (One a some one is are) there =
    zero_off text rest index a some (there ∙ ap (λ l. l ++ rest) are)
no_zero text rest digits number index (Two a b some one two is are) there =
    zero_off text ((48 + b) ∷ rest) index a some (there ∙ ap (λ l. l ++ rest) are)
no_zero text rest digits number index (Three a b c some one two three is are) there =
    zero_off text ((48 + b) ∷ (48 + c) ∷ rest) index a some (there ∙ ap (λ l. l ++ rest) are)

pub number_there : (text rest : List ℕ) (index number : ℕ) → 1 ≤ number → number < 1000
    → drop index text ≡ decimal number ++ rest → get_or rest 0 0 < 48
    → number_at text index ≡ Ok (number_to number (index + length (decimal number)))
unfolding number_at digits_at
number_there text rest index number some few there low =
    let are = are_digits number some few in
    let all = digits_there text rest index low number (decimal number) are there in
    let other = no_zero text rest (decimal number) number index are there in
    let tested : (number == 0) ≡ false = grind (arith, nat_tests) in
    rw (all, tested, other) refl

-- -------- a number that is read is there

-- A number is in the text from `index` on.
pub record IsNumberAt (text : List ℕ) (index : ℕ) (number : Number) : Type 0 where
  pub some : 1 ≤ number.value
  pub few : number.value < 1000
  pub joined : drop index text ≡ decimal number.value ++ drop number.end text
  pub size : number.end ≡ index + length (decimal number.value)

tested_number : (test : Bool) (all number : Number) (one other : WrongByte) (none leads : Bool)
    → (all.value == 0) ≡ none
    → test ≡ leads → cond none (Err one) (cond leads (Err other) (Ok all)) ≡ Ok number
    → (all ≡ number) × (1 ≤ all.value) × (test ≡ false)
tested_number test all number one other true leads none naught is = absurd (cc)
tested_number test all number one other false true none naught is = absurd (cc)
tested_number test all number one other false false none naught is = (cc, grind (arith, nat_tests), naught)

module _ (text : List ℕ) (index : ℕ) where
  one_read : (a : ℕ) → a < 10 → fits_at text 48 index ≡ false → drop index text ≡ (48 + a) ∷ drop (index + 1) text
      → (number : Number) → number_to a (index + 1) ≡ number → IsNumberAt text index number
  one_read a one other first number is =
      let some : 1 ≤ a = not_zero text (drop (index + 1) text) index a other first in
      let digits = decimal_digit a one in
      subst (IsNumberAt text index) is (record {
        some = some;
        few = omega (arith, one);
        joined = first ∙ ap (λ l. l ++ drop (index + 1) text) (sym digits);
        size = ap (λ l. index + length l) (sym digits);
      })

  two_read : (a b : ℕ) → a < 10 → b < 10 → fits_at text 48 index ≡ false
      → drop index text ≡ (48 + a) ∷ drop (index + 1) text
      → drop (index + 1) text ≡ (48 + b) ∷ drop (index + 1 + 1) text
      → (number : Number) → number_to (a * 10 + b) (index + 1 + 1) ≡ number → IsNumberAt text index number
  two_read a b one two other first second number is =
      let some : 1 ≤ a = not_zero text (drop (index + 1) text) index a other first in
      let digits = decimal_two a b some one two in
      subst (IsNumberAt text index) is (record {
        some = omega (arith, some);
        few = omega (arith, one, two);
        joined = first ∙ ap (λ l. (48 + a) ∷ l) second ∙ ap (λ l. l ++ drop (index + 1 + 1) text) (sym digits);
        size = omega (arith, ap length digits);
      })

  three_read : (a b c : ℕ) → a < 10 → b < 10 → c < 10 → fits_at text 48 index ≡ false
      → drop index text ≡ (48 + a) ∷ drop (index + 1) text
      → drop (index + 1) text ≡ (48 + b) ∷ drop (index + 1 + 1) text
      → drop (index + 1 + 1) text ≡ (48 + c) ∷ drop (index + 1 + 1 + 1) text
      → (number : Number) → number_to ((a * 10 + b) * 10 + c) (index + 1 + 1 + 1) ≡ number
      → IsNumberAt text index number
  three_read a b c one two three other first second third number is =
      let some : 1 ≤ a = not_zero text (drop (index + 1) text) index a other first in
      let digits = decimal_three a b c some one two three in
      subst (IsNumberAt text index) is (record {
        some = omega (arith, some);
        few = omega (arith, one, two, three);
        joined = first ∙ ap (λ l. (48 + a) ∷ l) (second ∙ ap (λ l. (48 + b) ∷ l) third)
            ∙ ap (λ l. l ++ drop (index + 1 + 1 + 1) text) (sym digits);
        size = omega (arith, ap length digits);
      })

  abbrev digits_read : Number
  digits_read = with_digit text (with_digit text (with_digit text (number_to 0 index)))

  module _ (number : Number) (is : digits_read ≡ number) (some : 1 ≤ digits_read.value)
      (other : fits_at text 48 index ≡ false) where
    after_two : (a b : ℕ) → a < 10 → b < 10 → drop index text ≡ (48 + a) ∷ drop (index + 1) text
        → drop (index + 1) text ≡ (48 + b) ∷ drop (index + 1 + 1) text
        → with_digit text (with_digit text (number_to 0 index)) ≡ number_to (a * 10 + b) (index + 1 + 1)
        → IsDigitRead text (a * 10 + b) (index + 1 + 1) (with_digit text (number_to (a * 10 + b) (index + 1 + 1)))
        → IsNumberAt text index number
    after_two a b one two first second so (NoDigit e) =
        two_read a b one two other first second number (sym e ∙ ap (with_digit text) (sym so) ∙ is)
    after_two a b one two first second so (Digit c three third e) =
        three_read a b c one two three other first second third number
        (sym e ∙ ap (with_digit text) (sym so) ∙ is)

    after_one : (a : ℕ) → a < 10 → drop index text ≡ (48 + a) ∷ drop (index + 1) text
        → with_digit text (number_to 0 index) ≡ number_to a (index + 1)
        → IsDigitRead text a (index + 1) (with_digit text (number_to a (index + 1)))
        → IsNumberAt text index number
    after_one a one first so (NoDigit e) =
        let stays : with_digit text (with_digit text (number_to 0 index)) ≡ number_to a (index + 1) =
        ap (with_digit text) so ∙ e in
        one_read a one other first number (sym e ∙ ap (with_digit text) (sym stays) ∙ is)
    after_one a one first so (Digit b two second e) =
        after_two a b one two first second (ap (with_digit text) so ∙ e) (digit_read text (a * 10 + b) (index + 1 + 1))

    from_first : IsDigitRead text 0 index (with_digit text (number_to 0 index)) → IsNumberAt text index number
    from_first (NoDigit e) =
        let all : digits_read ≡ number_to 0 index =
        ap (λ n. with_digit text (with_digit text n)) e ∙ ap (with_digit text) e ∙ e in
        absurd (omega (arith, some, ap (λ (n : Number). n.value) all))
    from_first (Digit a one first e) =
        let same : 0 * 10 + a ≡ a = omega arith in
        after_one a one first (e ∙ ap (λ n. number_to n (index + 1)) same) (digit_read text a (index + 1))

pub number_read : (text : List ℕ) (index : ℕ) (number : Number) → number_at text index ≡ Ok number
    → IsNumberAt text index number
unfolding number_at digits_at
number_read text index number is =
    let (all, some, other) = tested_number (fits_at text 48 index)
    (digits_read text index) number _ _ _ _ refl refl is in
    from_first text index number all some other (digit_read text 0 index)
