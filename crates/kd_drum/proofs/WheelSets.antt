-- Sets of wheels as numbers, made from a test of each wheel.
use Rattle.{kd_drum.proofs.WheelsAfterLetters.each_wheel, kd_drum.specs.Counts.is_in_set}
use Rattle.{std.proofs.lemmas.Bool.Decides.nat_tests}
use Rattle.std.specs.Int.{from_bool}
use Rattle.std.proofs.Common.{◌≡◌, ℕ, ◌+◌, ◌*◌, ◌-◌, ◌/◌, ◌%◌, ◌^◌, ◌≤◌, Bool, ◌&&◌, eqb, leb, ◌∙◌, arith}

-- the set of the wheels whose tests are true
abbrev pub set_of : Bool → Bool → Bool → Bool → Bool → Bool → ℕ
set_of a1 a2 a3 a4 a5 a6 =
    from_bool a1 + 2 * from_bool a2 + 4 * from_bool a3 + 8 * from_bool a4 + 16 * from_bool a5 + 32 * from_bool a6

bit_is : (b : Bool) (n : ℕ) → n ≡ from_bool b → eqb n 1 ≡ b
bit_is b n e = grind arith

at_most_one : (b : Bool) → from_bool b ≤ 1
at_most_one b = grind arith

-- The bit of each wheel is 1 exactly if its test is true.
bits_are : (a1 a2 a3 a4 a5 a6 : Bool) (does : ℕ → Bool) → a1 ≡ does 1 → a2 ≡ does 2 → a3 ≡ does 3 → a4 ≡ does 4
    → a5 ≡ does 5 → a6 ≡ does 6
    → (wheel : ℕ) → 1 ≤ wheel → wheel ≤ 6 → eqb (set_of a1 a2 a3 a4 a5 a6 / 2 ^ (wheel - 1) % 2) 1 ≡ does wheel
bits_are a1 a2 a3 a4 a5 a6 does e1 e2 e3 e4 e5 e6 =
    let all = set_of a1 a2 a3 a4 a5 a6 in
    let m1 = at_most_one a1 in
    let m2 = at_most_one a2 in
    let m3 = at_most_one a3 in
    let m4 = at_most_one a4 in
    let m5 = at_most_one a5 in
    let m6 = at_most_one a6 in
    each_wheel (λ n. eqb (all / 2 ^ (n - 1) % 2) 1 ≡ does n)
    (bit_is a1 (all / 1 % 2) (omega arith) ∙ e1) (bit_is a2 (all / 2 % 2) (omega arith) ∙ e2)
    (bit_is a3 (all / 4 % 2) (omega arith) ∙ e3)
    (bit_is a4 (all / 8 % 2) (omega arith) ∙ e4) (bit_is a5 (all / 16 % 2) (omega arith) ∙ e5)
    (bit_is a6 (all / 32 % 2) (omega arith) ∙ e6)

-- A wheel is in the set exactly if its test is true.
pub in_set_of : (a1 a2 a3 a4 a5 a6 : Bool) (does : ℕ → Bool) → a1 ≡ does 1 → a2 ≡ does 2 → a3 ≡ does 3 → a4 ≡ does 4
    → a5 ≡ does 5 → a6 ≡ does 6
    → (wheel : ℕ) → is_in_set (set_of a1 a2 a3 a4 a5 a6) wheel ≡ ((leb 1 wheel && leb wheel 6) && does wheel)
in_set_of a1 a2 a3 a4 a5 a6 does e1 e2 e3 e4 e5 e6 wheel =
    grind (arith, nat_tests, bits_are a1 a2 a3 a4 a5 a6 does e1 e2 e3 e4 e5 e6 wheel)
