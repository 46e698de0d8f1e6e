-- Numbers as text.
use Rattle.std.specs.Prelude.{codes, ℕ, ◌++◌, nat_lt, List, decimal, if◌then◌else◌}

-- a number with at least two digits, such as `05`; key sheets have such numbers for rings
unfoldable pub two_digits : ℕ → List ℕ
two_digits number = (if nat_lt number 10 then codes "0" else codes "") ++ decimal number
