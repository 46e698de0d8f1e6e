-- How a call that fails answers.
use Rattle.std.proofs.Common.{Err, IsErrAnd, Result, arith, ◌≡◌}

-- an answer that is an error, as `?` returns it, and whose error is `fault`, is `Err fault`
pub err_is : {T F : Type 0} (answer : Result T F) (fault : F)
    → IsErrAnd answer (λ made. made ≡ fault) → answer ≡ Err fault
err_is answer fault e = grind arith
