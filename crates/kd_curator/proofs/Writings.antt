-- Texts that are written one after another.
use Rattle.std.proofs.Common.{◌≡◌, ℕ, List, ◌++◌, Option, Result, IsErrAnd}
use Rattle.std.specs.Io.KnownBytes.{Appends}
use Rattle.kd_host.proofs.Failing.{err-holds}
use Rattle.kd_spreadsheet.proofs.Writings.{takes_second}
use Rattle.kd_tables.specs.Writing.{TakesPrefix, Writes}

-- the first text, and a prefix of the second, if there is a fault
pub writes_second : {T E : Type 0} (a b c : Option (List ℕ)) (one two : List ℕ) (answer : Result T E) (fault : E)
    → IsErrAnd answer (λ made. made ≡ fault) → Appends a b one → TakesPrefix b c two → Writes a c (one ++ two) answer
writes_second a b c one two answer fault made first takes = err-holds answer fault (Writes a c (one ++ two)) made
    (record { whole = tt; front = takes_second a b c one two first takes })
