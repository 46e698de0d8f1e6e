-- How a call leaves its ports when it fails.
use Rattle.std.proofs.Common.{arith, ◌≡◌, ℕ, Bool, true, false, ◌||◌, List, Result, Ok, Err, IsErrAnd, inr, refl, sym}
use Rattle.std.proofs.Common.{subst}
use Rattle.std.specs.Io.KnownBytes.{Appends}
pub use Rattle.kd_tables.proofs.Failing.{err_is}
use Rattle.{kd_tables.specs.Ports.{Port, KeepsFailureFlag, FailureAgrees}, kd_tables.specs.Writing.TakesPrefix}
use Rattle.kd_host.specs.Writing.{WritesText}

-- if a call didn't fail, the port has failed exactly if it had failed before the call
pub has_failed-same : (before after : Bool) → after ≡ (before || false) → after ≡ before
has_failed-same before after e = grind (arith, e)

-- if the source doesn't fail in a call, a port fails exactly if the sink does
pub FailureAgrees-sink : (source sink : Port) (failed : Bool) → KeepsFailureFlag source
    → sink.has_failed ≡ (sink.had_failed || failed) → FailureAgrees source sink failed
FailureAgrees-sink source sink false well is = (well, has_failed-same sink.had_failed sink.has_failed is)
FailureAgrees-sink source sink true well is = inr (record { failed = grind arith; well = well })

-- what holds of `Err fault`, as `?` returns it, holds of the answer
pub err-holds : {T F : Type 0} (answer : Result T F) (fault : F) (P : Result T F → Type 0)
    → IsErrAnd answer (λ made. made ≡ fault) → P (Err fault) → P answer
err-holds answer fault P made p = subst P (sym (err_is answer fault made)) p

-- the sink took the whole text, or a prefix of it
module _ {Fault : Type 0} (device : Fault) (text : List ℕ) (sink : Port) where
  pub in_whole : Appends sink.had sink.has text → WritesText device text sink (Ok tt)
  in_whole taken = record { written = record { whole = taken; front = tt }; device = tt }

  pub in_part : (answer : Result (Unit {0}) Fault) → TakesPrefix sink.had sink.has text
      → IsErrAnd answer (λ made. made ≡ device) → WritesText device text sink answer
  in_part answer taken made = err-holds answer device (λ a. WritesText device text sink a) made
      (record { written = record { whole = tt; front = taken }; device = refl })
