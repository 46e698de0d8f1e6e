-- How a program ends that has no line for standard error.
use Rattle.std.proofs.Common.{◌≡◌, ℕ, Bool, true, false, ◌||◌, List, [], Option, None, Some, Ok, refl, sym, append-nil}
use Rattle.std.specs.Io.KnownBytes.{Appends}
use Rattle.{kd_host.specs.Ending.EndsWithLine, kd_tables.specs.Ports.port}

or_false : (b : Bool) → (b || false) ≡ b
or_false false = refl
or_false true = refl

Appends-nothing : (known : Option (List ℕ)) → Appends known known []
Appends-nothing None = tt
Appends-nothing (Some bytes) = sym (append-nil bytes)

-- if nothing is written to standard error, the line is empty
pub ends_without_line : {E : Type 0} (taken : E → Option (List ℕ)) (failed : E → Bool) (errors : E) (status : ℕ)
    → EndsWithLine [] status (port taken failed errors errors) status
ends_without_line taken failed errors status = record {
  ends = refl;
  written = Ok tt;
  told = record { whole = Appends-nothing (taken errors); front = tt };
  failed = sym (or_false (failed errors));
}
