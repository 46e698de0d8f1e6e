-- Text that is written to a sink until the sink fails.
use Rattle.std.specs.Prelude.{◌≡◌, ℕ, Bool, true, false, List, Option}
use Rattle.std.specs.Io.KnownBytes.{Appends, Keeps}
use Rattle.kd_tables.specs.Writing.{TakesPrefix}

-- What happens to a sink when a call writes `text` to it.
-- - If the sink hasn't failed after the call, it took the whole text.
-- - If the sink failed during the call, it took only a prefix.
-- - If the sink had failed before the call, it took nothing.
pub record Draws {W : Type 0} (taken : W → Option (List ℕ)) (failed : W → Bool) (old new : W) (text : List ℕ)
    : Type 0 where
  pub whole : failed new ≡ false → (failed old ≡ false) × Appends (taken old) (taken new) text
  pub front : failed old ≡ false → failed new ≡ true → TakesPrefix (taken old) (taken new) text
  pub none : failed old ≡ true → (failed new ≡ true) × Keeps (taken old) (taken new)
