-- A sink that takes a text in several calls of `put`.
use Rattle.std.proofs.Common.{◌≡◌, ℕ, ◌+◌, ◌-◌, Bool, false, ◌||◌, List, length, take, drop, Option, arith}
use Rattle.std.proofs.{KnownBytes.Appends-trans, Math.Seq.take-add, lemmas.List.take_rest}
use Rattle.std.specs.Io.KnownBytes.{Appends}

-- A `put` that succeeds doesn't change whether the sink has failed.
pub still_failed : (now before first : Bool) → now ≡ (before || false) → before ≡ first → now ≡ first
still_failed now before first e d = grind (arith, e)

-- If a sink took the first `done` bytes, and then the next `count` bytes, it took the first `done + count`
-- bytes.
pub takes_more : (a b c : Option (List ℕ)) (bytes : List ℕ) (done count : ℕ) → Appends a b (take done bytes)
    → Appends b c (take count (take (length bytes - done) (drop done bytes)))
    → Appends a c (take (done + count) bytes)
takes_more a b c bytes done count first second = grind (arith, take-add, Appends-trans, take_rest)
