-- Sources, which give bytes, and sinks, which take bytes: what one call of `get` or `put` does.
-- Code: a source is any type whose `get` satisfies `Gets`; a sink is any type whose `put` satisfies `Puts`.
-- Test: tests/refusals
use Rattle.std.specs.Prelude.{◌≡◌, ◌⊎◌, ℕ, ◌<◌, ◌≤◌, Bool, true, false, List, [], ◌∷◌, length, take, Option, Result}
use Rattle.std.specs.Prelude.{IfOk, OnErr, Ok, Err, IsTrue}
use Rattle.std.specs.Io.KnownBytes.{Appends, Consumes, Keeps, IsAtEnd}
use Rattle.kd_tables.specs.declared.ports.failed.Failed.{Failed}
use Rattle.kd_tables.specs.declared.ports.writing.Device.{Device}

-- the most bytes that the desk reads from one source or file
abbrev pub read_limit : ℕ
read_limit = 1048576

-- A `put` takes a prefix of `bytes`, and returns the prefix's length. The length is 0 only if `bytes` is empty. A `put`
-- that fails takes no byte.
pub record Puts (old new : Option (List ℕ)) (bytes : List ℕ) (answer : Result ℕ Failed) : Type 0 where
  pub within : IfOk answer (λ count. count ≤ length bytes)
  pub some : IfOk answer (λ count. 0 < length bytes → 0 < count)
  pub taken : IfOk answer (λ count. Appends old new (take count bytes))
  pub refused : OnErr answer (Keeps old new)

-- A `get` fills a prefix of the buffer with the source's next bytes, and returns the prefix's length. The length is 0
-- only at the source's end, or for an empty buffer. A `get` that fails takes no byte from the source.
pub record Gets (old new : Option (List ℕ)) (buffer : List ℕ) (answer : Result ℕ Failed) : Type 0 where
  pub within : IfOk answer (λ count. count ≤ length buffer)
  pub given : IfOk answer (λ count. Consumes old new (take count buffer))
  pub ended : answer ≡ Ok 0 → 0 < length buffer → IsAtEnd new
  pub refused : OnErr answer (Keeps old new)

-- A source in memory:
-- - `rest`: the bytes that it can still give
-- - `piece`: the most bytes that one `get` gives
-- - `gets_left`: how many more calls of `get` succeed, or `None` if no call fails
-- - `failed`: whether a `get` has failed
pub record MemorySourceState : Type 0 where
  pub rest : List ℕ
  pub piece : ℕ
  pub gets_left : Option ℕ
  pub failed : Bool

-- A sink in memory:
-- - `taken`: the bytes that it has taken
-- - `limit`: the most bytes that it can take in all
-- - `failed`: whether a `put` has failed
pub record MemorySinkState : Type 0 where
  pub taken : List ℕ
  pub limit : ℕ
  pub failed : Bool

-- ---- A port before and after a call: its bytes, and whether it has failed.
-- Code: a source or a sink that can fail keeps a flag, which a failed `get` or `put` sets.
-- Test: tests/refusals

-- A port (a source or a sink) before and after a call. Its bytes are `had` before the call and `has` after it, or
-- `None` if they aren't known. A source's bytes are those that it can still give. A sink's bytes are those that it has
-- taken.
pub record Port : Type 0 where
  pub had : Option (List ℕ)
  pub has : Option (List ℕ)
  pub had_failed : Bool
  pub has_failed : Bool

-- The `Port` of a source or a sink, whose state is `old` before a call, and `new` after it. From a state, `bytes`
-- gives the bytes, and `failed` says whether a `get` or a `put` has failed.
abbrev pub port : {P : Type 0} → (P → Option (List ℕ)) → (P → Bool) → P → P → Port
port bytes failed old new =
    record { had = bytes old; has = bytes new; had_failed = failed old; has_failed = failed new }

-- The call doesn't change whether the port has failed: `has_failed` equals `had_failed`.
abbrev pub KeepsFailureFlag : Port → Type 0
KeepsFailureFlag p = p.has_failed ≡ p.had_failed

-- After the call, the port `p` has failed. The call doesn't change whether the port `other` has failed.
pub record FailsAlone (p other : Port) : Type 0 where
  pub failed : IsTrue p.has_failed
  pub well : KeepsFailureFlag other

-- What a call does to the failure flags of `source` and `sink`. The last argument is true if the call returned the
-- error `Device`:
-- - If it is true, one port has failed, and the other port's flag is as before the call.
-- - If it is false, both flags are as before the call.
abbrev pub FailureAgrees : Port → Port → Bool → Type 0
FailureAgrees source sink false = KeepsFailureFlag source × KeepsFailureFlag sink
FailureAgrees source sink true = FailsAlone source sink ⊎ FailsAlone sink source

-- What a result of `is_at_end` means:
-- - `true`: the source is at its end, and gave no byte.
-- - `false`: the source gave one byte.
-- - an error: the source gave no byte.
abbrev pub EndAgrees : Option (List ℕ) → Option (List ℕ) → Result Bool Device → Type 0
EndAgrees had has (Ok true) = Consumes had has [] × IsAtEnd has
EndAgrees had has (Ok false) = (byte : ℕ) × Consumes had has (byte ∷ [])
EndAgrees had has (Err _) = Consumes had has []
