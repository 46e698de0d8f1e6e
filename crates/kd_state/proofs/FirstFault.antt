-- What the steps of a `do` found and tested, if the last one succeeds.
use Rattle.kd_state.proofs.Prelude.{Bool, None, Option, Some, demand, false, refl, true, ◌>>=◌, ◌>>◌, ◌≡◌}
use Rattle.std.specs.Prelude.{ok_or, Result, Ok}

-- If a thing is looked for and the next step succeeds, the thing was found, and the next step succeeds with it.
pub found-Ok : {A B F : Type 0} (found : Option A) (fault : F) (next : A → Result B F) {after : B}
    → (ok_or found fault >>= next) ≡ Ok after → (x : A) × (found ≡ Some x) × (next x ≡ Ok after)
found-Ok (Some x) fault next e = (x, refl, e)
found-Ok None fault next e = absurd (cc)

-- If a test and the next step succeed, the test is true.
pub demand-Ok : {B F : Type 0} (test : Bool) (fault : F) (next : Result B F) {after : B}
    → (demand test fault >> next) ≡ Ok after → (test ≡ true) × (next ≡ Ok after)
demand-Ok true fault next e = (refl, e)
demand-Ok false fault next e = absurd (cc)
