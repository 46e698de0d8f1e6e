use Rattle.std.specs.Prelude.{◌≡◌, ◌≤◌, ℕ, List, Option, IfSome, IsSome}
use Rattle.kd_new_file.specs.NewFiles.{FilesByName, part_name}
use Rattle.kd_new_file.proofs.new_file.begin.Given as goal

-- The files are as before, and the first names that were tried are taken.
pub record HasTried (before files : Option FilesByName) (name : List ℕ) (tried : ℕ) : Type 0 where
  pub same : files ≡ before
  pub taken : IfSome before (λ known. (number : ℕ) → 1 ≤ number → number ≤ tried
      → IsSome (known (part_name name number)))

abbrev pub invariant-loop-number : goal.invariant-loop-number
invariant-loop-number g l =
    HasTried (g.N.NewFiles.held l.initial.files) (g.N.NewFiles.held l.files) l.name l.number
