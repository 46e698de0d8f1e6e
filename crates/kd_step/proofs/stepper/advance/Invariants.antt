use Rattle.{std.proofs.Common.{◌≡◌, ℕ, ◌<◌, ◌≤◌, get_or}, kd_step.specs.Stepper.next_letter}
use Rattle.kd_step.proofs.stepper.advance.Given as goal

abbrev pub invariant-loop-letter : goal.invariant-loop-letter
invariant-loop-letter l = record {
  moved : (k : ℕ) → k < l.letter-index → get_or l.letters k 0 ≡ next_letter (get_or l.initial.letters k 0);
  still : (k : ℕ) → l.letter-index ≤ k → get_or l.letters k 0 ≡ get_or l.initial.letters k 0;
}
