use Rattle.{arrayvec.specs.ArrayVec.array_vec_len, kd_state.proofs.{Cables.pairs_of, Prelude.{drop, ◌++◌, ◌≡◌, ◌≤◌}}}
use Rattle.kd_state.proofs.engine.ready.plugged_pairs.Given as goal

-- the pairs found so far, followed by the pairs of the cables that are left, are the pairs of all cables
abbrev pub invariant-loop-cable : goal.invariant-loop-cable
invariant-loop-cable l = record {
  few : array_vec_len l.pairs ≤ l.cable-index;
  pairs : pairs_of l.cables ≡ l.pairs.items ++ pairs_of (drop l.cable-index l.cables);
}
