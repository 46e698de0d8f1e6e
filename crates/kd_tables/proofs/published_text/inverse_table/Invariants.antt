use Rattle.std.proofs.Common.{◌≡◌, ℕ, ◌<◌, length, get_or}
use Rattle.kd_tables.proofs.published_text.inverse_table.Given as goal

abbrev pub invariant-loop-place : goal.invariant-loop-place
invariant-loop-place l = record {
  size : length l.inverse ≡ 26;
  leads_back : (k : ℕ) → k < l.place → get_or l.inverse (get_or l.table k 0) 0 ≡ k;
}
