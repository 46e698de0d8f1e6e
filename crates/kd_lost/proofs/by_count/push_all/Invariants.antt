use Rattle.std.proofs.Common.{◌≡◌, ◌++◌, drop, flat_map}
use Rattle.kd_lost.proofs.by_count.push_all.Given as goal

abbrev pub invariant-loop-piece : goal.invariant-loop-piece
invariant-loop-piece l =
    l.fn.bytes.items ++ flat_map (λ piece. piece.now) l.pieces
    ≡ l.bytes.items ++ flat_map (λ piece. piece.now) (drop l.piece-index l.pieces)
