-- The lemmas on drawing, for the crates above.
pub use Rattle.kd_pictures.proofs.Drawings.{Draws_none, Draws_put, both, joined, writes_part}
