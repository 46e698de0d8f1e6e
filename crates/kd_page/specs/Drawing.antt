-- The effect of writing a text: see `Draws` in `kd_pictures`.
pub use Rattle.kd_pictures.specs.Drawing.{Draws}
