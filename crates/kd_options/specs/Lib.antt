pub mod TableOptions
