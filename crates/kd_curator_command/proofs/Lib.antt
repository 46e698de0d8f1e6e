pub mod Prelude
pub mod CommandLines
pub mod DaysNamed
pub mod Grammars
pub mod OneCommand
