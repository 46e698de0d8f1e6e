pub mod Prelude
pub mod CommandLines
pub mod Grammars
pub mod SaidCommands
