pub mod CommandLine
pub mod Inner
