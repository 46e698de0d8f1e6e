pub mod CommandLine
pub mod Days
pub mod Locale
