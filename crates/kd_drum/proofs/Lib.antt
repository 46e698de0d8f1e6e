pub mod WheelsAfterLetters
pub mod Ciphers
mod Letters
mod WheelSets
