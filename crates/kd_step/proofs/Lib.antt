pub mod Steps
pub mod LettersAfterStep
