pub mod Stepper
pub mod Notches
