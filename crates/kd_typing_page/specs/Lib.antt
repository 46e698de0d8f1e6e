pub mod Windows
pub mod PinWheels
pub mod Setting
pub mod TypingPage
pub mod Plain
