pub mod PinWheel
pub mod PinWheels
