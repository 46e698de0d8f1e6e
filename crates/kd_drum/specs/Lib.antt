pub mod Converter
pub mod Counts
pub mod Laws
pub mod SixWheels
