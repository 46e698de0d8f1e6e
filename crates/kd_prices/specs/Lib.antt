pub mod Doubt
pub mod FaultText
pub mod Fitting
pub mod Alike
pub mod Laws
pub mod KindCards
pub mod Grouping
