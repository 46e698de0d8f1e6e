pub mod Prices
pub mod Assignment
pub mod Cheapest
pub mod PartialAssignment
pub mod Tree
pub mod Scans
