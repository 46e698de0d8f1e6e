pub mod Counts
pub mod Items
pub mod NearNames
pub mod Shown
