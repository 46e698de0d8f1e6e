pub mod Prelude
pub mod GrownTree
pub mod ScanCounts
pub mod TreeGrowth
pub mod Places
pub mod Sums
pub mod AllRows
pub mod Differences
