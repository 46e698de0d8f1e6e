pub mod Endings
pub mod Failing
pub mod FileNames
