pub mod Ending
pub mod FileFault
pub mod Files
pub mod Writing
