pub mod Prelude
pub mod Applying
pub mod Exclusions
pub mod Runs
mod Days
mod Printing
mod Checking
mod Receiving
mod Streaming
mod Months
mod FewCables
