pub mod Prelude
pub mod Wheels
pub mod Cables
pub mod Slots
pub mod Lines
pub mod CostTable
pub mod Keys
mod WheelsInSlots
pub mod SortedAlike
pub mod FirstFault
pub mod Carrying
mod OneChange
pub mod OneAnswer
