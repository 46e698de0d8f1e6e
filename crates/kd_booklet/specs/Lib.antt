pub mod Booklet
pub mod Chain
pub mod DayPlan
pub mod HandList
pub mod HandOrder
pub mod SettingChanges
