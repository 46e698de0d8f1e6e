pub mod Faults
pub mod Kind
pub mod NotToml
pub mod SheetFaults
pub mod Texts
pub mod Unread
pub mod Warnings
