pub mod Appending
pub mod Columns
pub mod Entries
pub mod FirstFault
pub mod FirstOfFile
pub mod FirstSheetFault
pub mod Ranges
pub mod UnreadKeys
