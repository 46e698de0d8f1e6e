pub mod Pieces
pub mod Sheets
pub mod Works
pub mod Worksheets
