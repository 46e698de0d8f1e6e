pub mod Words
pub mod Days
pub mod MonthTable
pub mod KeyList
pub mod CsvTable
pub mod TableFile
pub mod Plain
pub mod ReadAgain
