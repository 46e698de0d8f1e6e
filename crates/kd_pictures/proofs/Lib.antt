pub mod Choices
pub mod Drawings
pub mod Templates
pub mod PlainValues
pub mod SocketTables
pub mod LinesApart
