pub mod RotorTyping
pub mod PinTyping
pub mod WaysAround
pub mod TableTexts
pub mod MachineTyping
pub mod ReadTables
