pub mod RotorTable
pub mod PinTable
pub mod Laws
pub mod TableText
pub mod Around
pub mod MachineTable
pub mod MachineRows
