pub mod Cables
pub mod FilledArrays
pub mod Maps
pub mod Ways
pub mod Seats
pub mod Ciphers
