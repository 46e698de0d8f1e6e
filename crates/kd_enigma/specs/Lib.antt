pub mod Plugs
pub mod Rotor
pub mod Cipher
pub mod Map
pub mod CurrentPath
pub mod Laws
pub mod KeptMaps
