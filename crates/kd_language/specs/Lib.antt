pub mod Language
pub mod Template
