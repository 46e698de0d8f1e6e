pub mod ReadBack
pub mod Sections
pub mod Days
