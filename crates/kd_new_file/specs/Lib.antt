pub mod NewFileFault
pub mod NewFiles
pub mod WhyUnread
