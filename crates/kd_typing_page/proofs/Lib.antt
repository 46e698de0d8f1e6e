pub mod Pages
pub mod TemplatesChecked
