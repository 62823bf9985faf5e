pub mod Places
pub mod Lines
pub mod Attributes
pub mod Charsets
pub mod Views
pub mod Grammar
