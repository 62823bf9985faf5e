pub mod Dialects
pub mod Meaning
pub mod Limits
pub mod Questions
pub mod Finding
pub mod Rules
