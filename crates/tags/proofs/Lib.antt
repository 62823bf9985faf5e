pub mod Rows
pub mod Splitting
pub mod Lying
pub mod Uncut
pub mod Derivations
pub mod Grammar
pub mod Roads
