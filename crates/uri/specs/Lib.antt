pub mod Cuts
pub mod Splits
pub mod Views
pub mod Legal
pub mod Allowed
pub mod Grammar
