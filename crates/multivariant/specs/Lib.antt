pub mod Rules
pub mod Tags
pub mod Streams
pub mod Views
pub mod Items
pub mod Spans
pub mod Offences
pub mod Checks
