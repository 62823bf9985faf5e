pub mod StandIn
pub mod Looking
pub mod Answering
pub mod Passed
pub mod Orders
pub mod Sound
