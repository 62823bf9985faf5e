pub mod Paths
pub mod Resolution
pub mod Views
pub mod Laws
pub mod Loops
