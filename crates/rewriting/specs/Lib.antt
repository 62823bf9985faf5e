pub mod Parameters
pub mod Hosts
pub mod Laws
