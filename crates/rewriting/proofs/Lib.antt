pub mod Steps
pub mod Written
pub mod Sets
pub mod Queries
pub mod Runs
pub mod Promises
pub mod Hosted
mod Examples
