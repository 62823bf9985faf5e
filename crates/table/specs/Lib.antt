pub mod Contents
pub mod Parts
pub mod Reading
pub mod Walks
pub mod Offences
pub mod Checks
pub mod Tables
pub mod Format
