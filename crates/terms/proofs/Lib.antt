pub mod Entries
pub mod Bitsets
pub mod Runs
pub mod Drafts
pub mod Slices
