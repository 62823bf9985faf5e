pub mod ServiceTables
pub mod Resolved
