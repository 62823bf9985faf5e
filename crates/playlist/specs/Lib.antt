pub mod Items
pub mod Lookups
pub mod Sources
pub mod Playlists
