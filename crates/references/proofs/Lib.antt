pub mod Walks
pub mod Writes
pub mod Pieces
pub mod Outcome
pub mod Named
pub mod Recomposed
pub mod Laws
pub mod Loops
