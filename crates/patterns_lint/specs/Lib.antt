pub mod Empty
pub mod Quantifiers
pub mod Branches
pub mod Targets
pub mod Escapes
pub mod Neighbours
pub mod Named
pub mod Silenced
