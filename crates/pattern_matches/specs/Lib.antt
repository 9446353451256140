-- The definitions that the contracts use.

pub mod Parts
pub mod Matches
pub mod Defined
pub mod SameMatches
pub mod EngineTurns
pub mod Beginnings
pub mod Lengths
