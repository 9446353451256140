-- The definitions that the contracts use.

pub mod OneCharacter
pub mod Passed
pub mod RegularShape
pub mod TwoWays
pub mod ManyWays
pub mod Witnessed
pub mod Remains
pub mod SlowRepeats
pub mod ThreeWays
pub mod ManySplits
pub mod Across
pub mod Chain
pub mod SlowSequences
pub mod SlowSearches
