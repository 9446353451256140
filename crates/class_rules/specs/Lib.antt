pub mod ClassSource
pub mod ClassProblems
pub mod Subsumed
pub mod Beginnings
pub mod KnownClasses
pub mod Nodes
pub mod ClassFindings
pub mod Branches
