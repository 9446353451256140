-- What is true of each parsed tree, by the clauses of `IsWritable`; the modules are in reading order, and `Join` is
-- last.

-- ---- the group information
pub mod Lists
pub mod NumberedGroups
pub mod ParsedInfo
-- ---- what is read without trees
pub mod Readers
pub mod Targets
pub mod Escapes
-- ---- the raw tree
pub mod Nodes
pub mod Derived
-- ---- the parsed tree
pub mod Resolved
pub mod References
pub mod Numeric
-- ---- the join
pub mod Join
