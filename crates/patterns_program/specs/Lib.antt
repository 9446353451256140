pub mod Accepted
pub mod Edited
pub mod Fixes
pub mod Line
pub mod Progress
pub mod Rewriting
