pub mod Edits
pub mod Fixed
pub mod KeepsMatches
