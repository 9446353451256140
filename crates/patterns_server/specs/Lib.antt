pub mod Renamed
pub mod Stage
