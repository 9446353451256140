pub mod Line
pub mod Keys
pub mod HasGroups
pub mod Spelled
