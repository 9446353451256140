pub mod Rules
pub mod Chosen
