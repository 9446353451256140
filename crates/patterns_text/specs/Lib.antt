pub mod Shown
pub mod Subject
pub mod Captures
