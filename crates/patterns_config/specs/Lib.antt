-- The definitions that the contracts use.

pub mod Wild
pub mod Globs
pub mod FileSettings
pub mod Levels
