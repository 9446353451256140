pub mod Formatted
pub mod Spelled
pub mod SpelledViews
