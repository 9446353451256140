pub mod Change
pub mod Cursor
pub mod Position
