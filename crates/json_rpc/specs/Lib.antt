pub mod ErrorCode
pub mod Header
pub mod LongText
