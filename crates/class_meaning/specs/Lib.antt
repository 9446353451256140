pub mod CharacterSet
pub mod ClassMeaning
pub mod EnginePattern
