pub mod MemberLemmas
pub mod OneCharacterLemmas
