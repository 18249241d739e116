pub mod ReplyLaws
pub mod TableNumbers
pub mod NodeNumbers
pub mod VoiceNumbers
pub mod MergeLaws
pub mod ChoiceLaws
