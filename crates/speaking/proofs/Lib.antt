pub mod Notices
pub mod Codes
pub mod Encodings
pub mod WriteRead
pub mod ReadWrite
pub mod Voices
