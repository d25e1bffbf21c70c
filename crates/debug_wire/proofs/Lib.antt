pub mod Digits
pub mod NumberLemmas
pub mod FrameLemmas
pub mod ReaderLemmas
pub mod EscapeLemmas
