pub mod Linking
pub mod Planned
pub mod Promised
