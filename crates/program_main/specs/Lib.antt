pub mod Exits
pub mod Messages
