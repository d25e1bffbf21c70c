pub mod Puts
pub mod Session
