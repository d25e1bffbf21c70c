pub mod Waiting
pub mod Coming
