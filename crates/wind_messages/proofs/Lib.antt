pub mod NextIds
pub mod Rows
pub mod Calls
pub mod Parts
pub mod Steps
pub mod Conserved
