pub mod Writes
pub mod Stops
pub mod Ids
pub mod Keeping
pub mod Links
